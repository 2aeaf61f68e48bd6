-- The history of a list of records: each revision has the records that bear its number.
use Rattle.std.specs.Prelude.{ℕ, zero, suc, ◌≤◌, ◌==◌, List, [], ◌∷◌, ◌++◌, AllPairs, filter, map}
use Rattle.svn_path.specs.Path.{same_name}
use Rattle.svn_path.specs.declared.names.NameId.{NameId}
use Rattle.svn_dump.specs.Dump.{record_view}
use Rattle.svn_dump.specs.History.{History, Record}
use Rattle.svn_dump.specs.Tree.{Tree, trees_of}
use Rattle.svn_dump.specs.declared.record.NodeRecord.{NodeRecord}
use Rattle.svn_dump.specs.declared.record.ValueId.{ValueId}

abbrev pub records_of : List NodeRecord → ℕ → List (Record NameId ValueId)
records_of records rev = map record_view (filter (λ each. each.rev == rev) records)

-- the revisions up to this one
unfoldable pub history_to : List NodeRecord → ℕ → History NameId ValueId
history_to records zero = records_of records zero ∷ []
history_to records (suc rev) = history_to records rev ++ records_of records (suc rev) ∷ []

abbrev pub trees_to : List NodeRecord → ℕ → List (Tree NameId ValueId)
trees_to records rev = trees_of same_name (history_to records rev)

-- the records stand in the order of their revisions
abbrev pub AreRising : List NodeRecord → Type 0
AreRising records = AllPairs (λ each later. each.rev ≤ later.rev) records
