-- What one record does to the origin of a path that exists after it (Subversion book, "Copying branches": a copy of a
-- directory copies each path below it).
use Rattle.std.specs.Prelude.{◌≡◌, ◌⊎◌, ℕ, Bool, IsTrue, List, Option, None, Some, option_and_then}
use Rattle.svn_path.specs.Below.{is_below}
use Rattle.svn_path.specs.Path.{same_name}
use Rattle.svn_path.specs.declared.names.NameId.{NameId}
use Rattle.svn_dump.specs.Dump.{record_view}
use Rattle.svn_dump.specs.History.{Record}
use Rattle.svn_dump.specs.Tree.{Entry, Tree, entry_at, is_there, tree_after_record}
use Rattle.svn_dump.specs.declared.record.Origin.{Origin}
use Rattle.svn_dump.specs.declared.record.Act.{Act}
use Rattle.svn_dump.specs.declared.record.Act.TheVariants as act
use Rattle.svn_dump.specs.declared.record.NodeRecord.{NodeRecord}

abbrev pub origin_of_entry : {C M : Type 0} → Option (Entry C M) → Option (List C × ℕ)
origin_of_entry entry = option_and_then (λ e. e.origin) entry

-- the path has this origin after the record
pub record SetsOrigin {C M : Type 0} (same : C → C → Bool) (path : List C) (from : Option (List C × ℕ))
    (each : Record C M) : Type 0 where
  pub origin : (trees : List (Tree C M)) (tree : Tree C M)
      → IsTrue (is_there same (tree_after_record same trees tree each) path)
      → origin_of_entry (entry_at same (tree_after_record same trees tree each) path) ≡ from

abbrev pub IsAddition : Act → Type 0
IsAddition (act.Add replace kind mi) = Unit {0}
IsAddition _ = ⊥

abbrev pub IsCopy : Act → Type 0
IsCopy (act.Copy replace from from_rev mi) = Unit {0}
IsCopy _ = ⊥

-- the record adds the path without a copy, or copies to it or to a path above it
abbrev pub SetsPath : NodeRecord → List NameId → Type 0
SetsPath each path =
    (IsAddition each.act × (each.path ≡ path)) ⊎ (IsCopy each.act × IsTrue (is_below same_name each.path path))

abbrev pub origin_view : Option Origin → Option (List NameId × ℕ)
origin_view None = None
origin_view (Some from) = Some (from.path, from.rev)

abbrev pub IsOriginBy : NodeRecord → List NameId → Option Origin → Type 0
IsOriginBy each path from = SetsOrigin same_name path (origin_view from) (record_view each)
