-- How a dump grows while more of it is read.
use Rattle.std.specs.Prelude.{◌≡◌, ℕ, ◌≤◌, List, [], ◌∷◌, ◌++◌, ⊤}
use Rattle.svn_dump.specs.Draft.{Extends}
use Rattle.svn_dump.specs.Dump.{DumpValue}
use Rattle.svn_dump.specs.declared.record.NodeRecord.{NodeRecord}

-- each revision has as many records as before, but for the last one, which may have more, and others may follow
abbrev pub CountsGrow : List ℕ → List ℕ → Type 0
CountsGrow [] new = ⊤
CountsGrow (count ∷ old) [] = ⊥
CountsGrow (count ∷ []) (other ∷ new) = count ≤ other
CountsGrow (count ∷ next ∷ old) (other ∷ new) = (count ≡ other) × CountsGrow (next ∷ old) new

-- what has been numbered keeps its number, and what was read stays
pub record GrowsTo (old new : DumpValue) : Type 0 where
  pub names : Extends old.names new.names
  pub values : Extends old.values new.values
  pub records : (more : List NodeRecord) × (new.records ≡ old.records ++ more)
  pub counts : CountsGrow old.counts new.counts
