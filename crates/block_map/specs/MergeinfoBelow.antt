-- Whether paths below a path have mergeinfo.
use Rattle.std.specs.Prelude.{◌≡◌, ℕ, ◌≤◌, ◌⊎◌, List, ◌∷◌, ◌++◌, Option, None, IfSome}
use Rattle.svn_path.specs.declared.names.NameId.{NameId}
use Rattle.svn_dump.specs.declared.record.ValueId.{ValueId}
use Rattle.block_map.specs.Look.{Found, at, at_with, is, absent}
use Rattle.block_map.specs.Trie.{LookOfNumbers, as_at}
use Rattle.block_map.specs.declared.mergeinfo_below.MergeinfoBelow.{MergeinfoBelow}
use Rattle.block_map.specs.declared.mergeinfo_below.MergeinfoBelow.TheVariants as below

-- no path below it has any, given what each path has
abbrev pub LackMergeinfoBelow : (List NameId → Option ValueId) → List NameId → Type 0
LackMergeinfoBelow mergeinfo path = (name : NameId) (rest : List NameId) → mergeinfo (path ++ name ∷ rest) ≡ None

-- what is found is known to have none
abbrev pub LacksMergeinfo : Found NameId ValueId → Type 0
LacksMergeinfo (at path tick) = ⊥
LacksMergeinfo (at_with path tick mergeinfo) = mergeinfo ≡ None
LacksMergeinfo (is kind mergeinfo) = mergeinfo ≡ None
LacksMergeinfo absent = Unit {0}

-- of what is found below a path: some may have mergeinfo, or each is what stood below a location, or has none
abbrev pub IsMergeinfoBelow : LookOfNumbers → MergeinfoBelow → Type 0
IsMergeinfoBelow look below.Maybe = Unit {0}
IsMergeinfoBelow look (below.AsAt location) =
    (name : NameId) (rest : List NameId) → (look (name ∷ rest) ≡ as_at location (name ∷ rest)) ⊎ LacksMergeinfo (look (name ∷ rest))

-- the location, if it is one, is not past this tick
abbrev pub IsBelowUpTo : ℕ → MergeinfoBelow → Type 0
IsBelowUpTo tick below.Maybe = Unit {0}
IsBelowUpTo tick (below.AsAt location) = IfSome location (λ at. at.tick ≤ tick)
