-- Lists that only contracts read.
use Rattle.std.specs.Prelude.{ℕ, ◌+◌, List, [], ◌∷◌, ◌++◌, Option, Some, None}
use Rattle.std.specs.declared.snapshot.Snapshot.{Snapshot}

-- the elements, and how deep the snapshots lie one in another
pub record NestedList (X : Type 0) : Type 0 where
  pub items : List X
  pub depth : ℕ

abbrev pub items_in : {X : Type 0} → Option (Snapshot (NestedList X)) → List X
items_in None = []
items_in (Some list) = list.value.items

abbrev pub last_item : {X : Type 0} → Option (Snapshot X) → List X
last_item None = []
last_item (Some item) = item.value ∷ []

abbrev pub depth_above : {X : Type 0} → Option (Snapshot (NestedList X)) → ℕ
depth_above None = 0
depth_above (Some list) = list.value.depth + 1

-- the elements of both, and one more
abbrev pub nested : {X : Type 0} → Option (Snapshot (NestedList X)) → Option (Snapshot (NestedList X)) → Option (Snapshot X) → NestedList X
nested front back last = record {
  items = items_in front ++ items_in back ++ last_item last;
  depth = depth_above front + depth_above back;
}
