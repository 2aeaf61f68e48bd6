-- The children of a path as they are kept, in the order of their names.
use Rattle.std.specs.Prelude.{ℕ, List, map}
use Rattle.std.specs.Borrow.{Bor}
use Rattle.std.specs.Cmp.Lexicographic.{slice_cmp}
use Rattle.std.specs.List.Sorted.{IsPermutation, IsSortedByKey}
use Rattle.std.specs.Ordering.{nat_cmp}
use Rattle.svn_path.specs.Names.{name_of}
use Rattle.svn_dump.specs.declared.record.Kind.{Kind}
use Rattle.block_map.specs.declared.entry.Child.{Child}

abbrev pub child_in_bytes : List (List ℕ) → Child → List ℕ × Kind
child_in_bytes names child = (name_of names child.name.0, child.kind)

abbrev pub children_in_bytes : List (List ℕ) → List Child → List (List ℕ × Kind)
children_in_bytes names children = map (child_in_bytes names) children

-- a name that is lent, and its kind
abbrev pub entry_in_bytes : Bor (List ℕ) × Kind → List ℕ × Kind
entry_in_bytes entry = (entry.0.now, entry.1)

abbrev pub entries_in_bytes : List (Bor (List ℕ) × Kind) → List (List ℕ × Kind)
entries_in_bytes entries = map entry_in_bytes entries

-- these are the children, in the order of the bytes of their names
pub record AreInOrder (names : List (List ℕ)) (children : List Child) (entries : List (Bor (List ℕ) × Kind)) : Type 0 where
  pub moved : IsPermutation (children_in_bytes names children) (entries_in_bytes entries)
  pub sorted : IsSortedByKey (λ (entry : Bor (List ℕ) × Kind). entry.0.now) (slice_cmp nat_cmp) entries
