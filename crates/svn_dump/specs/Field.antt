-- The indices of the header names that are read in their list.
use Rattle.std.specs.Prelude.{◌≡◌, ℕ, List, Option, Some, All, IsFalse, bytes_eq, map, slice_get}
use Rattle.svn_dump.specs.Block.{field, listed_names}
use Rattle.svn_dump.specs.declared.grammar.field.Field.{Field}
use Rattle.svn_dump.specs.declared.grammar.field.Field.TheVariants.{Uuid, RevisionNumber, NodePath, NodeKind, NodeAction, CopyfromRevision, CopyfromPath, PropertiesLength, TextLength, ContentLength, PropertiesDelta, TextDelta}

abbrev pub field_index : Field → ℕ
field_index Uuid = 0
field_index RevisionNumber = 1
field_index NodePath = 2
field_index NodeKind = 3
field_index NodeAction = 4
field_index CopyfromRevision = 5
field_index CopyfromPath = 6
field_index PropertiesLength = 7
field_index TextLength = 8
field_index ContentLength = 9
field_index PropertiesDelta = 10
field_index TextDelta = 11

-- the values of the listed names in these header lines
abbrev pub fields_of : List (List ℕ) → List (Option (List ℕ))
fields_of lines = map (λ name. field name lines) listed_names

-- the name is none that is read
abbrev pub IsUnlisted : List ℕ → Type 0
IsUnlisted name = All (λ listed. IsFalse (bytes_eq listed name)) listed_names

-- the field is the one of that name
abbrev pub IsFieldOf : List ℕ → Field → Type 0
IsFieldOf name listed = slice_get listed_names (field_index listed) ≡ Some name
