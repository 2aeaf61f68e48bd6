-- The property section of a node (Subversion's dump format notes, `notes/dump-load-format.txt`, "property sections"):
-- entries and an end. An entry is a name and a value, with their lengths before them. In version 3 a section under
-- `Prop-delta: true` holds changes to the node's properties, and may have entries of deleted ones too, which are a name
-- with its length. Any other section is the whole list of properties.
use Rattle.std.specs.Prelude.{◌≡◌, ◌≢◌, ◌↔◌, ℕ, zero, suc, ◌+◌, ◌==◌, nat_eq, nat_lt, Bool, IsTrue, ◌&&◌, List, [], ◌∷◌, ◌++◌, Option, Some, None, codes, bytes_eq, drop, fold, length, option_map, option_and_then, slice_index, take, if◌then◌else◌}
use Rattle.std.specs.List.{after_first, before_first, list_any, starts_with}
use Rattle.std.specs.Option.{option_or}
use Rattle.svn_text.specs.Line.{is_newline}
use Rattle.svn_dump.specs.History.{Setting, keep, put}
use Rattle.svn_text.specs.Number.{number_of}

-- an entry: a property and its value, or one that is deleted
pub record SectionEntry : Type 0 where
  pub name : List ℕ
  pub value : Option (List ℕ)

abbrev pub section_end : List ℕ
section_end = codes "PROPS-END" ++ 10 ∷ []

-- ---- the form

-- a letter, a space and the length on a line, the text, and a newline
abbrev pub IsPiece : ℕ → List ℕ → List ℕ → Type 0
IsPiece letter text bytes =
    (digits : List ℕ) × (number_of digits ≡ Some (length text)) × (bytes ≡ letter ∷ 32 ∷ (digits ++ 10 ∷ (text ++ 10 ∷ [])))

-- the bytes are the entry of that name: `K` and `V`, or `D`, which only changes have
abbrev pub IsSectionEntry : Bool → List ℕ → Option (List ℕ) → List ℕ → Type 0
IsSectionEntry has_changes name (Some value) bytes =
    (first second : List ℕ) × IsPiece 75 name first × IsPiece 86 value second × (bytes ≡ first ++ second)
IsSectionEntry has_changes name None bytes = IsTrue has_changes × IsPiece 68 name bytes

-- the bytes are a section of these entries, which are changes or a whole list
abbrev pub IsSection : Bool → List ℕ → List SectionEntry → Type 0
IsSection has_changes bytes [] = bytes ≡ section_end
IsSection has_changes bytes (entry ∷ entries) =
    (front rest : List ℕ) × IsSectionEntry has_changes entry.name entry.value front × (bytes ≡ front ++ rest) × IsSection has_changes rest entries

-- ---- its reading

-- the bytes do not begin with that letter and a space
abbrev pub BeginsOtherwise : ℕ → List ℕ → Type 0
BeginsOtherwise letter bytes = (rest : List ℕ) → bytes ≢ letter ∷ 32 ∷ rest

-- so many bytes, and what follows the newline after them
abbrev pub text_of_length : List ℕ → ℕ → Option (List ℕ × List ℕ)
text_of_length bytes count =
    if nat_lt count (length bytes) && slice_index bytes count == 10 then Some (take count bytes, drop (count + 1) bytes) else None

-- the text of a piece at the front, and what follows the piece
abbrev pub piece_of : ℕ → List ℕ → Option (List ℕ × List ℕ)
piece_of letter bytes =
    if starts_with nat_eq bytes (letter ∷ 32 ∷ []) && list_any is_newline bytes
    then option_and_then (text_of_length (after_first is_newline bytes)) (number_of (drop 2 (before_first is_newline bytes)))
    else None

-- the property at the front, and what follows it
abbrev pub valued_entry_of : List ℕ → Option (SectionEntry × List ℕ)
valued_entry_of bytes =
    option_and_then
    (λ name. option_map (λ value. (record { name = name.0; value = Some value.0 }, value.1)) (piece_of 86 name.1))
    (piece_of 75 bytes)

-- the deleted property at the front, and what follows it
abbrev pub deleted_entry_of : List ℕ → Option (SectionEntry × List ℕ)
deleted_entry_of bytes = option_map (λ name. (record { name = name.0; value = None }, name.1)) (piece_of 68 bytes)

-- the entry at the front, and what follows it
unfoldable pub entry_of : Bool → List ℕ → Option (SectionEntry × List ℕ)
entry_of has_changes bytes = option_or (valued_entry_of bytes) (if has_changes then deleted_entry_of bytes else None)

-- the entries, of which there are fewer than this
unfoldable pub section_up_to : Bool → ℕ → List ℕ → Option (List SectionEntry)
section_up_to has_changes zero bytes = None
section_up_to has_changes (suc most) bytes =
    if bytes_eq bytes section_end then Some []
    else option_and_then
    (λ entry. option_map (λ entries. entry.0 ∷ entries) (section_up_to has_changes most entry.1))
    (entry_of has_changes bytes)

-- each entry takes bytes, so there are fewer than bytes
abbrev pub section_of : Bool → List ℕ → Option (List SectionEntry)
section_of has_changes bytes = section_up_to has_changes (length bytes) bytes

-- a property section is read as its form says, both ways
abbrev pub SectionsAreExact : Type 0
SectionsAreExact =
    (has_changes : Bool) (section : List ℕ) (entries : List SectionEntry) →
    (section_of has_changes section ≡ Some entries) ↔ IsSection has_changes section entries

-- ---- mergeinfo

-- what the last entry of that name says, if there is one: the property's value, or that it is deleted
abbrev pub last_value : List ℕ → List SectionEntry → Option (Option (List ℕ))
last_value name entries = fold (λ found each. if bytes_eq each.name name then Some each.value else found) None entries

abbrev pub mergeinfo_name : List ℕ
mergeinfo_name = codes "svn:mergeinfo"

-- what a section says that doesn't name the mergeinfo: changes keep it, and a whole list has none
abbrev pub setting_unnamed : Bool → Setting (List ℕ)
setting_unnamed has_changes = if has_changes then keep else put None

-- given what the last entry of the mergeinfo says
abbrev pub setting_by_value : Bool → Option (Option (List ℕ)) → Setting (List ℕ)
setting_by_value has_changes None = setting_unnamed has_changes
setting_by_value has_changes (Some value) = put value

-- what a section says of the mergeinfo
abbrev pub setting_by : Bool → List SectionEntry → Setting (List ℕ)
setting_by has_changes entries = setting_by_value has_changes (last_value mergeinfo_name entries)

-- what a node's body says of its mergeinfo, given the length of its property section: that it stays where there is none
abbrev pub setting_of : Bool → Option ℕ → List ℕ → Option (Setting (List ℕ))
setting_of has_changes None body = None
setting_of has_changes (Some zero) body = Some keep
setting_of has_changes (Some (suc n)) body = option_map (setting_by has_changes) (section_of has_changes (take (suc n) body))
