-- The entries of a property section: their form and their reading.
use Rattle.svn_dump.proofs.Common.{◌≡◌, ℕ, ◌<◌, Bool, true, false, List, [], ◌∷◌, ◌++◌, length, refl, sym, ap, ap₂, subst, ◌∙◌, append_assoc, arith, length-append, Option, Some, None, IsTrue, bytes_eq, option_and_then, option_map, option_or, none-some, same_Some, SectionEntry, IsSectionEntry, IsPiece, deleted_entry_of, entry_of, piece_of, section_end, valued_entry_of}
use Rattle.std.specs.Prelude.{if◌then◌else◌}
use Rattle.svn_dump.proofs.SectionPieces.{IsPieceRead, IsPieceRead-Some, length-piece, piece_of-read}

-- ---- pieces

-- a piece and what follows it, as it is read
IsPieceRead-IsPiece : (letter : ℕ) (text piece rest : List ℕ) → IsPiece letter text piece → IsPieceRead letter (piece ++ rest) text rest
IsPieceRead-IsPiece letter text piece rest is = record {
  digits = is.0;
  number = is.1;
  whole =
      ap (λ all. all ++ rest) is.2 ∙ ap (λ all. letter ∷ 32 ∷ all) (append_assoc is.0 (10 ∷ (text ++ 10 ∷ [])) rest
      ∙ ap (λ all. is.0 ++ 10 ∷ all) (append_assoc text (10 ∷ []) rest));
}

-- the piece that was read
piece_read : (letter : ℕ) (bytes text rest : List ℕ) → IsPieceRead letter bytes text rest → (piece : List ℕ) × IsPiece letter text piece × (bytes ≡ piece ++ rest)
piece_read letter bytes text rest read = (
  letter ∷ 32 ∷ (read.digits ++ 10 ∷ (text ++ 10 ∷ [])),
  (read.digits, read.number, refl),
  read.whole ∙ ap (λ all. letter ∷ 32 ∷ all) (sym (append_assoc read.digits (10 ∷ (text ++ 10 ∷ [])) rest
      ∙ ap (λ all. read.digits ++ 10 ∷ all) (append_assoc text (10 ∷ []) rest))),
)

-- a piece has bytes
length-IsPiece : (letter : ℕ) (text piece : List ℕ) → IsPiece letter text piece → 0 < length piece
length-IsPiece letter text piece is = omega (arith, ap length is.2)

-- ---- an entry that is read

-- what one of a value, or of none, was read from
abbrev IsEntryRead : Bool → List ℕ → List ℕ → Option (List ℕ) → List ℕ → Type 0
IsEntryRead has_changes bytes name (Some value) rest = (more : List ℕ) × IsPieceRead 75 bytes name more × IsPieceRead 86 more value rest
IsEntryRead has_changes bytes name None rest = IsTrue has_changes × IsPieceRead 68 bytes name rest

-- and the other way round
deleted_has_no_value : (bytes name more : List ℕ) → IsPieceRead 68 bytes name more → valued_entry_of bytes ≡ None
deleted_has_no_value bytes name more read = ap valued_entry_of read.whole

-- each is read
entry_of-read : (has_changes : Bool) (bytes name : List ℕ) (value : Option (List ℕ)) (rest : List ℕ) → IsEntryRead has_changes bytes name value rest → entry_of has_changes bytes ≡ Some (record { name = name; value = value }, rest)
unfolding entry_of
entry_of-read has_changes bytes name (Some value) rest (more, named, valued) =
    ap (λ o. option_or o (if has_changes then deleted_entry_of bytes else None))
    (ap (option_and_then _) (piece_of-read 75 bytes name more (omega arith) named) ∙ ap (option_map _) (piece_of-read 86 more value rest (omega arith) valued))
entry_of-read has_changes bytes name None rest (is, read) =
    ap (λ o. option_or o (if has_changes then deleted_entry_of bytes else None)) (deleted_has_no_value bytes name rest read)
    ∙ ap (λ b. if b then deleted_entry_of bytes else None) is ∙ ap (option_map _) (piece_of-read 68 bytes name rest (omega arith) read)

-- and what is read is one
module _ (has_changes : Bool) (bytes : List ℕ) (each : SectionEntry) (rest : List ℕ) where
  valued_read : (o : Option (List ℕ × List ℕ)) → piece_of 75 bytes ≡ o → option_and_then {U = SectionEntry × List ℕ} (λ name. option_map {U = SectionEntry × List ℕ} (λ value. (record { name = name.0; value = Some value.0 }, value.1)) (piece_of 86 name.1)) o ≡ Some (each, rest) → IsEntryRead has_changes bytes each.name each.value rest
  valued_read None at e = absurd (none-some _ e)
  valued_read (Some name) at e = by_value (piece_of 86 name.1) refl e
    where
      by_value : (o : Option (List ℕ × List ℕ)) → piece_of 86 name.1 ≡ o → option_map {U = SectionEntry × List ℕ} (λ value. (record { name = name.0; value = Some value.0 }, value.1)) o ≡ Some (each, rest) → IsEntryRead has_changes bytes each.name each.value rest
      by_value None found none = absurd (none-some _ none)
      by_value (Some value) found some =
          subst (λ (parts : SectionEntry × List ℕ). IsEntryRead has_changes bytes parts.0.name parts.0.value parts.1) (same_Some _ _ some)
          (name.1, IsPieceRead-Some 75 bytes name.0 name.1 (omega arith) at, IsPieceRead-Some 86 name.1 value.0 value.1 (omega arith) found)

  deleted_read : IsTrue has_changes → (o : Option (List ℕ × List ℕ)) → piece_of 68 bytes ≡ o → option_map {U = SectionEntry × List ℕ} (λ name. (record { name = name.0; value = None }, name.1)) o ≡ Some (each, rest) → IsEntryRead has_changes bytes each.name each.value rest
  deleted_read is None at e = absurd (none-some _ e)
  deleted_read is (Some name) at e =
      subst (λ (parts : SectionEntry × List ℕ). IsEntryRead has_changes bytes parts.0.name parts.0.value parts.1) (same_Some _ _ e)
      (is, IsPieceRead-Some 68 bytes name.0 name.1 (omega arith) at)

  either_read : (o : Option (SectionEntry × List ℕ)) → valued_entry_of bytes ≡ o → (b : Bool) → has_changes ≡ b → option_or o (if b then deleted_entry_of bytes else None) ≡ Some (each, rest) → IsEntryRead has_changes bytes each.name each.value rest
  either_read (Some found) at b is e = valued_read (piece_of 75 bytes) refl (at ∙ e)
  either_read None at true is e = deleted_read is (piece_of 68 bytes) refl e
  either_read None at false is e = absurd (none-some _ e)

  IsEntryRead-entry_of : entry_of has_changes bytes ≡ Some (each, rest) → IsEntryRead has_changes bytes each.name each.value rest
  unfolding entry_of
  IsEntryRead-entry_of e = either_read (valued_entry_of bytes) refl has_changes refl e

-- it takes bytes
length-read : (has_changes : Bool) (bytes name : List ℕ) (value : Option (List ℕ)) (rest : List ℕ) → IsEntryRead has_changes bytes name value rest → length rest < length bytes
length-read has_changes bytes name (Some value) rest (more, named, valued) = omega (arith, length-piece 75 bytes name more named, length-piece 86 more value rest valued)
length-read has_changes bytes name None rest (is, read) = length-piece 68 bytes name rest read

pub length-entry : (has_changes : Bool) (bytes : List ℕ) (each : SectionEntry) (rest : List ℕ) → entry_of has_changes bytes ≡ Some (each, rest) → length rest < length bytes
length-entry has_changes bytes each rest e = length-read has_changes bytes each.name each.value rest (IsEntryRead-entry_of has_changes bytes each rest e)

-- ---- its form

-- an entry and what follows it, as it is read
form_read : (has_changes : Bool) (name : List ℕ) (value : Option (List ℕ)) (bytes rest : List ℕ) → IsSectionEntry has_changes name value bytes → IsEntryRead has_changes (bytes ++ rest) name value rest
form_read has_changes name (Some value) bytes rest (first, second, named, valued, whole) = (
  second ++ rest,
  subst (λ all. IsPieceRead 75 all name (second ++ rest)) (sym (ap (λ all. all ++ rest) whole ∙ append_assoc first second rest)) (IsPieceRead-IsPiece 75 name first (second ++ rest) named),
  IsPieceRead-IsPiece 86 value second rest valued,
)
form_read has_changes name None bytes rest (is, piece) = (is, IsPieceRead-IsPiece 68 name bytes rest piece)

-- the entry that was read
read_form : (has_changes : Bool) (bytes name : List ℕ) (value : Option (List ℕ)) (rest : List ℕ) → IsEntryRead has_changes bytes name value rest → (front : List ℕ) × IsSectionEntry has_changes name value front × (bytes ≡ front ++ rest)
read_form has_changes bytes name (Some value) rest (more, named, valued) =
    let (first, is_first, front) = piece_read 75 bytes name more named in
    let (second, is_second, back) = piece_read 86 more value rest valued in (
      first ++ second,
      (first, second, is_first, is_second, refl),
      front ∙ ap (λ all. first ++ all) back ∙ sym (append_assoc first second rest),
    )
read_form has_changes bytes name None rest (is, read) =
    let (piece, is_piece, front) = piece_read 68 bytes name rest read in (piece, (is, is_piece), front)

-- an entry has bytes
length-form : (has_changes : Bool) (name : List ℕ) (value : Option (List ℕ)) (bytes : List ℕ) → IsSectionEntry has_changes name value bytes → 0 < length bytes
length-form has_changes name (Some value) bytes (first, second, named, valued, whole) = omega (arith, ap length whole, length-append first second, length-IsPiece 75 name first named)
length-form has_changes name None bytes (is, piece) = length-IsPiece 68 name bytes piece

-- it is no end
read_goes_on : (has_changes : Bool) (bytes name : List ℕ) (value : Option (List ℕ)) (rest : List ℕ) → IsEntryRead has_changes bytes name value rest → bytes_eq bytes section_end ≡ false
read_goes_on has_changes bytes name (Some value) rest (more, named, valued) = ap (λ all. bytes_eq all section_end) named.whole
read_goes_on has_changes bytes name None rest (is, read) = ap (λ all. bytes_eq all section_end) read.whole

-- ---- an entry at the front of a section

module _ (has_changes : Bool) (each : SectionEntry) (front rest : List ℕ) (is : IsSectionEntry has_changes each.name each.value front) where
  pub length-IsSectionEntry : 0 < length front
  length-IsSectionEntry = length-form has_changes each.name each.value front is

  pub IsSectionEntry-goes_on : bytes_eq (front ++ rest) section_end ≡ false
  IsSectionEntry-goes_on = read_goes_on has_changes (front ++ rest) each.name each.value rest (form_read has_changes each.name each.value front rest is)

  pub entry_of-IsSectionEntry : entry_of has_changes (front ++ rest) ≡ Some (each, rest)
  entry_of-IsSectionEntry = entry_of-read has_changes (front ++ rest) each.name each.value rest (form_read has_changes each.name each.value front rest is)

pub IsSectionEntry-entry_of : (has_changes : Bool) (bytes : List ℕ) (each : SectionEntry) (rest : List ℕ) → entry_of has_changes bytes ≡ Some (each, rest) → (front : List ℕ) × IsSectionEntry has_changes each.name each.value front × (bytes ≡ front ++ rest)
IsSectionEntry-entry_of has_changes bytes each rest e = read_form has_changes bytes each.name each.value rest (IsEntryRead-entry_of has_changes bytes each rest e)

-- ---- by what stands at the front

-- changes have deleted properties besides
pub entry_of-deleted : (has_changes : Bool) (bytes : List ℕ) → valued_entry_of bytes ≡ None → has_changes ≡ true → entry_of has_changes bytes ≡ deleted_entry_of bytes
unfolding entry_of
entry_of-deleted has_changes bytes none is = ap₂ (λ o b. option_or o (if b then deleted_entry_of bytes else None)) none is

-- and whole lists have none
pub entry_of-whole : (has_changes : Bool) (bytes : List ℕ) → has_changes ≡ false → entry_of has_changes bytes ≡ valued_entry_of bytes
unfolding entry_of
entry_of-whole has_changes bytes is = ap (λ b. option_or (valued_entry_of bytes) (if b then deleted_entry_of bytes else None)) is ∙ by (valued_entry_of bytes)
  where
    by : (o : Option (SectionEntry × List ℕ)) → option_or o None ≡ o
    by None = refl
    by (Some found) = refl

-- a property that is there is the entry
pub entry_of-valued : (has_changes : Bool) (bytes : List ℕ) (found : SectionEntry × List ℕ) → Some found ≡ valued_entry_of bytes → valued_entry_of bytes ≡ entry_of has_changes bytes
unfolding entry_of
entry_of-valued has_changes bytes found e = sym e ∙ ap (λ o. option_or o (if has_changes then deleted_entry_of bytes else None)) e
