-- The form of a property section and its reading: bytes are a section of these entries exactly where they are read as
-- one.
use Rattle.svn_dump.proofs.Common.{◌≡◌, ℕ, zero, suc, ◌<◌, Bool, false, inl, inr, List, [], ◌∷◌, ◌++◌, length, sym, ap, subst, ◌∙◌, arith, length-append, refl, Option, Some, None, bytes_eq, cases_Bool, none-some, same_Some, bytes_eq-Decides, SectionEntry, entry_of, section_end, section_up_to, section_of, IsSection}
use Rattle.std.specs.Prelude.{◌↔◌}
use Rattle.svn_dump.proofs.EntriesRead.{IsSectionEntry-entry_of, IsSectionEntry-goes_on, entry_of-IsSectionEntry, length-IsSectionEntry}
use Rattle.svn_dump.proofs.MiTexts.{with_first, section_up_to-end, section_up_to-no_entry, section_up_to-more}

-- ---- from the form to the reading

module _ (has_changes : Bool) where
  -- each entry takes bytes
  length-IsSection : (bytes : List ℕ) (entries : List SectionEntry) → IsSection has_changes bytes entries → length entries < length bytes
  length-IsSection bytes [] is = omega (arith, ap length is)
  length-IsSection bytes (each ∷ entries) is =
      let (front, rest, is_entry, whole, more) = is in
      omega (arith, ap length whole, length-append front rest, length-IsSectionEntry has_changes each front rest is_entry, length-IsSection rest entries more)

  -- more steps than entries are enough
  section_up_to-IsSection : (most : ℕ) (bytes : List ℕ) (entries : List SectionEntry) → IsSection has_changes bytes entries → length entries < most → section_up_to has_changes most bytes ≡ Some entries
  section_up_to-IsSection zero bytes entries is enough = absurd (omega arith)
  section_up_to-IsSection (suc most) bytes [] is enough = section_up_to-end has_changes most bytes ((bytes_eq-Decides bytes section_end).1 is)
  section_up_to-IsSection (suc most) bytes (each ∷ entries) is enough =
      let (front, rest, is_entry, whole, more) = is in
      ap (section_up_to has_changes (suc most)) whole
      ∙ section_up_to-more has_changes most (front ++ rest) each rest (IsSectionEntry-goes_on has_changes each front rest is_entry) (entry_of-IsSectionEntry has_changes each front rest is_entry)
      ∙ ap (with_first each) (section_up_to-IsSection most rest entries more (omega arith))

  -- bytes of the form are read as these entries
  pub section_of-IsSection : (bytes : List ℕ) (entries : List SectionEntry) → IsSection has_changes bytes entries → section_of has_changes bytes ≡ Some entries
  section_of-IsSection bytes entries is = section_up_to-IsSection (length bytes) bytes entries is (length-IsSection bytes entries is)

-- ---- and back

module _ (has_changes : Bool) (bytes : List ℕ) (most : ℕ) (onward : (rest : List ℕ) (entries : List SectionEntry) → section_up_to has_changes most rest ≡ Some entries → IsSection has_changes rest entries) where
  by_rest : (each : SectionEntry) (rest : List ℕ) (entries : List SectionEntry) → entry_of has_changes bytes ≡ Some (each, rest) → (o : Option (List SectionEntry)) → section_up_to has_changes most rest ≡ o → with_first each o ≡ Some entries → IsSection has_changes bytes entries
  by_rest each rest entries read None at e = absurd (none-some entries e)
  by_rest each rest entries read (Some others) at e =
      let (front, is, whole) = IsSectionEntry-entry_of has_changes bytes each rest read in
      subst (IsSection has_changes bytes) (same_Some _ entries e) (front, rest, is, whole, onward rest others at)

  by_entry : (entries : List SectionEntry) → bytes_eq bytes section_end ≡ false → (o : Option (SectionEntry × List ℕ)) → entry_of has_changes bytes ≡ o → section_up_to has_changes (suc most) bytes ≡ Some entries → IsSection has_changes bytes entries
  by_entry entries goes_on None at e = absurd (none-some entries (sym (section_up_to-no_entry has_changes (suc most) bytes goes_on at) ∙ e))
  by_entry entries goes_on (Some read) at e =
      by_rest read.0 read.1 entries at (section_up_to has_changes most read.1) refl (sym (section_up_to-more has_changes most bytes read.0 read.1 goes_on at) ∙ e)

  by_end : (entries : List SectionEntry) → section_up_to has_changes (suc most) bytes ≡ Some entries → IsSection has_changes bytes entries
  by_end entries e =
      elim (cases_Bool (bytes_eq bytes section_end)) [
        | inl ends ↦
            subst (IsSection has_changes bytes) (same_Some _ entries (sym (section_up_to-end has_changes most bytes ends) ∙ e)) ((bytes_eq-Decides bytes section_end).0 ends)
        | inr goes_on ↦ by_entry entries goes_on (entry_of has_changes bytes) refl e
      ]

IsSection-section_up_to : (has_changes : Bool) (most : ℕ) (bytes : List ℕ) (entries : List SectionEntry) → section_up_to has_changes most bytes ≡ Some entries → IsSection has_changes bytes entries
unfolding section_up_to
IsSection-section_up_to has_changes zero bytes entries e = absurd (none-some entries e)
IsSection-section_up_to has_changes (suc most) bytes entries e = by_end has_changes bytes most (λ rest others at. IsSection-section_up_to has_changes most rest others at) entries e

-- bytes that are read as these entries are of the form
pub IsSection-section_of : (has_changes : Bool) (bytes : List ℕ) (entries : List SectionEntry) → section_of has_changes bytes ≡ Some entries → IsSection has_changes bytes entries
IsSection-section_of has_changes bytes entries e = IsSection-section_up_to has_changes (length bytes) bytes entries e

-- a section is read as its form says
pub section_of-both : (has_changes : Bool) (bytes : List ℕ) (entries : List SectionEntry) → (section_of has_changes bytes ≡ Some entries) ↔ IsSection has_changes bytes entries
section_of-both has_changes bytes entries = (IsSection-section_of has_changes bytes entries, section_of-IsSection has_changes bytes entries)
