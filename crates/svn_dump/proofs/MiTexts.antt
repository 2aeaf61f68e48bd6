-- The mergeinfo of a property section, entry by entry.
use Rattle.svn_dump.proofs.Common.{◌≡◌, ℕ, zero, suc, ◌≤◌, Bool, true, false, List, [], ◌∷◌, length, fold, refl, sym, ap, ◌∙◌, arith, Option, Some, None, bytes_eq, option_map, option_and_then, cond-true, cond-false, bytes_eq-Decides, Setting, put, SectionEntry, entry_of, section_end, section_up_to, section_of, mergeinfo_name, setting_by, setting_by_value, setting_unnamed}
use Rattle.std.specs.Prelude.{if◌then◌else◌}
use Rattle.svn_dump.proofs.EntriesRead.{length-entry}

abbrev with_value : Option (Option (List ℕ)) → SectionEntry → Option (Option (List ℕ))
with_value found each = if bytes_eq each.name mergeinfo_name then Some each.value else found

abbrev with_entry : Setting (List ℕ) → SectionEntry → Setting (List ℕ)
with_entry found each = if bytes_eq each.name mergeinfo_name then put each.value else found

-- what is found in the rest, given what was found before it
abbrev found_from : Setting (List ℕ) → Option (List SectionEntry) → Option (Setting (List ℕ))
found_from found entries = option_map (λ all. fold with_entry found all) entries

-- the last entry of the mergeinfo is what is found at last
one_entry : (has_changes : Bool) (found : Option (Option (List ℕ))) (each : SectionEntry) → with_entry (setting_by_value has_changes found) each ≡ setting_by_value has_changes (with_value found each)
one_entry has_changes found each = by (bytes_eq each.name mergeinfo_name)
  where
    by : (named : Bool) → (if named then put each.value else setting_by_value has_changes found) ≡ setting_by_value has_changes (if named then Some each.value else found)
    by true = refl
    by false = refl

all_entries : (has_changes : Bool) (found : Option (Option (List ℕ))) (entries : List SectionEntry) → fold with_entry (setting_by_value has_changes found) entries ≡ setting_by_value has_changes (fold with_value found entries)
all_entries has_changes found [] = refl
all_entries has_changes found (each ∷ entries) =
    ap (λ first. fold with_entry first entries) (one_entry has_changes found each) ∙ all_entries has_changes (with_value found each) entries

-- so much was found in front of the rest of the section
pub record IsFinding (has_changes : Bool) (section : List ℕ) (found : Setting (List ℕ)) (rest : List ℕ) : Type 0 where
  pub most : ℕ
  pub enough : length rest ≤ most
  pub same : found_from found (section_up_to has_changes most rest) ≡ option_map (setting_by has_changes) (section_of has_changes section)

pub IsFinding-none : (has_changes : Bool) (section : List ℕ) → IsFinding has_changes section (setting_unnamed has_changes) section
IsFinding-none has_changes section = record { most = length section; enough = omega arith; same = from_none (section_of has_changes section) }
  where
    from_none : (o : Option (List SectionEntry)) → found_from (setting_unnamed has_changes) o ≡ option_map (setting_by has_changes) o
    from_none None = refl
    from_none (Some entries) = ap Some (all_entries has_changes None entries)

-- ---- how a section is read

-- it is at its end
pub section_up_to-end : (has_changes : Bool) (most : ℕ) (bytes : List ℕ) → bytes_eq bytes section_end ≡ true → section_up_to has_changes (suc most) bytes ≡ Some []
unfolding section_up_to
section_up_to-end has_changes most bytes ends = cond-true _ _ _ ends

-- an entry is wanted
pub section_up_to-no_entry : (has_changes : Bool) (most : ℕ) (bytes : List ℕ) → bytes_eq bytes section_end ≡ false → entry_of has_changes bytes ≡ None → section_up_to has_changes most bytes ≡ None
unfolding section_up_to
section_up_to-no_entry has_changes zero bytes goes_on none = refl
section_up_to-no_entry has_changes (suc most) bytes goes_on none = cond-false _ _ _ goes_on ∙ ap (option_and_then _) none

abbrev pub with_first : SectionEntry → Option (List SectionEntry) → Option (List SectionEntry)
with_first each rest = option_map (λ entries. each ∷ entries) rest

-- an entry, and the rest
pub section_up_to-more : (has_changes : Bool) (most : ℕ) (bytes : List ℕ) (each : SectionEntry) (rest : List ℕ) → bytes_eq bytes section_end ≡ false → entry_of has_changes bytes ≡ Some (each, rest) → section_up_to has_changes (suc most) bytes ≡ with_first each (section_up_to has_changes most rest)
unfolding section_up_to
section_up_to-more has_changes most bytes each rest goes_on found = cond-false _ _ _ goes_on ∙ ap (option_and_then _) found

-- ---- one step

found_first : (found : Setting (List ℕ)) (each : SectionEntry) (rest : Option (List SectionEntry)) → found_from found (with_first each rest) ≡ found_from (with_entry found each) rest
found_first found each None = refl
found_first found each (Some entries) = refl

pub IsFinding-more : (has_changes : Bool) (section rest : List ℕ) (each : SectionEntry) (left : List ℕ) (found : Setting (List ℕ)) → bytes_eq rest section_end ≡ false → entry_of has_changes rest ≡ Some (each, left) → IsFinding has_changes section found rest → IsFinding has_changes section (if bytes_eq each.name mergeinfo_name then put each.value else found) left
IsFinding-more has_changes section rest each left found goes_on read before = by_most before.most before.enough before.same
  where
    by_most : (most : ℕ) → length rest ≤ most → found_from found (section_up_to has_changes most rest) ≡ option_map (setting_by has_changes) (section_of has_changes section) → IsFinding has_changes section (if bytes_eq each.name mergeinfo_name then put each.value else found) left
    by_most zero enough same = absurd (omega (arith, length-entry has_changes rest each left read))
    by_most (suc most) enough same = record {
      most = most;
      enough = omega (arith, length-entry has_changes rest each left read);
      same = sym (found_first found each (section_up_to has_changes most left)) ∙ ap (found_from found) (sym (section_up_to-more has_changes most rest each left goes_on read)) ∙ same;
    }

pub found_no_entry : (has_changes : Bool) (section rest : List ℕ) (found : Setting (List ℕ)) → bytes_eq rest section_end ≡ false → entry_of has_changes rest ≡ None → IsFinding has_changes section found rest → None ≡ option_map (setting_by has_changes) (section_of has_changes section)
found_no_entry has_changes section rest found goes_on none before =
    ap (found_from found) (sym (section_up_to-no_entry has_changes before.most rest goes_on none)) ∙ before.same

pub found_all : (has_changes : Bool) (section rest : List ℕ) (found : Setting (List ℕ)) → bytes_eq rest section_end ≡ true → IsFinding has_changes section found rest → Some found ≡ option_map (setting_by has_changes) (section_of has_changes section)
found_all has_changes section rest found ends before = by_most before.most before.enough before.same
  where
    long : 10 ≤ length rest
    long = omega (arith, ap length ((bytes_eq-Decides rest section_end).0 ends))

    by_most : (most : ℕ) → length rest ≤ most → found_from found (section_up_to has_changes most rest) ≡ option_map (setting_by has_changes) (section_of has_changes section) → Some found ≡ option_map (setting_by has_changes) (section_of has_changes section)
    by_most zero enough same = absurd (omega (arith, long))
    by_most (suc most) enough same = ap (found_from found) (sym (section_up_to-end has_changes most rest ends)) ∙ same
