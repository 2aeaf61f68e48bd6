-- The keys of a table's set, which are its texts.
use Rattle.std.proofs.Common.{◌≡◌, ℕ, false, List, [], ◌∷◌, ◌++◌, Some, length, get_or, slice_get, position, bytes_eq, refl, sym, ap, ◌∙◌, arith}
use Rattle.std.proofs.lemmas.Cmp.{nat_list_eq_equiv}
use Rattle.std.proofs.lemmas.List.{length_push, get_or_push}
use Rattle.std.proofs.lemmas.List.Quantifiers.{position-Some}
use Rattle.std.proofs.lemmas.Option.{slice_get-get_or}
use Rattle.std.proofs.lemmas.Slice.Eq.{bytes_eq-Decides}
use Rattle.std.specs.List.{list_any, IsDistinct}
use Rattle.indexmap.specs.IndexSet.{insert_key}
use Rattle.svn_text.specs.TextTable.{has_text, IsTextTable}

-- where the first such key is, the table has the text
pub slice_get-position : (texts : List (List ℕ)) (text : List ℕ) (number : ℕ)
    → position (bytes_eq text) texts ≡ Some number → slice_get texts number ≡ Some text
slice_get-position texts text number first =
    let found = position-Some (bytes_eq text) texts number [] first in
    slice_get-get_or texts number [] found.0
    ∙ ap Some (sym ((bytes_eq-Decides text (get_or texts number [])).0 found.1))

-- a text that no key is goes last, so its number is the length
pub slice_get-insert_key : (texts : List (List ℕ)) (text : List ℕ) (number : ℕ)
    → list_any (bytes_eq text) texts ≡ false → number ≡ length texts
    → slice_get (insert_key bytes_eq texts text) number ≡ Some text
slice_get-insert_key texts text number new last =
    rw new
    (slice_get-get_or (texts ++ text ∷ []) number [] (omega (arith, length_push texts text))
    ∙ ap Some (get_or_push texts text [] number (sym last)))

-- a set compares the text with each key, a table each text with the one that is looked for
pub has_text-flipped : (texts : List (List ℕ)) (text : List ℕ) → list_any (bytes_eq text) texts ≡ has_text texts text
has_text-flipped [] text = refl
has_text-flipped (each ∷ texts) text = rw (nat_list_eq_equiv.symm text each, has_text-flipped texts text)

pub IsTextTable-nil : IsTextTable []
unfolding IsDistinct
IsTextTable-nil = record { few = omega arith; distinct = tt }
