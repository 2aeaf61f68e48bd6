-- What the words on parts of a list say of bytes that were cut.
use Rattle.std.proofs.Common.{◌≡◌, ℕ, ◌+◌, ◌-◌, ◌<◌, ◌≤◌, ◌==◌, Bool, true, false, not, List, [], ◌∷◌, ◌++◌, length, get_or, take, drop, refl, sym, ap, ◌∙◌, arith, length-append, length-drop, eq-eqb, rules, tests, suc, Some, take-append-drop}
use Rattle.std.proofs.lemmas.Bool.{false_from_ne_true, not_from_false, not_from_true}
use Rattle.std.proofs.lemmas.List.{get_or-drop}
use Rattle.std.proofs.lemmas.List.Elements.{All-from_get_or, All-get_or}
use Rattle.std.proofs.lemmas.List.Splits.{slice_split_none, slice_split_at}
use Rattle.std.proofs.lemmas.List.Sums.{suffix_len_is}
use Rattle.std.proofs.Math.Seq.{drop-cons, take-append_seam, drop-append-add, get_or-append_seam, get_or-append_right}
use Rattle.std.specs.List.{slice_split, suffix_len, before_last, after_last, list_any}
use Rattle.std.proofs.lemmas.List.Folds.{list_any_at}
use Rattle.memchr.specs.Find.{IsLastByte, is_byte}
use Rattle.svn_text.specs.Cut.{IsCutAt, IsCutAtLast, Lacks}
use Rattle.svn_text.proofs.Lines.{Lacks-list_any}

-- bytes cut at the first of a byte
pub record CutsFirst (byte : ℕ) (bytes front back : List ℕ) : Type 0 where
  pub whole : bytes ≡ front ++ byte ∷ back
  pub first : Lacks byte front

abbrev is : ℕ → ℕ → Bool
is byte each = each == byte

pub CutsFirst-IsCutAt : (byte : ℕ) (bytes front back : List ℕ) → IsCutAt byte bytes front back → CutsFirst byte bytes front back
CutsFirst-IsCutAt byte bytes front back cut = record { whole = cut.whole; first = Lacks-list_any byte front cut.first }

-- where no byte from a place on is that one, the rest lacks it
pub Lacks-drop : (byte : ℕ) (bytes : List ℕ) (n : ℕ) → ((k : ℕ) → n ≤ k → k < length bytes → (get_or bytes k 0 == byte) ≡ true → ⊥) → Lacks byte (drop n bytes)
Lacks-drop byte bytes n none =
    All-from_get_or (λ each. (each == byte) ≡ false) (drop n bytes) 0
    (λ i below. rw get_or-drop (false_from_ne_true _ (none (n + i) (omega arith) (omega (arith, length-drop n bytes, below)))))

-- the parts round the first of the bytes
pub slice_split-cut : (byte : ℕ) (bytes front back : List ℕ) → CutsFirst byte bytes front back → slice_split (λ each. each == byte) bytes ≡ front ∷ slice_split (λ each. each == byte) back
slice_split-cut byte bytes front back cut =
    ap (slice_split (λ each. each == byte)) cut.whole ∙ slice_split_at (λ each. each == byte) front byte back cut.first (eq-eqb byte byte refl)

pub slice_split-uncut : (byte : ℕ) (bytes : List ℕ) → Lacks byte bytes → slice_split (λ each. each == byte) bytes ≡ bytes ∷ []
slice_split-uncut byte bytes none = slice_split_none (λ each. each == byte) bytes none

-- some byte is that one, or none is
pub list_any-cut : (byte : ℕ) (bytes front back : List ℕ) → IsCutAtLast byte bytes front back → list_any (λ each. each == byte) bytes ≡ true
list_any-cut byte bytes front back cut =
    rw cut.whole (list_any_at (λ each. each == byte) (front ++ byte ∷ back) (length front) 0 (omega (arith, length-append front (byte ∷ back))) (rw get_or-append_seam (eq-eqb byte byte refl)))

module _ (byte : ℕ) (front back : List ℕ) (last : Lacks byte back) where
  behind : (k : ℕ) → length front + 1 ≤ k → k < length (front ++ byte ∷ back) → not (get_or (front ++ byte ∷ back) k 0 == byte) ≡ true
  behind k from below =
      let at : k - length front ≡ suc (k - (length front + 1)) = omega arith in
      rw (get_or-append_right front (byte ∷ back) k 0 (omega arith), at)
      (not_from_false _ (All-get_or (λ each. (each == byte) ≡ false) back (k - (length front + 1)) 0 (omega (arith, length-append front (byte ∷ back), below)) last))

  length-suffix : suffix_len (λ each. not (each == byte)) (front ++ byte ∷ back) ≡ length back
  length-suffix =
      suffix_len_is (λ each. not (each == byte)) (front ++ byte ∷ back) (length front + 1) 0 (omega (arith, length-append front (byte ∷ back))) behind
      (λ _. let at : length front + 1 - 1 ≡ length front = omega arith in rw (at, get_or-append_seam) (not_from_true _ (eq-eqb byte byte refl)))
      ∙ omega (arith, length-append front (byte ∷ back))

  pub before_last-whole : before_last (λ each. each == byte) (front ++ byte ∷ back) ≡ front
  before_last-whole =
      let front_length : length (front ++ byte ∷ back) - suffix_len (λ each. not (each == byte)) (front ++ byte ∷ back) - 1 ≡ length front =
      omega (arith, length-append front (byte ∷ back), length-suffix) in
      rw front_length (take-append_seam front (byte ∷ back))

  pub after_last-whole : after_last (λ each. each == byte) (front ++ byte ∷ back) ≡ back
  after_last-whole =
      let front_length : length (front ++ byte ∷ back) - suffix_len (λ each. not (each == byte)) (front ++ byte ∷ back) ≡ length front + 1 =
      omega (arith, length-append front (byte ∷ back), length-suffix) in
      rw front_length (drop-append-add front (byte ∷ back) 1)

pub before_last-cut : (byte : ℕ) (bytes front back : List ℕ) → IsCutAtLast byte bytes front back → before_last (λ each. each == byte) bytes ≡ front
before_last-cut byte bytes front back cut = rw cut.whole (before_last-whole byte front back cut.last)

pub after_last-cut : (byte : ℕ) (bytes front back : List ℕ) → IsCutAtLast byte bytes front back → after_last (λ each. each == byte) bytes ≡ back
after_last-cut byte bytes front back cut = rw cut.whole (after_last-whole byte front back cut.last)

-- what a search for the last of the bytes cuts off
pub IsCutAtLast-found : (byte k head : ℕ) (bytes front back : List ℕ) → IsLastByte (is_byte byte) bytes (Some k) → front ≡ take k bytes → drop k bytes ≡ head ∷ back → IsCutAtLast byte bytes front back
IsCutAtLast-found byte k head bytes front back last at_front at_back =
    let parts : drop k bytes ≡ get_or bytes k 0 ∷ drop (suc k) bytes = drop-cons bytes k 0 (last.0.high) in
    let found : get_or bytes k 0 ≡ byte = let test = last.1 in search (rules, tests) in
    let rest : back ≡ drop (suc k) bytes = cc in
    let same : drop k bytes ≡ byte ∷ back = cc in
    record {
      whole = sym (take-append-drop k bytes) ∙ ap (λ xs. take k bytes ++ xs) same ∙ ap (λ xs. xs ++ byte ∷ back) (sym at_front);
      last = rw rest (Lacks-drop byte bytes (suc k) (λ m from below. last.0.after m (omega arith) below));
    }
