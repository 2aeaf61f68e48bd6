-- Where a byte stands first, and what stands before and after it.
use Rattle.std.proofs.Common.{◌≡◌, ℕ, ◌+◌, ◌-◌, ◌<◌, true, false, List, [], ◌∷◌, ◌++◌, length, get_or, take, drop, sym, ap, ap₂, ◌∙◌, eqb-true, arith}
use Rattle.std.specs.Prelude.{IsFalse, ◌==◌}
use Rattle.std.specs.List.{list_all, list_any, position_or_len}
use Rattle.std.proofs.lemmas.Bool.{and_parts, both_ways, false_from_ne_true, ne_eqb}
use Rattle.std.proofs.lemmas.List.{get_or_default, get_or-take, length-take, drop_more, take-append-drop, take_rest}
use Rattle.std.proofs.lemmas.List.Elements.{All-cons, All-from_get_or, All-nil}
use Rattle.std.proofs.lemmas.List.Folds.{list_any_none, list_any_at}
use Rattle.std.proofs.lemmas.List.Sums.{position_or_len_is}
use Rattle.svn_text.specs.Cut.{IsCutAt, Lacks}
use Rattle.svn_text.specs.Number.{is_digit}
use Rattle.memchr.specs.Find.{is_byte, NoneBefore, Nowhere, Passes}

-- digits lack every other byte
pub Lacks-digits : (byte : ℕ) (digits : List ℕ) → is_digit byte ≡ false → list_all is_digit digits ≡ true → Lacks byte digits
Lacks-digits byte [] other all = All-nil (λ each. (each == byte) ≡ false)
Lacks-digits byte (digit ∷ digits) other all =
    let both = and_parts (is_digit digit) (list_all is_digit digits) all in
    let differ = ne_eqb digit byte (λ same. both_ways (is_digit byte) other (ap is_digit (sym same) ∙ both.0)) in
    All-cons (λ each. (each == byte) ≡ false) digit digits differ (Lacks-digits byte digits other both.1)

module _ (byte : ℕ) (bytes : List ℕ) where
  fails : (j k : ℕ) → Nowhere (Passes (is_byte byte) bytes) 0 j → k < j → (get_or bytes k 0 == byte) ≡ false
  fails j k none high = false_from_ne_true _ (none k (omega arith) high)

  pub Lacks-nowhere : Nowhere (Passes (is_byte byte) bytes) 0 (length bytes) → Lacks byte bytes
  Lacks-nowhere none = All-from_get_or (λ each. (each == byte) ≡ false) bytes 0 (λ k h. fails (length bytes) k none h)

  pub Lacks-list_any : list_any (λ each. each == byte) bytes ≡ false → Lacks byte bytes
  Lacks-list_any none =
      All-from_get_or (λ each. (each == byte) ≡ false) bytes 0 (λ i below.
      false_from_ne_true _ (λ hit. both_ways _ none (list_any_at (λ each. each == byte) bytes i 0 below hit)))

  pub list_any-Lacks : Lacks byte bytes → list_any (λ each. each == byte) bytes ≡ false
  list_any-Lacks none = list_any_none (λ each. each == byte) bytes none

  module _ (at : ℕ) (first : NoneBefore (Passes (is_byte byte) bytes) 0 (length bytes) at) (passes : Passes (is_byte byte) bytes at) where
    position : position_or_len (λ each. each == byte) bytes ≡ at
    position = position_or_len_is _ bytes at 0 (omega (arith, first.high)) (λ k h. fails at k first.before h) (λ _. passes)

    none_before : IsFalse (list_any (λ each. each == byte) (take at bytes))
    none_before = list_any_none _ (take at bytes) (λ k d h.
        let within : k < at = omega (arith, length-take at bytes, h, first.high) in
        ap (λ each. each == byte) (get_or-take at bytes k d within ∙ get_or_default bytes k d 0 (omega (arith, first.high))) ∙ fails at k first.before within)

    pub cut : IsCutAt byte bytes (take at bytes) (take (length bytes - (at + 1)) (drop (at + 1) bytes))
    cut = record {
      there = list_any_at _ bytes at 0 first.high passes;
      before = ap (λ n. take n bytes) (sym position);
      after = take_rest bytes (at + 1) ∙ ap (λ n. drop (n + 1) bytes) (sym position);
      first = none_before;
      whole = sym (take-append-drop at bytes) ∙ ap (λ from. take at bytes ++ from)
          (drop_more bytes at 0 first.high ∙ ap₂ (λ each more. each ∷ more) (eqb-true _ _ passes) (sym (take_rest bytes (at + 1))));
    }
