-- Printed numbers, as they are read again.
use Rattle.merge_info.proofs.Common.{◌≡◌, ℕ, ◌+◌, ◌-◌, ◌*◌, ◌^◌, ◌<◌, ◌≤◌, true, false, List, fold, decimal, refl, arith, rules, list_all, le-leb, ne_eqb, Lacks, revision_of, Lacks-digits}
use Rattle.std.specs.Prelude.{Some}
use Rattle.std.proofs.lemmas.Fmt.{decimal_nonempty, digits_decimal, digits_value-decimal}
use Rattle.std.proofs.lemmas.Str.Parse.{IsNumeralModel, numerals_by_fold}
use Rattle.svn_text.specs.Number.{is_digit, number_of, value_of_digits}
use Rattle.svn_text.specs.Number.{greatest_revision}
use Rattle.merge_info.proofs.Elements.{is_not_empty-some}

abbrev AreDigits : List ℕ → Type 0
AreDigits bytes = list_all is_digit bytes ≡ true

abbrev value_after : ℕ → List ℕ → ℕ
value_after value digits = fold (λ so_far digit. so_far * 10 + (digit - 48)) value digits

numbers_of_digits : IsNumeralModel AreDigits value_of_digits
numbers_of_digits = numerals_by_fold AreDigits (search rules) value_after (search rules)

-- the bytes of a printed number are digits
decimal-digits : (n : ℕ) → n < 2 ^ 64 → AreDigits (decimal n)
decimal-digits n small = digits_decimal numbers_of_digits n small

-- a printed number is read as the number
number_of-decimal : (n : ℕ) → n < 2 ^ 64 → number_of (decimal n) ≡ Some n
number_of-decimal n small =
    rw (
      is_not_empty-some (decimal n) (decimal_nonempty n small),
      decimal-digits n small,
      digits_value-decimal numbers_of_digits n small,
    ) refl

-- a printed revision is read as the revision
pub revision_of-decimal : (n : ℕ) → 1 ≤ n → n ≤ greatest_revision → revision_of (decimal n) ≡ Some n
revision_of-decimal n first last =
    rw (number_of-decimal n (omega arith), le-leb n greatest_revision last, ne_eqb n 0 (omega arith)) refl

-- a printed number lacks every byte but digits
pub Lacks-decimal : (byte n : ℕ) → is_digit byte ≡ false → n < 2 ^ 64 → Lacks byte (decimal n)
Lacks-decimal byte n other small = Lacks-digits byte (decimal n) other (decimal-digits n small)
