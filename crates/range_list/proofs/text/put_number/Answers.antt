use Rattle.std.proofs.Common.{◌≤◌, ◌<◌, ◌^◌, ℕ, length, arith}
use Rattle.std.specs.Prelude.{decimal}
use Rattle.std.proofs.lemmas.Fmt.{length-decimal-le}
use Rattle.range_list.proofs.text.put_number.Goals as goal

short : (n : ℕ) → n < 2 ^ 32 → length (decimal n) ≤ 10
short n few = length-decimal-le 10 n (omega arith) (omega (arith, few)) (omega (arith, few))

pub write_digits-requires : goal.write_digits-requires
write_digits-requires c =
    (omega (arith, short c.from.result (omega arith)), omega arith)

pub returns-clause-start : goal.returns-clause-start
returns-clause-start c = omega (arith, short c.from.result (omega arith), c.write_digits.ensures.start)
