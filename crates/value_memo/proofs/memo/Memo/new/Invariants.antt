use Rattle.std.proofs.Common.{◌≡◌, length}
use Rattle.value_memo.proofs.memo.Memo.new.Given as goal

abbrev pub invariant-loop : goal.invariant-loop
invariant-loop l = length l.cells.items ≡ l.counter
