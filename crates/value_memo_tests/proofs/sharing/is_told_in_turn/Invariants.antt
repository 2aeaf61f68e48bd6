use Rattle.std.proofs.Common.{◌≡◌}
use Rattle.value_memo.specs.SeenValue.{AsksOnly}
use Rattle.value_memo_tests.proofs.Texts.{two_texts}
use Rattle.value_memo_tests.proofs.sharing.is_told_in_turn.Given as goal

abbrev pub invariant-loop : goal.invariant-loop
invariant-loop l = (l.seen.memo ≡ l.memo) × AsksOnly two_texts l.seen
