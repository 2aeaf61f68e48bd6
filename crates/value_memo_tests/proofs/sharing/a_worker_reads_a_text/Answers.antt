use Rattle.std.proofs.Common.{sym, subst}
use Rattle.value_memo.specs.SeenValue.{MayAsk}
use Rattle.value_memo.proofs.Callers.{MayAsk-nothing_seen}
use Rattle.value_memo_tests.proofs.sharing.a_worker_reads_a_text.Goals as goal

pub value-requires-clause-text : goal.value-requires-clause-text
value-requires-clause-text g c =
    let text = c.as_slice.result.now in
    subst (λ seen. MayAsk seen 0 text) (sym c.in_ok-seen.ensures) (MayAsk-nothing_seen c.in_ok-memo.memo 0 text)
