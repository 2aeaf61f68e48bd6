use Rattle.std.proofs.Common.{arith, ap, sym, ◌∙◌}
use Rattle.value_memo.specs.SeenValue.{asked_of, seen_view}
use Rattle.value_memo.proofs.KnownCells.{asked_of-nothing_seen, seen_view-unanswered}
use Rattle.value_memo.proofs.seen.Seen.new.Goals as goal

pub invariant_of-result : goal.invariant_of-result
invariant_of-result c =
    let memo = c.args.memo.now in
    (sym (ap (λ cells. asked_of (seen_view cells 0)) c.in_ok-known_cells.ensures ∙ ap asked_of (seen_view-unanswered memo) ∙ asked_of-nothing_seen memo), omega arith)

pub returns : goal.returns
returns c = ap (λ cells. seen_view cells 0) c.in_ok-known_cells.ensures ∙ seen_view-unanswered c.args.memo.now
