use Rattle.live_history.proofs.Common.{◌≡◌, take, flat_map, line_text}
use Rattle.live_history.proofs.replies.with_empty_lines.Given as goal

abbrev pub invariant-loop-text : goal.invariant-loop-text
invariant-loop-text l = record {
  joined : l.all.items ≡ flat_map (λ text. line_text text.items) (take l.text-index l.fn.texts);
}
