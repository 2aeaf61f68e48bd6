use Rattle.live_history.proofs.Common.{◌≡◌, ap, ◌∙◌, flat_map, IfOk-weaker, line_text, replies}
use Rattle.svn_report.specs.Answering.{lent_lines}
use Rattle.live_history.proofs.Queries.{flat_map-mapped}
use Rattle.live_history.proofs.replies.reply_text.Goals as goal

pub returns : goal.returns
returns g c =
    IfOk-weaker c.with_empty_lines.result (λ text. text.items ≡ flat_map (λ each. line_text each.items) c.as_slice.result.now) (λ text. text.items ≡ replies c.args.repo.now c.args.answered (lent_lines c.args.lines.now))
    (λ text is.
    is ∙ ap (flat_map (λ each. line_text each.items)) c.as_slice.ensures.value ∙ flat_map-mapped line_text (λ each. each.items) c.in_ok-texts.texts.items ∙ ap (flat_map line_text) c.in_ok-texts.ensures)
    c.with_empty_lines.ensures
