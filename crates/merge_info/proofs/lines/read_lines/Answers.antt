use Rattle.merge_info.proofs.Common.{◌≡◌, Err, ap, ◌∙◌, map_push, fields_left, line_view}
use Rattle.std.proofs.lemmas.Result.{err_from_is_err_and}
use Rattle.merge_info.specs.declared.error.MergeError.TheVariants.{Malformed}
use Rattle.merge_info.proofs.Collected.{AreCollected-all, AreCollected-missing, AreCollected-more}
use Rattle.merge_info.proofs.LinesRead.{lines_of-none, lines_of-some}
use Rattle.merge_info.proofs.lines.read_lines.Goals as goal

pub returns-then-is_empty-clause-ok : goal.returns-then-is_empty-clause-ok
returns-then-is_empty-clause-ok c =
    rw c.new-lines.ensures.items (lines_of-none c.args.text.now _ c.without_newline-text.ensures c.if-is_empty.ensures)

pub loop-left-init : goal.loop-left-init
loop-left-init c =
    rw c.new-lines.ensures.items (lines_of-some c.args.text.now _ c.without_newline-text.ensures c.if-is_empty.ensures)

pub returns-in_err-read-clause-malformed : goal.returns-in_err-read-clause-malformed
returns-in_err-read-clause-malformed c = λ malformed.
    let (error, errs, same) = err_from_is_err_and c.from_residual.result c.from_residual.ensures.1 in
    let is : c.in_err-read.field-0.0 ≡ Malformed = cc in
    AreCollected-missing c.loop-left.invariant (ap (fields_left 10) c.in-Some.is ∙ c.first_field.ensures) (c.in_err-read.ensures.malformed (ap Err is))

pub loop-left-preserved : goal.loop-left-preserved
loop-left-preserved c =
    rw (c.in_ok-push.ensures.items, map_push line_view c.loop-left.lines.items c.in_ok-read.field-0)
    (AreCollected-more c.loop-left.invariant (ap (fields_left 10) c.in-Some.is ∙ c.first_field.ensures) c.in_ok-read.ensures.ok c.in_ok-read.ensures.line)

pub returns-clause-ok : goal.returns-clause-ok
returns-clause-ok c = AreCollected-all c.loop-left.invariant (ap (fields_left 10) c.in_default.is)
