use Rattle.merge_info.proofs.Common.{◌≡◌, ◌∙◌, true, false, refl, Err, ap, rules, false_from_ne_true, iff_false, has_clash, line_from, line_of}
use Rattle.std.proofs.lemmas.Result.{err_from_is_err_and}
use Rattle.merge_info.specs.declared.error.MergeError.TheVariants.{Malformed}
use Rattle.merge_info.proofs.LineReads.{IsPrintedPath-of_bytes, line_of-line_from, line_of-malformed_list, line_of-uncut}
use Rattle.merge_info.proofs.line.Line.read.Goals as goal
use Rattle.merge_info.proofs.line.Line.read.Goals.{In_ok-runs}
use Rattle.merge_info.proofs.line.Line.read.Goals.{then-has_dot-via-then-has_dot, then-has_dot-via-else-has_dot+in_ok-has_clash+then-branch}

pub returns-in_default-clause-malformed : goal.returns-in_default-clause-malformed
returns-in_default-clause-malformed c = λ _. line_of-uncut _ c.in_default.ensures

pub returns-in_err-runs-clause-malformed : goal.returns-in_err-runs-clause-malformed
returns-in_err-runs-clause-malformed c = λ malformed.
    let (error, errs, same) = err_from_is_err_and c.from_residual.result c.from_residual.ensures.1 in
    let is : c.in_err-runs.field-0.0 ≡ Malformed = cc in
    line_of-malformed_list _ _ _ c.in-Some.ensures (rw (← c.without_blanks.ensures) (c.in_err-runs.ensures.malformed (ap Err is)))

-- the path and the runs decide
line_is : (c : In_ok-runs) → line_of c.args.bytes.now ≡ line_from c.in-Some.path.now c.in_ok-runs.runs.items
line_is c =
    line_of-line_from _ _ _ c.in-Some.ensures _ (rw (← c.without_blanks.ensures) c.in_ok-runs.ensures.ok)

pub returns-then-has_dot-clause-malformed : goal.returns-then-has_dot-clause-malformed
returns-then-has_dot-clause-malformed c = λ _.
    line_is (goal.at.returns-then-has_dot-clause-malformed c).In_ok-runs ∙ elim c.then-has_dot.branch [
      | then-has_dot-via-then-has_dot w ↦ rw (c.has_dot.ensures.0 w.if-has_dot.true) refl
      | then-has_dot-via-else-has_dot+in_ok-has_clash+then-branch w ↦
          let clash : has_clash c.in_ok-runs.runs.items ≡ true = search rules in
          rw (false_from_ne_true _ (iff_false c.has_dot.ensures w.if-has_dot.false), clash) refl
    ]

pub returns-clause-ok : goal.returns-clause-ok
returns-clause-ok c =
    let apart : has_clash c.in_ok-runs.runs.items ≡ false = search rules in
    rw c.in_ok-printed_path.ensures
    (line_is (goal.at.returns-clause-ok c).In_ok-runs
    ∙ rw (false_from_ne_true _ (iff_false c.has_dot.ensures c.if-has_dot.false), apart) refl)

pub returns-clause-line : goal.returns-clause-line
returns-clause-line c = record {
  path = rw c.in_ok-printed_path.ensures (IsPrintedPath-of_bytes c.in-Some.path.now (iff_false c.has_dot.ensures c.if-has_dot.false));
  runs = c.in_ok-runs.ensures.runs;
}
