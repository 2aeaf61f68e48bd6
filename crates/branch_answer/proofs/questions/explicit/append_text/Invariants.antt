use Rattle.std.proofs.Common.{◌≡◌, ◌++◌, length, take}
use Rattle.std.specs.List.{slice_split}
use Rattle.svn_text.specs.Line.{is_newline}
use Rattle.branch_answer.proofs.TextLines.{spaced_text}
use Rattle.branch_answer.proofs.questions.explicit.append_text.Given as goal

abbrev pub invariant-loop-line : goal.invariant-loop-line
invariant-loop-line l = l.out.items ≡ l.fn.out.items ++ spaced_text (take (length l.yielded) (slice_split is_newline l.text))
