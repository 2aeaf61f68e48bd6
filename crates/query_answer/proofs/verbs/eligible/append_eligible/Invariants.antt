use Rattle.query_answer.proofs.Common.{◌≡◌, ◌++◌, map, take, flat_map, line_text, eligible_line}
use Rattle.query_answer.proofs.verbs.eligible.append_eligible.Given as goal

abbrev pub invariant-loop-rev : goal.invariant-loop-rev
invariant-loop-rev l = l.out.items ≡ l.initial.out.items ++ flat_map line_text (map eligible_line (take l.rev-index l.revisions))
