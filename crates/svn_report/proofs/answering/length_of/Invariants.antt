use Rattle.svn_report.proofs.Common.{◌≤◌, length, take, flat_map}
use Rattle.svn_report.proofs.answering.length_of.Given as goal

abbrev pub invariant-loop-text : goal.invariant-loop-text
invariant-loop-text l = l.length ≤ length (flat_map (λ text. text.items) (take l.text-index l.texts))
