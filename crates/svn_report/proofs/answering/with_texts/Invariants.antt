use Rattle.svn_report.proofs.Common.{◌≡◌, ◌++◌, take, flat_map}
use Rattle.svn_report.proofs.answering.with_texts.Given as goal

abbrev pub invariant-loop-text : goal.invariant-loop-text
invariant-loop-text l = l.report.items ≡ l.fn.report.items ++ flat_map (λ text. text.items) (take l.text-index l.texts)
