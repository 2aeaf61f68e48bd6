use Rattle.query_answer.proofs.Common.{arith, common_steps}
use Rattle.query_answer.proofs.AnswerTexts.{value_text-lines}
use Rattle.query_answer.proofs.printed_mergeinfo.PrintedMergeinfo.write.Goals as goal

pub returns-clause-ok : goal.returns-clause-ok
returns-clause-ok c = rw (value_text-lines c.args.self.now) (grind (arith, common_steps))
