use Rattle.svn_text.proofs.Appended.{BeginsWith-append, BeginsWith-trans}
use Rattle.query_answer.proofs.verbs.log.append_log.Goals as goal

pub returns-in_err-append_hit-clause-begins : goal.returns-in_err-append_hit-clause-begins
returns-in_err-append_hit-clause-begins c =
    BeginsWith-trans (BeginsWith-append _ c.loop-hit.invariant) c.append_hit.ensures.begins
