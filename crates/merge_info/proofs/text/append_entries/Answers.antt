use Rattle.svn_text.proofs.Appended.{BeginsWith-append, BeginsWith-trans}
use Rattle.merge_info.proofs.text.append_entries.Goals as goal

pub returns-in_err-append-clause-begins : goal.returns-in_err-append-clause-begins
returns-in_err-append-clause-begins c =
    BeginsWith-trans (BeginsWith-append _ c.loop-entry.invariant) c.append.ensures.begins
