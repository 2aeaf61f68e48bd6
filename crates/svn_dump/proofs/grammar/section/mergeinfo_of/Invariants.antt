use Rattle.svn_dump.proofs.Common.{length, mi_text_view}
use Rattle.svn_dump.proofs.MiTexts.{IsFinding}
use Rattle.svn_dump.proofs.grammar.section.mergeinfo_of.Given as goal

abbrev pub invariant-loop-rest : goal.invariant-loop-rest
invariant-loop-rest l = IsFinding l.has_changes l.section (mi_text_view l.found) l.rest

abbrev pub decreases-loop-rest : goal.decreases-loop-rest
decreases-loop-rest l = length l.rest
