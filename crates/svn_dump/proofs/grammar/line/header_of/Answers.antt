use Rattle.svn_dump.proofs.Common.{rules, both_ways}
use Rattle.svn_text.proofs.Lines.{list_any-Lacks}
use Rattle.svn_dump.proofs.grammar.line.header_of.Goals.{in_default-via-in-Some+else-not-is_empty, in_default-via-in_default}
use Rattle.svn_dump.proofs.grammar.line.header_of.Goals as goal

pub returns-in_default : goal.returns-in_default
returns-in_default c =
    elim c.in_default.branch [
      | in_default-via-in-Some+else-not-is_empty w ↦ search rules
      | in_default-via-in_default w ↦ (λ header. both_ways _ (list_any-Lacks 58 c.args.line.now w.in_default.ensures) header.colon)
    ]
