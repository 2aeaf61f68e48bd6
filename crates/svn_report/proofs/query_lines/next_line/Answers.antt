use Rattle.svn_report.proofs.Common.{sym, ◌∙◌}
use Rattle.svn_text.proofs.Cuts.{CutsFirst-IsCutAt}
use Rattle.svn_report.proofs.QueryLines.{query_lines-cut, query_lines-uncut}
use Rattle.svn_report.proofs.query_lines.next_line.Goals as goal

pub returns-in-Some-clause-line : goal.returns-in-Some-clause-line
returns-in-Some-clause-line c = query_lines-cut _ _ _ (CutsFirst-IsCutAt 10 _ _ _ c.in-Some.ensures)

pub returns-in-None-clause-line : goal.returns-in-None-clause-line
returns-in-None-clause-line c =
    query_lines-uncut c.args.queries.now (sym c.is_empty.ensures ∙ c.if-is_empty.false) c.in-None.ensures
