use Rattle.svn_report.proofs.Common.{inr}
use Rattle.svn_report.proofs.run_error.RunError.print.Goals as goal

pub returns-in-Err : goal.returns-in-Err
returns-in-Err g c = inr (c.status-in-Err.ensures, c.print_line-in-Err.ensures)
