use Rattle.live_history.proofs.Common.{refl}
use Rattle.live_history.proofs.talk_error.TalkError.print.Goals as goal

pub returns-in-TooMany : goal.returns-in-TooMany
returns-in-TooMany g c = rw c.in-TooMany.is (refl, c.print_line.ensures)

pub returns-in-Unsent : goal.returns-in-Unsent
returns-in-Unsent g c = rw c.in-Unsent.is (refl, c.print_line-in-Unsent.ensures)
