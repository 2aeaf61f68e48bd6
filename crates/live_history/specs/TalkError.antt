-- The line and the status by which the program reports that a talk ended early.
use Rattle.std.specs.Prelude.{◌≡◌, ℕ, List, [], ◌∷◌, ◌++◌, codes}
use Rattle.devices.specs.Device.{PushState}
use Rattle.devices.specs.Sending.{PrintsLine}
use Rattle.svn_report.specs.RunError.{IsErrorLine}
use Rattle.live_history.specs.declared.talk_error.TalkError.{TalkError}
use Rattle.live_history.specs.declared.talk_error.TalkError.TheVariants as error

abbrev pub too_many_line : List ℕ
too_many_line = codes "svnhist: more than 4294967295 queries" ++ 10 ∷ []

abbrev pub cut_line : List ℕ
cut_line = codes "svnhist: standard input ends within a turn" ++ 10 ∷ []

abbrev pub unsent_line : List ℕ
unsent_line = codes "svnhist: cannot write the report" ++ 10 ∷ []

-- the line of the error was printed and its status answered
abbrev pub IsTalkErrorLine : ℕ → TalkError → PushState → PushState → Type 0
IsTalkErrorLine status (error.Run reason) old new = IsErrorLine status reason old new
IsTalkErrorLine status error.TooMany old new = (status ≡ 1) × PrintsLine old new too_many_line
IsTalkErrorLine status error.Cut old new = (status ≡ 1) × PrintsLine old new cut_line
IsTalkErrorLine status (error.Unsent sent) old new = (status ≡ 3) × PrintsLine old new unsent_line
