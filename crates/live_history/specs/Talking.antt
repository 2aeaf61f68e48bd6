-- A talk that goes on with a piece.
use Rattle.std.specs.Prelude.{◌≡◌, ◌⊎◌, ℕ, ◌≤◌, IsTrue, List, Option, length, take}
use Rattle.std.specs.Io.KnownBytes.{Appends}
use Rattle.devices.specs.Device.{PushState}
use Rattle.devices.specs.declared.sending.SendError.{SendError}
use Rattle.svn_report.specs.declared.run_error.RunError.TheVariants.{Memory}
use Rattle.live_history.specs.History.{IsHistoryOf}
use Rattle.live_history.specs.Stream.{Stream}
use Rattle.live_history.specs.Talk.{TalkState, after_turns}
use Rattle.live_history.specs.Replies.{AreReplied}
use Rattle.live_history.specs.Turn.{Turn}
use Rattle.live_history.specs.declared.history.History.{History}
use Rattle.live_history.specs.declared.talk_error.TalkError.{TalkError}
use Rattle.live_history.specs.declared.talk_error.TalkError.TheVariants.{Run, Unsent}

-- all turns so far were replied to, so many queries in all, and the history is that of the dump so far
pub record IsAfterPiece (state : TalkState) (old : Stream) (gone : Option (List ℕ)) (new : Stream) (sent : PushState) (answered : ℕ) (history : History) : Type 0 where
  pub turns : List Turn
  pub replied : AreReplied state old gone new sent turns
  pub history_is : IsHistoryOf (after_turns state turns).dump history
  pub answered_is : (after_turns state turns).answered ≡ answered

-- a front of the text went out, before the device failed
pub record IsPartSaid (text : List ℕ) (old new : PushState) (error : TalkError) : Type 0 where
  pub cause : SendError
  pub is : error ≡ Unsent cause
  pub within : cause.sent ≤ length text
  pub part : Appends old.gone new.gone (take cause.sent text)
  pub failed : IsTrue new.has_failed

-- or memory for it ran out
abbrev pub IsUnsaid : List ℕ → PushState → PushState → TalkError → Type 0
IsUnsaid text old new error = ((error ≡ Run Memory) × (new ≡ old)) ⊎ IsPartSaid text old new error
