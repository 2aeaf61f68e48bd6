-- Replies to queries, up to the next piece.
use Rattle.std.specs.Prelude.{◌≡◌, ℕ, ◌+◌, All, IsFalse, IsTrue, List, Option, Some, None}
use Rattle.std.specs.Io.KnownBytes.{Appends}
use Rattle.std.specs.List.{flat_map}
use Rattle.devices.specs.Device.{PullState, PushState}
use Rattle.svn_text.specs.Line.{line_text}
use Rattle.svn_dump.specs.Dump.{DumpValue, history_in_bytes}
use Rattle.query_answer.specs.Repo.{trees_in_bytes}
use Rattle.live_history.specs.Answering.{texts_from}
use Rattle.live_history.specs.Stream.{AreTaken, Stream}
use Rattle.live_history.specs.Talk.{IsTalk, TalkState, after_turns}
use Rattle.live_history.specs.TalkEnd.{AreAllReplied, IsOutputKept}
use Rattle.live_history.specs.Turn.{IsTurn, Turn, turns_bytes}
use Rattle.live_history.specs.Turns.{IsLineTaken}
use Rattle.live_history.specs.declared.talk_error.TalkError.{TalkError}

-- the replies to these lines, after so many queries were answered
abbrev pub replies : DumpValue → ℕ → List (List ℕ) → List ℕ
replies dump answered lines =
    flat_map line_text (texts_from (answered + 1) (history_in_bytes dump) (trees_in_bytes dump) lines)

-- these turns were read and replied to; `gone` is what went out before
pub record AreReplied (state : TalkState) (old : Stream) (gone : Option (List ℕ)) (new : Stream) (sent : PushState) (turns : List Turn) : Type 0 where
  pub are : All IsTurn turns
  pub taken : AreTaken old new (turns_bytes turns)
  pub said : List ℕ
  pub talk : IsTalk state turns said
  pub sent_is : Appends gone sent.gone said

-- turns were replied to, the last of them so many queries into the talk
pub record AreRepliedTo (state : TalkState) (old : Stream) (gone : Option (List ℕ)) (new : Stream) (sent : PushState) (answered : ℕ) : Type 0 where
  pub turns : List Turn
  pub replied : AreReplied state old gone new sent turns
  pub after_is : after_turns state turns ≡ record { dump = state.dump; answered = answered }

-- and then the line before a piece of so many bytes was taken
pub record IsUpToPiece (state : TalkState) (old : Stream) (gone : Option (List ℕ)) (new : Stream) (sent : PushState) (answered size : ℕ) : Type 0 where
  pub between : Stream
  pub replied : AreRepliedTo state old gone between sent answered
  pub line : IsLineTaken between new size

-- up to a piece, or to the end of the input
abbrev pub IsUpToNext : TalkState → Stream → Option (List ℕ) → Stream → PullState → PushState → ℕ → Option ℕ → Type 0
IsUpToNext state old gone new after sent answered (Some size) = IsUpToPiece state old gone new sent answered size
IsUpToNext state old gone new after sent answered None = AreAllReplied state old gone after sent

-- what is known of the output at the end, from what was known before
abbrev pub KeepsOutput : PushState → PushState → TalkError → Type 0
KeepsOutput old new error = IsTrue old.is_flushed → IsFalse old.has_failed → IsOutputKept new error
