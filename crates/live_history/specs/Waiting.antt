-- What is known of a client before it is read.
use Rattle.std.specs.Prelude.{◌≡◌, ℕ, List, Option, Some}
use Rattle.std.specs.Io.KnownBytes.{prepend_known}
use Rattle.devices.specs.Device.{PushState}
use Rattle.svn_text.specs.Line.{line_text}
use Rattle.svn_text.specs.Number.{greatest_length, number_up_to}
use Rattle.live_history.specs.Client.{Ends, IsPartOfPieceTurn, IsRepliedUpTo}
use Rattle.live_history.specs.Talk.{TalkState, after_turns, start_of}
use Rattle.live_history.specs.Turn.{piece_line}

module _ (first : Ends) (output : PushState) (rest : Option (List ℕ)) where
  -- after the turns that were replied to
  abbrev pub state_after : IsRepliedUpTo first output rest → TalkState
  state_after replied = after_turns (start_of replied.dump) replied.turns

  -- so many queries were answered, and the dump so far is such a one
  pub record IsCaughtUp (answered : ℕ) (IsDump : List ℕ → Type 0) : Type 0 where
    pub replied : IsRepliedUpTo first output rest
    pub dump_is : IsDump (state_after replied).dump
    pub answered_is : (state_after replied).answered ≡ answered

  -- the line before a piece of so many bytes was taken
  pub record IsPieceNext (size : ℕ) : Type 0 where
    pub digits : List ℕ
    pub number : number_up_to greatest_length digits ≡ Some size
    pub replied : IsRepliedUpTo first output (prepend_known (line_text (piece_line digits)) rest)

  -- and not all of the piece
  pub record IsInPiece : Type 0 where
    pub part : List ℕ
    pub part_is : IsPartOfPieceTurn part
    pub replied : IsRepliedUpTo first output (prepend_known part rest)
