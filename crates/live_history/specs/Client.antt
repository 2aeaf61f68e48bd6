-- Who talks with the program: turns are read of it, and replies go to it.
use Rattle.std.specs.Prelude.{◌≡◌, ◌⊎◌, ℕ, ◌<◌, All, IsTrue, List, ◌++◌, Option, Some, length}
use Rattle.std.specs.Io.KnownBytes.{Appends, Consumes, prepend_known}
use Rattle.devices.specs.Device.{PullState, PushState}
use Rattle.svn_text.specs.Cut.{Lacks}
use Rattle.svn_text.specs.Line.{line_text}
use Rattle.svn_text.specs.Number.{greatest_length, number_up_to}
use Rattle.svn_dump.specs.Record.{HistoryOfBytes}
use Rattle.live_history.specs.Talk.{IsLawfulDump, IsTalk, ready_text, start_of}
use Rattle.live_history.specs.Turn.{IsTurn, Turn, piece_line, turns_bytes}
use Rattle.live_history.specs.declared.connection.Connection.{Connection}

-- what is read and what is sent
pub record Ends : Type 0 where
  pub input : PullState
  pub output : PushState

-- the youngest revision was said and each of some turns was replied to, since a client was as it was first, and all of
-- that was flushed; `rest` is what follows the turns
pub record IsRepliedUpTo (first : Ends) (output : PushState) (rest : Option (List ℕ)) : Type 0 where
  pub dump : List ℕ
  pub history : HistoryOfBytes
  pub is : IsLawfulDump dump history
  pub turns : List Turn
  pub are : All IsTurn turns
  pub read : Consumes first.input.left rest (turns_bytes turns)
  pub said : List ℕ
  pub talk : IsTalk (start_of dump) turns said
  pub sent : Appends first.output.gone output.gone (ready_text history ++ said)
  pub flushed : IsTrue output.is_flushed

-- the bytes are the line before a piece, and not all of that
pub record IsPartOfPieceTurn (bytes : List ℕ) : Type 0 where
  pub digits : List ℕ
  pub size : ℕ
  pub number : number_up_to greatest_length digits ≡ Some size
  pub piece : List ℕ
  pub short : length piece < size
  pub whole : bytes ≡ line_text (piece_line digits) ++ piece

-- the bytes are less than a turn
abbrev pub IsPartOfTurn : List ℕ → Type 0
IsPartOfTurn bytes = Lacks 10 bytes ⊎ IsPartOfPieceTurn bytes

-- all turns that were read whole were replied to
pub record IsAllRepliedTo (first : Ends) (input : PullState) (output : PushState) : Type 0 where
  pub part : List ℕ
  pub part_is : IsPartOfTurn part
  pub replied : IsRepliedUpTo first output (prepend_known part input.left)

-- ---- a client behind two devices

abbrev pub connection_input : {I O : Type 0} → (I → PullState) → Connection I O → PullState
connection_input state c = state c.input

abbrev pub connection_output : {I O : Type 0} → (O → PushState) → Connection I O → PushState
connection_output state c = state c.output

-- as they were when it was made
abbrev pub connection_first : {I O : Type 0} → (I → PullState) → (O → PushState) → Connection I O → Ends
connection_first of_input of_output c = record { input = of_input c.first_input.value; output = of_output c.first_output.value }
