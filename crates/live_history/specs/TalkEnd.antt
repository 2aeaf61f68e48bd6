-- How a talk ends: with its input, or early.
use Rattle.std.specs.Prelude.{◌≡◌, ◌⊎◌, ℕ, ◌+◌, ◌<◌, ◌≤◌, All, IsFalse, IsTrue, List, [], ◌++◌, Option, Some, length, take, ⊤}
use Rattle.std.specs.Io.KnownBytes.{Appends, append_known}
use Rattle.devices.specs.Device.{PullState, PushState}
use Rattle.devices.specs.declared.sending.SendError.{SendError}
use Rattle.devices.specs.declared.source.Source.TheVariants as source
use Rattle.svn_text.specs.Line.{line_text}
use Rattle.svn_text.specs.Number.{greatest_length, number_up_to}
use Rattle.svn_dump.specs.Decided.{IsDecided, IsUndecided}
use Rattle.svn_dump.specs.DumpError.{IsFirstAt}
use Rattle.svn_dump.specs.Record.{HistoryOfBytes}
use Rattle.svn_dump.specs.declared.error.DumpError.TheVariants.{Refused}
use Rattle.block_map.specs.declared.fault.Fault.{Fault}
use Rattle.svn_report.specs.Load.{IsReadWhole, most_reads}
use Rattle.svn_report.specs.ReportError.{IsFirstFault}
use Rattle.svn_report.specs.ReportFrom.{IsFaultyFrom, IsRefusedFrom, IsUnreadFrom, most_bytes}
use Rattle.svn_report.specs.declared.run_error.RunError.{RunError}
use Rattle.svn_report.specs.declared.run_error.RunError.TheVariants as run
use Rattle.live_history.specs.Stream.{AreLast, HasEnded, IsCutLine, IsReadUpTo, IsUnread, IsUnreadLine, Stream, stream_of}
use Rattle.live_history.specs.Talk.{IsLawfulDump, IsTalk, TalkState, after_turns, ready_text, start_of}
use Rattle.live_history.specs.Turn.{IsTurn, Turn, piece_line, query, turns_bytes}
use Rattle.live_history.specs.declared.talk_error.TalkError.{TalkError}
use Rattle.live_history.specs.declared.talk_error.TalkError.TheVariants.{Cut, Run, TooMany, Unsent}

-- how many queries a talk answers at most
abbrev pub most_answered : ℕ
most_answered = 4294967295

-- ---- why a piece of so many bytes was not taken to a dump; `rest` is what was read after its line

-- the last bytes that came decide the refusal, and those before them decide none; or the dump with all of its bytes is
-- refused so
pub record IsRefusedPiece (dump : List ℕ) (size : ℕ) (rest : List ℕ) (error : TalkError) : Type 0 where
  pub front : List ℕ
  pub last : List ℕ
  pub more : List ℕ
  pub number : ℕ
  pub at : ℕ
  pub is : error ≡ Run (run.Dump (Refused number at))
  pub whole : rest ≡ front ++ last ++ more
  pub within : length front + length last ≤ size
  pub near : length last + length more ≤ most_bytes
  pub before : (front ≡ []) ⊎ IsUndecided (dump ++ front)
  pub why : IsDecided (dump ++ front ++ last) number at ⊎ ((last ≡ []) × (length front ≡ size) × IsFirstAt (dump ++ front) number at)

-- all of its bytes came, and with them the dump has a faulty record
pub record IsFaultyPiece (dump : List ℕ) (size : ℕ) (rest : List ℕ) (error : TalkError) : Type 0 where
  pub bytes : List ℕ
  pub more : List ℕ
  pub fault : Fault
  pub is : error ≡ Run (run.Fault fault)
  pub whole : rest ≡ bytes ++ more
  pub all : length bytes ≡ size
  pub near : length more ≤ most_bytes
  pub first : IsFirstFault (dump ++ bytes) fault

-- the bytes are not all of it, and, if there are any, decide no refusal
pub record IsPartOfPiece (dump : List ℕ) (size : ℕ) (rest : List ℕ) : Type 0 where
  pub short : length rest < size
  pub undecided : (rest ≡ []) ⊎ IsUndecided (dump ++ rest)

-- the input ended in it
pub record IsCutPiece (dump : List ℕ) (size : ℕ) (old : Stream) (after : PullState) (rest : List ℕ) (error : TalkError) : Type 0 where
  pub is : error ≡ Cut
  pub ended : HasEnded old after
  pub part : IsPartOfPiece dump size rest

-- no more of it could be read
pub record IsUnreadPiece (dump : List ℕ) (size : ℕ) (old : Stream) (after : PullState) (rest : List ℕ) (error : TalkError) : Type 0 where
  pub is : error ≡ Run (run.Read source.Input)
  pub unread : IsUnread old after
  pub part : IsPartOfPiece dump size rest

abbrev pub IsPieceReason : List ℕ → ℕ → Stream → PullState → List ℕ → TalkError → Type 0
IsPieceReason dump size old after rest error =
    IsRefusedPiece dump size rest error ⊎ IsFaultyPiece dump size rest error
    ⊎ IsCutPiece dump size old after rest error ⊎ IsUnreadPiece dump size old after rest error ⊎ (error ≡ Run run.Memory)

-- ---- why a talk ended early; `rest` is what was read after the turns that were replied to

-- a piece was not taken
pub record IsEndInPiece (state : TalkState) (old : Stream) (after : PullState) (rest : List ℕ) (error : TalkError) : Type 0 where
  pub digits : List ℕ
  pub size : ℕ
  pub number : number_up_to greatest_length digits ≡ Some size
  pub bytes : List ℕ
  pub whole : rest ≡ line_text (piece_line digits) ++ bytes
  pub why : IsPieceReason state.dump size old after bytes error

-- as many queries were answered as may be, and another one came
pub record IsOneTooMany (state : TalkState) (rest : List ℕ) (error : TalkError) : Type 0 where
  pub is : error ≡ TooMany
  pub all : state.answered ≡ most_answered
  pub line : List ℕ
  pub more : List ℕ
  pub query_is : IsTurn (query line)
  pub whole : rest ≡ line_text line ++ more
  pub near : length more ≤ most_bytes

-- a front of what is said for further turns went out, before the device failed
pub record IsUnsent (state : TalkState) (sent : PushState) (rest part : List ℕ) (error : TalkError) : Type 0 where
  pub cause : SendError
  pub is : error ≡ Unsent cause
  pub turns : List Turn
  pub more : List ℕ
  pub are : All IsTurn turns
  pub some : 0 < length turns
  pub few : (after_turns state turns).answered ≤ most_answered
  pub whole : rest ≡ turns_bytes turns ++ more
  pub near : length more ≤ most_bytes
  pub said : List ℕ
  pub talk : IsTalk state turns said
  pub within : cause.sent ≤ length said
  pub part_is : part ≡ take cause.sent said
  pub failed : IsTrue sent.has_failed

abbrev pub IsEndReason : TalkState → Stream → PullState → PushState → List ℕ → List ℕ → TalkError → Type 0
IsEndReason state old after sent rest part error =
    ((part ≡ []) × (IsCutLine old after rest error ⊎ IsEndInPiece state old after rest error
    ⊎ IsOneTooMany state rest error ⊎ IsUnreadLine old after rest error ⊎ (error ≡ Run run.Memory)))
    ⊎ IsUnsent state sent rest part error

-- ---- talks

-- `gone` is what went out before
module _ (state : TalkState) (old : Stream) (gone : Option (List ℕ)) where
  -- all turns of the input were replied to
  pub record AreAllReplied (after : PullState) (sent : PushState) : Type 0 where
    pub turns : List Turn
    pub are : All IsTurn turns
    pub few : (after_turns state turns).answered ≤ most_answered
    pub last : AreLast old after (turns_bytes turns)
    pub said : List ℕ
    pub talk : IsTalk state turns said
    pub sent_is : Appends gone sent.gone said

  -- some were replied to, and then the talk ended
  pub record IsEndEarly (after : PullState) (sent : PushState) (error : TalkError) : Type 0 where
    pub turns : List Turn
    pub rest : List ℕ
    pub are : All IsTurn turns
    pub few : (after_turns state turns).answered ≤ most_answered
    pub read : IsReadUpTo old after (turns_bytes turns ++ rest)
    pub said : List ℕ
    pub part : List ℕ
    pub talk : IsTalk state turns said
    pub sent_is : Appends gone sent.gone (said ++ part)
    pub why : IsEndReason (after_turns state turns) old after sent rest part error

-- ---- a talk about a dump that a device gives

abbrev pub IsNoHistory : PullState → PullState → RunError → Type 0
IsNoHistory old new run.TooMany = ⊥
IsNoHistory old new (run.Dump refused) = IsRefusedFrom old new refused
IsNoHistory old new (run.Fault fault) = IsFaultyFrom old new fault
IsNoHistory old new (run.Read which) = (which ≡ source.Dump) × IsUnreadFrom old new
IsNoHistory old new run.Memory = ⊤

-- there is no history of the dump, for one of these reasons, and nothing was read of the input or went out
pub record IsNoTalk (dump dump_after : PullState) (input after : PullState) (output sent : PushState) (error : TalkError) : Type 0 where
  pub reason : RunError
  pub is : error ≡ Run reason
  pub why : IsNoHistory dump dump_after reason
  pub unread : after ≡ input
  pub unsent : sent ≡ output

-- where anything but the output failed, what went out was flushed, and the output has not failed
abbrev pub IsOutputKept : PushState → TalkError → Type 0
IsOutputKept sent (Unsent cause) = ⊤
IsOutputKept sent (Run reason) = IsTrue sent.is_flushed × IsFalse sent.has_failed
IsOutputKept sent TooMany = IsTrue sent.is_flushed × IsFalse sent.has_failed
IsOutputKept sent Cut = IsTrue sent.is_flushed × IsFalse sent.has_failed

-- all of a dump was read, and it has a lawful history
pub record IsOpen (dump dump_after : PullState) (history : HistoryOfBytes) (bytes : List ℕ) : Type 0 where
  pub all : IsReadWhole dump dump_after bytes
  pub is : IsLawfulDump bytes history

module _ (dump dump_after : PullState) (input after : PullState) (output sent : PushState) where
  -- the youngest revision was said, and all turns of the input were replied to
  pub record IsWholeTalk : Type 0 where
    pub history : HistoryOfBytes
    pub bytes : List ℕ
    pub opened : IsOpen dump dump_after history bytes
    pub talk : AreAllReplied (start_of bytes) (stream_of most_reads input) (append_known output.gone (ready_text history)) after sent
    pub flushed : IsTrue sent.is_flushed
    pub sound : IsFalse sent.has_failed

  -- the youngest revision was said, some turns were replied to, and then the talk ended
  pub record IsTalkEnd (error : TalkError) : Type 0 where
    pub history : HistoryOfBytes
    pub bytes : List ℕ
    pub opened : IsOpen dump dump_after history bytes
    pub talk : IsEndEarly (start_of bytes) (stream_of most_reads input) (append_known output.gone (ready_text history)) after sent error
    pub kept : IsOutputKept sent error

  -- a front of the line with the youngest revision went out, before the output failed
  pub record IsReadyUnsent (error : TalkError) : Type 0 where
    pub history : HistoryOfBytes
    pub bytes : List ℕ
    pub opened : IsOpen dump dump_after history bytes
    pub cause : SendError
    pub is : error ≡ Unsent cause
    pub within : cause.sent ≤ length (ready_text history)
    pub part : Appends output.gone sent.gone (take cause.sent (ready_text history))
    pub failed : IsTrue sent.has_failed
    pub unread : after ≡ input

  abbrev pub IsTalkError : TalkError → Type 0
  IsTalkError error = IsNoTalk dump dump_after input after output sent error ⊎ IsReadyUnsent error ⊎ IsTalkEnd error
