-- Bytes of an input that were read before they are needed.
use Rattle.std.specs.Prelude.{◌≡◌, ◌⊎◌, ℕ, ◌+◌, ◌*◌, ◌≤◌, List, ◌++◌, length}
use Rattle.std.specs.Io.KnownBytes.{prepend_known}
use Rattle.devices.specs.Device.{PullState}
use Rattle.devices.specs.declared.source.Source.TheVariants.{Input}
use Rattle.svn_text.specs.Cut.{Lacks}
use Rattle.svn_text.specs.Line.{line_text}
use Rattle.svn_report.specs.ReportFrom.{most_bytes}
use Rattle.svn_report.specs.declared.run_error.RunError.TheVariants.{Memory, Read}
use Rattle.live_history.specs.Stream.{IsCutLine, IsReadUpTo, IsUnread, IsUnreadLine, Stream}
use Rattle.live_history.specs.declared.talk_error.TalkError.{TalkError}
use Rattle.live_history.specs.declared.talk_error.TalkError.TheVariants.{Run}

-- those that were not taken yet, and how many reads may still be made
pub record ReadAheadValue : Type 0 where
  pub unread : List ℕ
  pub reads : ℕ

-- the input before which they stand
abbrev pub stream : ReadAheadValue → PullState → Stream
stream ahead input = record {
  come = prepend_known ahead.unread input.left;
  limit = input.calls + ahead.reads;
  ends = input.ends;
  failures = input.failures;
}

-- no more than so many bytes are ever taken, and each read and each byte makes it less
abbrev pub room : ReadAheadValue → ℕ
room ahead = ahead.reads * (most_bytes + 1) + length ahead.unread

-- the bytes begin with a line of this length
pub record HasLine (bytes : List ℕ) (len : ℕ) : Type 0 where
  pub line : List ℕ
  pub rest : List ℕ
  pub whole : bytes ≡ line_text line ++ rest
  pub first : Lacks 10 line
  pub len_is : length line ≡ len

-- after the first newline in the bytes there is no more than one read gives
pub record AreNear (bytes : List ℕ) : Type 0 where
  pub front : List ℕ
  pub back : List ℕ
  pub whole : bytes ≡ front ++ back
  pub first : Lacks 10 front
  pub near : length back ≤ most_bytes

module _ (old : Stream) (after : PullState) (error : TalkError) where
  -- no more could be read than these bytes
  pub record IsReadNoMore (rest unread : List ℕ) : Type 0 where
    pub is : error ≡ Run (Read Input)
    pub all : rest ≡ unread
    pub unread_is : IsUnread old after

  -- no more can be read than what was read ahead, or memory ran out
  pub record IsReadEnd (unread : List ℕ) : Type 0 where
    pub rest : List ℕ
    pub read : IsReadUpTo old after rest
    pub why : IsReadNoMore rest unread ⊎ (error ≡ Run Memory)

  -- there is no whole line, or memory ran out
  pub record IsLineEnd : Type 0 where
    pub rest : List ℕ
    pub read : IsReadUpTo old after rest
    pub why : IsCutLine old after rest error ⊎ IsUnreadLine old after rest error ⊎ (error ≡ Run Memory)
