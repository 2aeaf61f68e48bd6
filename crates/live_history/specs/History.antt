-- A history that was read and may grow.
use Rattle.std.specs.Prelude.{◌≡◌, ◌⊎◌, ℕ, None, List, [], ◌++◌, length}
use Rattle.devices.specs.Device.{PullState}
use Rattle.svn_dump.specs.Decided.{IsUndecided}
use Rattle.svn_dump.specs.Dump.{history_in_bytes}
use Rattle.svn_dump.specs.Feed.{FeedValue, HasRead, IsPausedAt}
use Rattle.svn_dump.specs.Growth.{GrowsTo}
use Rattle.svn_report.specs.Load.{IsReadWhole}
use Rattle.live_history.specs.Stream.{AreTaken, Stream}
use Rattle.live_history.specs.Talk.{IsLawfulDump}
use Rattle.live_history.specs.declared.history.History.{History}

-- it is that of this dump
pub record IsHistoryOf (bytes : List ℕ) (history : History) : Type 0 where
  pub dump : IsLawfulDump bytes (history_in_bytes history.repo)
  pub paused : IsPausedAt history.paused history.repo bytes

-- all of an input was read, and it is that of the input
pub record IsHistoryFrom (old new : PullState) (history : History) : Type 0 where
  pub bytes : List ℕ
  pub all : IsReadWhole old new bytes
  pub is : IsHistoryOf bytes history

-- so many bytes were taken and have come to the reader of a dump
pub record IsFed (feed : FeedValue) (size : ℕ) (old new : Stream) (fed : FeedValue) : Type 0 where
  pub bytes : List ℕ
  pub all : length bytes ≡ size
  pub taken : AreTaken old new bytes
  pub read : (before : List ℕ) → HasRead feed before → HasRead fed (before ++ bytes)
  pub undecided : (bytes ≡ []) ⊎ ((before : List ℕ) → HasRead feed before → IsUndecided (before ++ bytes))
  pub grows : GrowsTo feed.reader.draft fed.reader.draft
  pub going : fed.error ≡ None

-- so many bytes were taken, and it is that of the dump with them
pub record IsGrown (before : List ℕ) (size : ℕ) (old new : Stream) (grown : History) : Type 0 where
  pub bytes : List ℕ
  pub all : length bytes ≡ size
  pub taken : AreTaken old new bytes
  pub is : IsHistoryOf (before ++ bytes) grown
