-- An input that is read in turns.
use Rattle.std.specs.Prelude.{◌≡◌, ◌⊎◌, ℕ, ◌+◌, ◌<◌, ◌≤◌, List, Option, IsFalse, IsTrue, length}
use Rattle.std.specs.Io.KnownBytes.{Consumes, IsAtEnd}
use Rattle.devices.specs.Device.{PullState}
use Rattle.devices.specs.declared.source.Source.TheVariants.{Input}
use Rattle.svn_text.specs.Cut.{Lacks}
use Rattle.svn_report.specs.declared.run_error.RunError.TheVariants.{Read}
use Rattle.live_history.specs.declared.talk_error.TalkError.{TalkError}
use Rattle.live_history.specs.declared.talk_error.TalkError.TheVariants.{Cut, Run}

pub record Stream : Type 0 where
  -- the bytes that are still to be taken, where the device reports them
  pub come : Option (List ℕ)
  -- how many calls of the device there are at most
  pub limit : ℕ
  -- how many of its calls gave no bytes, and how many failed
  pub ends : ℕ
  pub failures : ℕ

-- an input of which so many reads are made at most
abbrev pub stream_of : ℕ → PullState → Stream
stream_of reads input =
    record { come = input.left; limit = input.calls + reads; ends = input.ends; failures = input.failures }

module _ (old : Stream) where
  -- these bytes were taken
  pub record AreTaken (new : Stream) (taken : List ℕ) : Type 0 where
    pub bytes : Consumes old.come new.come taken
    pub limit : new.limit ≡ old.limit
    pub ends : new.ends ≡ old.ends
    pub failures : new.failures ≡ old.failures

  -- the input ended
  pub record HasEnded (after : PullState) : Type 0 where
    pub end : IsAtEnd after.left
    pub ends : after.ends ≡ old.ends + 1
    pub failures : after.failures ≡ old.failures
    pub few : after.calls ≤ old.limit
    pub sound : IsFalse after.has_failed

  -- these bytes were the last ones
  pub record AreLast (after : PullState) (last : List ℕ) : Type 0 where
    pub bytes : Consumes old.come after.left last
    pub ended : HasEnded after

  -- it was not read to its end: no call reached that, and one failed or all were made that may be
  pub record IsUnread (after : PullState) : Type 0 where
    pub no_end : after.ends ≡ old.ends
    pub why : IsTrue after.has_failed ⊎ (after.calls ≡ old.limit)

  -- these bytes, which are a line without its newline, were the last ones
  pub record IsCutLine (after : PullState) (rest : List ℕ) (error : TalkError) : Type 0 where
    pub is : error ≡ Cut
    pub ended : HasEnded after
    pub some : 0 < length rest
    pub line : Lacks 10 rest

  -- no more could be read than these bytes, which have no newline
  pub record IsUnreadLine (after : PullState) (rest : List ℕ) (error : TalkError) : Type 0 where
    pub is : error ≡ Run (Read Input)
    pub unread : IsUnread after
    pub line : Lacks 10 rest

  -- these bytes were read, by no more calls than may be, of which one at most came to the end or failed
  pub record IsReadUpTo (after : PullState) (rest : List ℕ) : Type 0 where
    pub bytes : Consumes old.come after.left rest
    pub once : after.ends + after.failures ≤ old.ends + old.failures + 1
    pub ends : after.ends ≤ old.ends + 1
    pub failures : after.failures ≤ old.failures + 1
    pub few : after.calls ≤ old.limit
