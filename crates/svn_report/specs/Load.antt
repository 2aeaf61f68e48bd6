-- How a run reports that an input could not be read.
use Rattle.std.specs.Prelude.{◌≡◌, ◌⊎◌, ℕ, ◌+◌, List, IsFalse, IsTrue}
use Rattle.std.specs.Io.KnownBytes.{Consumes, IsAtEnd}
use Rattle.devices.specs.Device.{PullState}
use Rattle.svn_report.specs.declared.run_error.RunError.{RunError}
use Rattle.svn_report.specs.declared.run_error.RunError.TheVariants.{TooMany, Dump, Fault as Faulty, Read, Memory}
use Rattle.devices.specs.declared.source.Source.{Source}

-- how many reads one call makes at most
abbrev pub most_reads : ℕ
most_reads = 4294967296

-- all bytes of an input were read, to its end
pub record IsReadWhole (old new : PullState) (bytes : List ℕ) : Type 0 where
  pub read : Consumes old.left new.left bytes
  pub end : IsAtEnd new.left
  pub ends : new.ends ≡ old.ends + 1
  pub sound : IsFalse new.has_failed

-- an input was not read to its end: no call reached it, and one failed or `most_reads` were made
pub record IsUnread (old new : PullState) : Type 0 where
  pub no_end : new.ends ≡ old.ends
  pub why : IsTrue new.has_failed ⊎ (new.calls ≡ old.calls + most_reads)

abbrev pub IsReadError : RunError → Type 0
IsReadError TooMany = ⊥
IsReadError (Dump refused) = ⊥
IsReadError (Faulty fault) = ⊥
IsReadError (Read source) = Unit {0}
IsReadError Memory = ⊥

-- the source could not be read, or memory ran out
abbrev pub IsReadOrMemory : Source → RunError → Type 0
IsReadOrMemory source TooMany = ⊥
IsReadOrMemory source (Dump refused) = ⊥
IsReadOrMemory source (Faulty fault) = ⊥
IsReadOrMemory source (Read unread) = unread ≡ source
IsReadOrMemory source Memory = Unit {0}
