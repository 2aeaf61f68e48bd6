-- What each exit status of the program says of what was asked for, of its output and of its line on standard error:
--
-- 0: the report went out whole (`IsDone`)
-- 1: the queries or the dump are refused, as the line says (`IsRefused`)
-- 2: nothing was asked for (`IsMisused` of `Asked.antt`), as the line says
-- 3: the output failed (`IsCut`), or an input could not be opened or read (`IsRefused`), as the line says
-- 4: memory ran out, as the line says (`IsRefused`)
use Rattle.std.specs.Prelude.{ℕ, IsFalse, IsTrue, List}
use Rattle.std.specs.Io.KnownBytes.{Appends}
use Rattle.devices.specs.Device.{PushState}
use Rattle.devices.specs.Sending.{IsPartSent}
use Rattle.svn_report.specs.RunError.{IsErrorLine}
use Rattle.svn_report.specs.declared.run_error.RunError.{RunError}

-- the report that was asked for went out whole
pub record IsDone (IsAsked : List ℕ → Type 0) (old new : PushState) : Type 0 where
  pub report : List ℕ
  pub asked : IsAsked report
  pub sent : Appends old.gone new.gone report
  pub flushed : IsTrue new.is_flushed
  pub sound : IsFalse new.has_failed

-- the front of the report that was asked for went out, before the output failed
pub record IsCut (IsAsked : List ℕ → Type 0) (old new : PushState) : Type 0 where
  pub report : List ℕ
  pub asked : IsAsked report
  pub cut : IsPartSent old new report

-- there is no report, and the status and the line are those of the reason
pub record IsRefused (IsAsked : RunError → Type 0) (status : ℕ) (old new : PushState) : Type 0 where
  pub error : RunError
  pub asked : IsAsked error
  pub line : IsErrorLine status error old new
