-- What reading a whole dump answers.
use Rattle.std.specs.Prelude.{◌≡◌, ◌↔◌, ℕ, List, None, Result, IfErr, IfOk, IsErrOf}
use Rattle.svn_dump.specs.Dump.{DumpValue, history_in_bytes}
use Rattle.svn_dump.specs.DumpError.{IsRefusal}
use Rattle.svn_dump.specs.DumpText.{FormatsAgree, IsDumpText, names_of, values_of}
use Rattle.svn_dump.specs.FirstRefusal.{first_refusal, line_refusals}
use Rattle.svn_dump.specs.Property.{SectionsAreExact}
use Rattle.svn_dump.specs.Record.{HistoryOfBytes}
use Rattle.svn_dump.specs.Refusal.{first_holding}
use Rattle.svn_dump.specs.declared.error.DumpError.{DumpError}
use Rattle.svn_dump.specs.declared.error.DumpError.TheVariants.{Memory}

pub record IsReadingOf (bytes : List ℕ) (answer : Result DumpValue DumpError) : Type 0 where
  -- the bytes are a dump exactly where there is no reason against them, and then of one history
  pub exactly : (first_refusal bytes ≡ None) ↔ ((history : HistoryOfBytes) × IsDumpText bytes history)
  pub one : (a b : HistoryOfBytes) → IsDumpText bytes a → IsDumpText bytes b → a ≡ b
  -- a property section is read as its form says
  pub sections : SectionsAreExact
  -- a dump of format 2 may have the first line of format 3
  pub formats : FormatsAgree
  pub ok : IfOk answer (λ dump. IsDumpText bytes (history_in_bytes dump))
  pub names : IfOk answer (λ dump. dump.names ≡ names_of (history_in_bytes dump))
  pub values : IfOk answer (λ dump. dump.values ≡ values_of (history_in_bytes dump))
  pub refused : IfErr answer (IsRefusal bytes)
  -- want of memory is never answered for a faulty first line
  pub memory : IsErrOf answer Memory → first_holding (line_refusals bytes) ≡ None
