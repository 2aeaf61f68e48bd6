-- Which refusals the reader gives.
use Rattle.std.specs.Prelude.{◌≡◌, ◌↔◌, ℕ, List, None, Some}
use Rattle.svn_dump.specs.DumpText.{IsDumpText}
use Rattle.svn_dump.specs.FirstRefusal.{first_refusal}
use Rattle.svn_dump.specs.Record.{HistoryOfBytes}
use Rattle.svn_dump.specs.Refusal.{number_of_refusal}
use Rattle.svn_dump.specs.declared.error.DumpError.{DumpError}
use Rattle.svn_dump.specs.declared.error.DumpError.TheVariants.{Refused, Memory}
use Rattle.svn_dump.specs.declared.refusal.Refusal.{Refusal}

-- the first reason against the bytes has this number, and stands against a block that begins there
pub record IsFirstAt (bytes : List ℕ) (number at : ℕ) : Type 0 where
  pub refusal : Refusal
  pub first : first_refusal bytes ≡ Some (record { refusal = refusal; at = at })
  pub numbered : number ≡ number_of_refusal refusal

-- the error is the first reason against the bytes, or want of memory
abbrev pub IsRefusal : List ℕ → DumpError → Type 0
IsRefusal bytes (Refused number at) = IsFirstAt bytes number at
IsRefusal bytes Memory = Unit {0}

-- bytes are a dump exactly where there is no reason against them
abbrev pub DumpsAreExact : Type 0
DumpsAreExact = (bytes : List ℕ) → (first_refusal bytes ≡ None) ↔ ((history : HistoryOfBytes) × IsDumpText bytes history)

-- bytes that are a dump are one of one history alone
abbrev pub DumpsAreOne : Type 0
DumpsAreOne = (bytes : List ℕ) (a b : HistoryOfBytes) → IsDumpText bytes a → IsDumpText bytes b → a ≡ b
