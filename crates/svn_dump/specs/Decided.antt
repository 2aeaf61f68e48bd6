-- What the first bytes of an input decide about it.
use Rattle.std.specs.Prelude.{◌≡◌, ℕ, List, ◌++◌}
use Rattle.svn_dump.specs.DumpError.{IsFirstAt}
use Rattle.svn_dump.specs.DumpText.{first_line}
use Rattle.svn_dump.specs.declared.error.DumpError.{DumpError}
use Rattle.svn_dump.specs.declared.error.DumpError.TheVariants.{Refused, Memory}
use Rattle.svn_dump.specs.declared.grammar.format.Format.{Format}

-- every input that begins with these bytes is refused with this number at this offset
abbrev pub IsDecided : List ℕ → ℕ → ℕ → Type 0
IsDecided bytes number at = (more : List ℕ) → IsFirstAt (bytes ++ more) number at

-- there is no number and offset with which every input that begins with these bytes is refused
abbrev pub IsUndecided : List ℕ → Type 0
IsUndecided bytes = (number at : ℕ) → IsDecided bytes number at → ⊥

-- the bytes are the first line of a dump, and some more
pub record HasFirstLine (bytes : List ℕ) : Type 0 where
  pub format : Format
  pub rest : List ℕ
  pub begins : bytes ≡ first_line format ++ rest

-- the error is the refusal that the bytes decide, or want of memory, which comes only after the first line
abbrev pub IsDecidedError : List ℕ → DumpError → Type 0
IsDecidedError bytes (Refused number at) = IsDecided bytes number at
IsDecidedError bytes Memory = HasFirstLine bytes
