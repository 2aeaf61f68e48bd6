-- What one worker knows of one cell: the text it was answered for, if any, and whether it keeps the reading itself.
use Rattle.std.specs.Prelude.{◌≡◌, ℕ, Bool, false, List, Option, Some, None}

pub record KnownCellValue : Type 0 where
  -- the name of the cell
  pub name : ℕ
  pub text : Option (List ℕ)
  pub own : Bool

abbrev pub unanswered : ℕ → KnownCellValue
unanswered name = record { name = name; text = None; own = false }

-- the same cell, answered for the text that was asked for
pub record IsAnsweredCell (old : KnownCellValue) (asked : List ℕ) (new : KnownCellValue) : Type 0 where
  pub name : new.name ≡ old.name
  pub text : new.text ≡ Some asked
