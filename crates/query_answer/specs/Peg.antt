-- A peg: a path in a revision. A peg revision follows the last `@` of a path (Subversion book, "Peg and operative
-- revisions"); here it is required, and a number.
use Rattle.std.specs.Prelude.{ℕ, ◌==◌, Bool, List, Option, None, option_map, if◌then◌else◌}
use Rattle.std.specs.List.{list_any, before_last, after_last}
use Rattle.svn_path.specs.Components.{parts_of, is_dot}
use Rattle.svn_text.specs.Number.{number_up_to, greatest_revision}

abbrev pub is_at_sign : ℕ → Bool
is_at_sign byte = byte == 64

pub record Peg : Type 0 where
  pub path : List (List ℕ)
  pub rev : ℕ

-- a peg as it is kept, whose path is still bytes
pub record PegValue : Type 0 where
  pub path : List ℕ
  pub rev : ℕ

abbrev pub peg_view : PegValue → Peg
peg_view peg = record { path = parts_of peg.path; rev = peg.rev }

-- what precedes the last `@` of a field, without a component `.` or `..`, and the revision that follows it
abbrev pub peg_value_of : List ℕ → Option PegValue
peg_value_of field =
    if list_any is_at_sign field
    then (if list_any is_dot (parts_of (before_last is_at_sign field)) then None
    else option_map (λ rev. record { path = before_last is_at_sign field; rev = rev }) (number_up_to greatest_revision (after_last is_at_sign field)))
    else None

abbrev pub peg_of : List ℕ → Option Peg
peg_of field = option_map peg_view (peg_value_of field)
