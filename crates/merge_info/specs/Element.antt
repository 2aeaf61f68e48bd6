-- An element of a rangelist in the text of `svn:mergeinfo`: a revision or a range of revisions, inheritable unless `*`
-- follows (Subversion's design notes on merge tracking, "The mergeinfo property").
use Rattle.std.specs.Prelude.{ℕ, ◌==◌, nat_lt, Bool, true, false, List, Option, Some, None, option_and_then, option_map, if◌then◌else◌}
use Rattle.std.specs.List.{list_any, before_first, after_first}
use Rattle.svn_text.specs.Bytes.{is_not_empty}
use Rattle.svn_text.specs.Number.{number_up_to}
use Rattle.svn_text.specs.Number.{greatest_revision}
use Rattle.range_list.specs.declared.run.Run.{Run}

abbrev pub is_dash : ℕ → Bool
is_dash byte = byte == 45

abbrev pub is_star : ℕ → Bool
is_star byte = byte == 42

-- a revision that can have been merged
abbrev pub revision_of : List ℕ → Option ℕ
revision_of bytes = option_and_then (λ number. if number == 0 then None else Some number) (number_up_to greatest_revision bytes)

-- from one revision to another, which is greater
abbrev pub run_between : Bool → ℕ → ℕ → Option Run
run_between inheritable lo hi = if nat_lt lo hi then Some (record { lo = lo; hi = hi; inheritable = inheritable }) else None

-- a revision, or two that are separated by `-`
abbrev pub run_of : Bool → List ℕ → Option Run
run_of inheritable bytes =
    if list_any is_dash bytes
    then option_and_then (λ lo. option_and_then (run_between inheritable lo) (revision_of (after_first is_dash bytes))) (revision_of (before_first is_dash bytes))
    else option_map (λ number. record { lo = number; hi = number; inheritable = inheritable }) (revision_of bytes)

-- that, and perhaps `*` at its end
unfoldable pub element_of : List ℕ → Option Run
element_of bytes =
    if list_any is_star bytes
    then (if is_not_empty (after_first is_star bytes) then None else run_of false (before_first is_star bytes))
    else run_of true bytes
