-- Where a path went, as the records of the next revision tell it.
use Rattle.std.specs.Prelude.{ℕ, ◌+◌, ◌==◌, ◌++◌, Bool, List, Option, Some, None, fold, option_and_then, option_map, if◌then◌else◌}
use Rattle.std.specs.Cmp.Lexicographic.{slice_cmp}
use Rattle.std.specs.Ordering.{is_lt, nat_cmp}
use Rattle.svn_path.specs.Below.{below}
use Rattle.svn_path.specs.Components.{path_text}
use Rattle.svn_path.specs.Path.{components_of, same_name}
use Rattle.svn_path.specs.declared.names.NameId.{NameId}
use Rattle.svn_dump.specs.Dump.{DumpValue, record_view}
use Rattle.svn_dump.specs.History.{Action, delete, change, add, copy, Record}
use Rattle.svn_dump.specs.declared.record.NodeRecord.{NodeRecord}
use Rattle.query_answer.specs.OriginsInBytes.{origin_of_path}
use Rattle.branch_answer.specs.Life.{is_place}

-- where an action on `to` puts a path of a revision
abbrev pub place_by : {C M : Type 0} → (C → C → Bool) → List C → ℕ → List C → Action C M → Option (List C)
place_by same path rev to delete = None
place_by same path rev to (change setting) = None
place_by same path rev to (add replace kind setting) = None
place_by same path rev to (copy replace from from_rev setting) =
    if from_rev == rev then option_map (λ rest. to ++ rest) (below same from path) else None

-- where a record puts it
abbrev pub place_after : {C M : Type 0} → (C → C → Bool) → List C → ℕ → Record C M → Option (List C)
place_after same path rev each = place_by same path rev each.path each.action

-- whether a path of the next revision came from a path of a revision
abbrev pub is_from : DumpValue → List NameId → ℕ → List NameId → Bool
is_from dump path rev next = is_place (components_of dump.names path) rev (origin_of_path dump next (rev + 1))

abbrev pub if_from : DumpValue → List NameId → ℕ → List NameId → Option (List NameId)
if_from dump path rev next = if is_from dump path rev next then Some next else None

-- where a record of the next revision put a path of a revision, if it came from there at the end, too
abbrev pub next_by : DumpValue → List NameId → ℕ → NodeRecord → Option (List NameId)
next_by dump path rev each = option_and_then (if_from dump path rev) (place_after same_name path rev (record_view each))

-- ---- the first of such paths

-- whether a path is printed before another in the order of the bytes
abbrev pub is_before : List (List ℕ) → List NameId → List NameId → Bool
is_before names path other =
    is_lt (slice_cmp nat_cmp (path_text (components_of names path)) (path_text (components_of names other)))

abbrev pub earlier_in : List (List ℕ) → List NameId → Option (List NameId) → List NameId
earlier_in names path None = path
earlier_in names path (Some other) = if is_before names other path then other else path

-- the first so far, and one more, if there is one
abbrev pub first_with : List (List ℕ) → Option (List NameId) → Option (List NameId) → Option (List NameId)
first_with names first None = first
first_with names first (Some next) = Some (earlier_in names next first)

abbrev pub first_after : DumpValue → List NameId → ℕ → Option (List NameId) → NodeRecord → Option (List NameId)
first_after dump path rev first each = first_with dump.names first (next_by dump path rev each)

-- the first path where the records put a path
abbrev pub first_by : DumpValue → List NameId → ℕ → List NodeRecord → Option (List NameId)
first_by dump path rev records = fold (first_after dump path rev) None records
