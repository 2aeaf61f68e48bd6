-- What a query line asks.
use Rattle.std.specs.Prelude.{◌≡◌, ℕ, ◌==◌, Bool, List, [], ◌∷◌, Option, Some, None, codes, bytes_eq, option_map, option_and_then, slice_index_or, if◌then◌else◌}
use Rattle.std.specs.List.{slice_split}
use Rattle.svn_text.specs.Number.{number_up_to, greatest_revision}
use Rattle.query_answer.specs.Peg.{Peg, peg_of, peg_value_of, peg_view}
use Rattle.query_answer.specs.Range.{range_of}
use Rattle.query_answer.specs.declared.query.Query.{Query as KeptQuery}
use Rattle.query_answer.specs.declared.query.Query.TheVariants.{Bad, Eligible, Locate, Log, Merged, Mergeinfo, Segments}

abbrev pub is_tab : ℕ → Bool
is_tab byte = byte == 9

pub data Query : Type 0 where
  bad : Query
  locate : Peg → ℕ → Query
  segments : Peg → Query
  log : Peg → Option (ℕ × ℕ) → Query
  mergeinfo : Peg → Query
  merged : Peg → Peg → Option (ℕ × ℕ) → Query
  eligible : Peg → Peg → Option (ℕ × ℕ) → Query

abbrev pub query_or_bad : Option Query → Query
query_or_bad None = bad
query_or_bad (Some query) = query

-- a verb and a peg
abbrev pub query_of_peg : List ℕ → List ℕ → Query
query_of_peg verb peg =
    if bytes_eq verb (codes "segments") then query_or_bad (option_map segments (peg_of peg))
    else (if bytes_eq verb (codes "log") then query_or_bad (option_map (λ found. log found None) (peg_of peg))
    else (if bytes_eq verb (codes "mergeinfo") then query_or_bad (option_map mergeinfo (peg_of peg))
    else bad))

-- a peg and a revision
abbrev pub locate_of : List ℕ → List ℕ → Option Query
locate_of field rev = option_and_then (λ peg. option_map (locate peg) (number_up_to greatest_revision rev)) (peg_of field)

-- a peg and a range
abbrev pub log_of : List ℕ → List ℕ → Option Query
log_of field range = option_and_then (λ peg. option_map (λ found. log peg (Some found)) (range_of range)) (peg_of field)

-- a source and a target
abbrev pub query_about : (Peg → Peg → Query) → Option Peg → Option Peg → Query
query_about query source target = query_or_bad (option_and_then (λ from. option_map (query from) target) source)

-- a verb, a source and a target, and the range if there is one
abbrev pub query_of_pair : List ℕ → List ℕ → List ℕ → Option (ℕ × ℕ) → Query
query_of_pair verb source target range =
    if bytes_eq verb (codes "merged") then query_about (λ from to. merged from to range) (peg_of source) (peg_of target)
    else (if bytes_eq verb (codes "eligible")
    then query_about (λ from to. eligible from to range) (peg_of source) (peg_of target)
    else bad)

-- a verb, a peg and another field
abbrev pub query_of_field : List ℕ → List ℕ → List ℕ → Query
query_of_field verb peg field =
    if bytes_eq verb (codes "locate") then query_or_bad (locate_of peg field)
    else (if bytes_eq verb (codes "log") then query_or_bad (log_of peg field)
    else query_of_pair verb peg field None)

-- a verb, two fields and a range
abbrev pub query_in_range : List ℕ → List ℕ → List ℕ → Option (ℕ × ℕ) → Query
query_in_range verb source target None = bad
query_in_range verb source target (Some range) = query_of_pair verb source target (Some range)

-- a verb and its fields
abbrev pub query_of_fields : List (List ℕ) → Query
query_of_fields [] = bad
query_of_fields (verb ∷ []) = bad
query_of_fields (verb ∷ peg ∷ []) = query_of_peg verb peg
query_of_fields (verb ∷ peg ∷ field ∷ []) = query_of_field verb peg field
query_of_fields (verb ∷ peg ∷ field ∷ range ∷ []) = query_in_range verb peg field (range_of range)
query_of_fields (verb ∷ peg ∷ field ∷ range ∷ more ∷ fields) = bad

-- what a line asks: fields separated by one tab each
abbrev pub query_of : List ℕ → Query
query_of line = query_of_fields (slice_split is_tab line)

-- ---- what is kept of a query

abbrev pub query_view : KeptQuery → Query
query_view Bad = bad
query_view (Locate peg rev) = locate (peg_view peg) rev
query_view (Segments peg) = segments (peg_view peg)
query_view (Log peg range) = log (peg_view peg) range
query_view (Mergeinfo peg) = mergeinfo (peg_view peg)
query_view (Merged source target range) = merged (peg_view source) (peg_view target) range
query_view (Eligible source target range) = eligible (peg_view source) (peg_view target) range

-- the query's peg, if it has one, is read from the field
abbrev pub HasPegOf : List ℕ → KeptQuery → Type 0
HasPegOf field Bad = Unit {0}
HasPegOf field (Locate peg rev) = Some peg ≡ peg_value_of field
HasPegOf field (Segments peg) = Some peg ≡ peg_value_of field
HasPegOf field (Log peg range) = Some peg ≡ peg_value_of field
HasPegOf field (Mergeinfo peg) = Some peg ≡ peg_value_of field
HasPegOf field (Merged source target range) = Some source ≡ peg_value_of field
HasPegOf field (Eligible source target range) = Some source ≡ peg_value_of field

-- the query's target, if it has one, is read from the field
abbrev pub HasTargetOf : List ℕ → KeptQuery → Type 0
HasTargetOf field Bad = Unit {0}
HasTargetOf field (Locate peg rev) = Unit {0}
HasTargetOf field (Segments peg) = Unit {0}
HasTargetOf field (Log peg range) = Unit {0}
HasTargetOf field (Mergeinfo peg) = Unit {0}
HasTargetOf field (Merged source target range) = Some target ≡ peg_value_of field
HasTargetOf field (Eligible source target range) = Some target ≡ peg_value_of field

-- the fields of a line after its verb
abbrev pub peg_field : List ℕ → List ℕ
peg_field line = slice_index_or (slice_split is_tab line) 1 []

abbrev pub third_field : List ℕ → List ℕ
third_field line = slice_index_or (slice_split is_tab line) 2 []
