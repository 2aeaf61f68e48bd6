-- What a question line asks. It begins with the word `ask`, which is no verb of a query.
use Rattle.std.specs.Prelude.{ℕ, List, [], ◌∷◌, Option, Some, None, codes, bytes_eq, option_and_then, option_map, if◌then◌else◌}
use Rattle.std.specs.List.{slice_split}
use Rattle.svn_text.specs.Number.{greatest_revision, number_up_to}
use Rattle.query_answer.specs.Peg.{Peg, peg_of, peg_view}
use Rattle.query_answer.specs.Query.{is_tab}
use Rattle.query_answer.specs.Range.{range_of}
use Rattle.branch_answer.specs.declared.question.Comparison.{Comparison as KeptComparison}
use Rattle.branch_answer.specs.declared.question.Question.{Question as KeptQuestion}
use Rattle.branch_answer.specs.declared.question.Question.TheVariants.{Ancestor, Bad, Descendants, Distance, Entry, Explicit, Holds, List as ListOf, Lives, New, NewRanges}

-- what is asked of two pegs: what the other one holds of a range of revisions, or of all, beyond the one. The revisions of
-- a rangelist don't count.
pub record Comparison : Type 0 where
  pub one : Peg
  pub other : Peg
  pub range : Option (ℕ × ℕ)
  pub uncounted : List ℕ

pub data Question : Type 0 where
  bad : Question
  entry : Peg → Question
  list : Peg → Question
  lives : Peg → Question
  explicit : Peg → Question
  ancestor : Peg → Peg → Question
  holds : Peg → ℕ × ℕ → Question
  new : Comparison → Question
  new_ranges : Comparison → Question
  distance : Peg → List ℕ → List (List ℕ) → Question
  descendants : Peg → ℕ → Question

abbrev pub question_or_bad : Option Question → Question
question_or_bad None = bad
question_or_bad (Some question) = question

-- a verb and a peg
abbrev pub question_of_peg : List ℕ → List ℕ → Question
question_of_peg verb peg =
    if bytes_eq verb (codes "entry") then question_or_bad (option_map entry (peg_of peg))
    else (if bytes_eq verb (codes "list") then question_or_bad (option_map list (peg_of peg))
    else (if bytes_eq verb (codes "lives") then question_or_bad (option_map lives (peg_of peg))
    else (if bytes_eq verb (codes "explicit") then question_or_bad (option_map explicit (peg_of peg))
    else bad)))

-- two pegs
abbrev pub ancestor_of : List ℕ → List ℕ → Option Question
ancestor_of one other = option_and_then (λ first. option_map (ancestor first) (peg_of other)) (peg_of one)

-- a peg and a range
abbrev pub holds_of : List ℕ → List ℕ → Option Question
holds_of peg range = option_and_then (λ of. option_map (holds of) (range_of range)) (peg_of peg)

-- a peg and a revision
abbrev pub descendants_of : List ℕ → List ℕ → Option Question
descendants_of peg rev = option_and_then (λ of. option_map (descendants of) (number_up_to greatest_revision rev)) (peg_of peg)

-- ---- two pegs

-- two pegs, in a range or in all revisions, with a rangelist
abbrev pub comparison_of : List ℕ → List ℕ → Option (ℕ × ℕ) → List ℕ → Option Comparison
comparison_of one other range uncounted =
    option_and_then
    (λ first. option_map (λ second. record { one = first; other = second; range = range; uncounted = uncounted }) (peg_of other))
    (peg_of one)

abbrev pub comparison_in : List ℕ → List ℕ → List ℕ → List ℕ → Option Comparison
comparison_in one other range uncounted = option_and_then (λ within. comparison_of one other (Some within) uncounted) (range_of range)

-- by a range, and perhaps a rangelist
abbrev pub comparison_within : List ℕ → List ℕ → List (List ℕ) → Option Comparison
comparison_within one other [] = comparison_of one other None []
comparison_within one other (range ∷ []) = comparison_in one other range []
comparison_within one other (range ∷ uncounted ∷ []) = comparison_in one other range uncounted
comparison_within one other (range ∷ uncounted ∷ more ∷ fields) = None

-- ---- more fields than a peg

-- a verb, a peg and another field
abbrev pub question_of_field : List ℕ → List ℕ → List ℕ → Question
question_of_field verb peg field =
    if bytes_eq verb (codes "ancestor") then question_or_bad (ancestor_of peg field)
    else (if bytes_eq verb (codes "holds") then question_or_bad (holds_of peg field)
    else (if bytes_eq verb (codes "descendants") then question_or_bad (descendants_of peg field)
    else (if bytes_eq verb (codes "new") then question_or_bad (option_map new (comparison_within peg field []))
    else (if bytes_eq verb (codes "new-ranges") then question_or_bad (option_map new_ranges (comparison_within peg field []))
    else bad))))

-- a verb, a peg, another field, and more of them
abbrev pub question_of_more : List ℕ → List ℕ → List ℕ → List (List ℕ) → Question
question_of_more verb peg field more =
    if bytes_eq verb (codes "new") then question_or_bad (option_map new (comparison_within peg field more))
    else (if bytes_eq verb (codes "new-ranges") then question_or_bad (option_map new_ranges (comparison_within peg field more))
    else (if bytes_eq verb (codes "distance") then question_or_bad (option_map (λ from. distance from field more) (peg_of peg))
    else bad))

-- the fields after `ask`
abbrev pub question_of_fields : List (List ℕ) → Question
question_of_fields [] = bad
question_of_fields (verb ∷ []) = bad
question_of_fields (verb ∷ peg ∷ []) = question_of_peg verb peg
question_of_fields (verb ∷ peg ∷ field ∷ []) = question_of_field verb peg field
question_of_fields (verb ∷ peg ∷ field ∷ more ∷ fields) = question_of_more verb peg field (more ∷ fields)

abbrev pub question_after : List (List ℕ) → Option Question
question_after [] = None
question_after (first ∷ fields) = if bytes_eq first (codes "ask") then Some (question_of_fields fields) else None

-- what a line asks, whose fields are separated by one tab each, if its first field is `ask`
abbrev pub question_of : List ℕ → Option Question
question_of line = question_after (slice_split is_tab line)

-- ---- what is kept of a question

abbrev pub comparison_view : KeptComparison → Comparison
comparison_view kept =
    record { one = peg_view kept.one; other = peg_view kept.other; range = kept.range; uncounted = kept.uncounted.now }

abbrev pub question_view : KeptQuestion → Question
question_view Bad = bad
question_view (Entry peg) = entry (peg_view peg)
question_view (ListOf peg) = list (peg_view peg)
question_view (Lives peg) = lives (peg_view peg)
question_view (Explicit peg) = explicit (peg_view peg)
question_view (Ancestor peg other) = ancestor (peg_view peg) (peg_view other)
question_view (Holds peg range) = holds (peg_view peg) range
question_view (New comparison) = new (comparison_view comparison)
question_view (NewRanges comparison) = new_ranges (comparison_view comparison)
question_view (Distance from uncounted to) = distance (peg_view from) uncounted.now (slice_split is_tab to.now)
question_view (Descendants peg rev) = descendants (peg_view peg) rev
