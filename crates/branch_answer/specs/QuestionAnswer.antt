-- The answer to a question on a history in bytes, of the same form as that to a query.
use Rattle.std.specs.Prelude.{ℕ, ◌+◌, ◌++◌, nat_le, List, [], ◌∷◌, Option, Some, None, bytes_eq, codes, flat_map, is_some, length, map, slice_index_or, if◌then◌else◌}
use Rattle.block_map.specs.Standing.{Standing, standing_at}
use Rattle.svn_text.specs.Line.{line_text}
use Rattle.merge_info.specs.Line.{elements_of}
use Rattle.range_list.specs.declared.run.Run.{Run}
use Rattle.svn_dump.specs.Dump.{DumpValue, history_in_bytes}
use Rattle.svn_dump.specs.Tree.{tree_of}
use Rattle.svn_dump.specs.Record.{HistoryOfBytes}
use Rattle.query_answer.specs.Answer.{Answer, TreesOfBytes, answer_head, if_peg_exists, ok_answer, refused_answer, status_text, with_effective_mergeinfo}
use Rattle.query_answer.specs.Peg.{Peg, peg_of}
use Rattle.query_answer.specs.Repo.{trees_in_bytes}
use Rattle.query_answer.specs.declared.status.Status.{Status}
use Rattle.query_answer.specs.declared.status.Status.TheVariants as status
use Rattle.branch_answer.specs.Ancestor.{ancestor_line, ancestor_of}
use Rattle.branch_answer.specs.Descendants.{descendants_of}
use Rattle.branch_answer.specs.Explicit.{explicit_lines, explicit_of}
use Rattle.branch_answer.specs.Holding.{Holding, held_in, held_lines}
use Rattle.branch_answer.specs.Life.{Life, lives_lines, lives_of}
use Rattle.branch_answer.specs.Listing.{kind_text, list_lines}
use Rattle.branch_answer.specs.NewRevisions.{Holder, all_revisions, distance_line, new_in, rangelist_lines}
use Rattle.branch_answer.specs.Question as question
use Rattle.branch_answer.specs.Question.{Comparison, Question}

-- ---- `entry`

-- the kind, and whether the path has mergeinfo of its own
abbrev pub entry_line : Standing (List ℕ) → List ℕ
entry_line standing = kind_text standing.kind ++ (if is_some standing.mergeinfo then codes " mergeinfo" else [])

abbrev pub entry_lines : Option (Standing (List ℕ)) → List (List ℕ)
entry_lines None = []
entry_lines (Some standing) = entry_line standing ∷ []

abbrev pub entry_answer : TreesOfBytes → Peg → Answer
entry_answer trees peg =
    if_peg_exists trees peg (ok_answer (entry_lines (standing_at bytes_eq (tree_of trees peg.rev) peg.path)))

-- ---- `list`

abbrev pub list_answer : TreesOfBytes → Peg → Answer
list_answer trees peg = if_peg_exists trees peg (ok_answer (list_lines (tree_of trees peg.rev) peg.path))

-- ---- `lives`

-- some revision up to the peg's has to have the path
abbrev pub if_some_life : List Life → Answer
if_some_life [] = refused_answer status.NoSuchPath
if_some_life (life ∷ lives) = ok_answer (lives_lines (life ∷ lives))

abbrev pub lives_answer : TreesOfBytes → Peg → Answer
lives_answer trees peg =
    if nat_le (length trees) peg.rev then refused_answer status.NoSuchRevision
    else if_some_life (lives_of trees peg.path peg.rev)

-- ---- `explicit`

abbrev pub explicit_answer : TreesOfBytes → Peg → Answer
explicit_answer trees peg =
    if_peg_exists trees peg (ok_answer (explicit_lines (explicit_of (tree_of trees peg.rev) peg.path)))

-- ---- `ancestor`

-- both have to exist, the first one first
abbrev pub ancestor_answer : TreesOfBytes → Peg → Peg → Answer
ancestor_answer trees one other =
    if_peg_exists trees one (if_peg_exists trees other (ok_answer (ancestor_line (ancestor_of trees one other) ∷ [])))

-- ---- `holds`

abbrev pub holds_answer : HistoryOfBytes → TreesOfBytes → Peg → ℕ × ℕ → Answer
holds_answer history trees peg range =
    if_peg_exists trees peg
    (with_effective_mergeinfo trees peg (λ value. ok_answer (held_lines (held_in history trees peg value range))))

-- ---- `new`, `new-ranges` and `distance`

abbrev pub with_runs : Option (List Run) → (List Run → Answer) → Answer
with_runs None answer = refused_answer status.BadQuery
with_runs (Some runs) answer = answer runs

-- the rangelist has to be well formed
abbrev pub with_rangelist : List ℕ → (List Run → Answer) → Answer
with_rangelist bytes answer = with_runs (elements_of bytes) answer

-- the peg has to exist, and the mergeinfo that holds for it to be well formed
abbrev pub with_holder : TreesOfBytes → Peg → (Holder → Answer) → Answer
with_holder trees peg answer =
    if_peg_exists trees peg (with_effective_mergeinfo trees peg (λ value. answer (record { peg = peg; value = value })))

abbrev pub range_or_all : TreesOfBytes → Option (ℕ × ℕ) → ℕ × ℕ
range_or_all trees None = all_revisions trees
range_or_all trees (Some range) = range

-- what is new, in lines
abbrev pub comparison_answer : HistoryOfBytes → TreesOfBytes → (List (ℕ × Holding) → List (List ℕ)) → Comparison → Answer
comparison_answer history trees lines comparison =
    with_rangelist comparison.uncounted
    (λ uncounted. with_holder trees comparison.one
    (λ one. with_holder trees comparison.other
    (λ other. ok_answer (lines (new_in history trees one other (range_or_all trees comparison.range) uncounted)))))

-- the result line of an answer, or the status where there is none
abbrev pub outcome_line : Answer → List ℕ
outcome_line answer = slice_index_or answer.lines 0 (status_text answer.status)

-- the distance to the peg of a field
abbrev pub target_answer : HistoryOfBytes → TreesOfBytes → Holder → List Run → Option Peg → Answer
target_answer history trees one uncounted None = refused_answer status.BadQuery
target_answer history trees one uncounted (Some peg) =
    with_holder trees peg (λ other. ok_answer (distance_line history trees one other (all_revisions trees) uncounted ∷ []))

-- a line for each target
abbrev pub distance_answer : HistoryOfBytes → TreesOfBytes → Peg → List ℕ → List (List ℕ) → Answer
distance_answer history trees from uncounted to =
    with_rangelist uncounted
    (λ runs. with_holder trees from
    (λ one. ok_answer (map (λ field. outcome_line (target_answer history trees one runs (peg_of field))) to)))

-- ---- `descendants`

abbrev pub descendants_answer : TreesOfBytes → Peg → ℕ → Answer
descendants_answer trees peg rev =
    if_peg_exists trees peg
    (if nat_le (length trees) rev then refused_answer status.NoSuchRevision else ok_answer (descendants_of trees peg rev))

-- ---- the answer

-- the answer to a question on a history, given its trees
unfoldable pub question_answer : HistoryOfBytes → TreesOfBytes → Question → Answer
question_answer history trees question.bad = refused_answer status.BadQuery
question_answer history trees (question.entry peg) = entry_answer trees peg
question_answer history trees (question.list peg) = list_answer trees peg
question_answer history trees (question.lives peg) = lives_answer trees peg
question_answer history trees (question.explicit peg) = explicit_answer trees peg
question_answer history trees (question.ancestor one other) = ancestor_answer trees one other
question_answer history trees (question.holds peg range) = holds_answer history trees peg range
question_answer history trees (question.new comparison) = comparison_answer history trees held_lines comparison
question_answer history trees (question.new_ranges comparison) = comparison_answer history trees rangelist_lines comparison
question_answer history trees (question.distance from uncounted to) = distance_answer history trees from uncounted to
question_answer history trees (question.descendants peg rev) = descendants_answer trees peg rev

abbrev pub question_answer_in : DumpValue → Question → Answer
question_answer_in dump question = question_answer (history_in_bytes dump) (trees_in_bytes dump) question

-- ---- what is kept of an answer

-- the status, and the text of the result lines
pub record AnswerValue : Type 0 where
  pub status : Status
  pub text : List ℕ

abbrev pub lines_text : List (List ℕ) → List ℕ
lines_text lines = flat_map line_text lines

abbrev pub kept_answer : Answer → AnswerValue
kept_answer answer = record { status = answer.status; text = lines_text answer.lines }

-- the whole text of the answer to the question of this place in a list
abbrev pub kept_text_at : ℕ → AnswerValue → List ℕ
kept_text_at place answer = answer_head (place + 1) answer.status ++ answer.text
