-- Which revisions a path holds: those of its history, and those that were merged into it (Subversion book, "Branching and
-- Merging", "Mergeinfo and Previews" and "Subtree Merges and Subtree Mergeinfo").
use Rattle.std.specs.Prelude.{ℕ, ◌+◌, ◌-◌, Bool, not, List, [], ◌∷◌, ◌++◌, Option, Some, None, bytes_eq, codes, decimal, filter, filter_map, is_some, map, option_and_then, option_map, if◌then◌else◌}
use Rattle.range_list.specs.Rangelist.{inheritability_of}
use Rattle.merge_info.specs.CanonicalValue.{value_of}
use Rattle.merge_info.specs.Value.{Entry, MergeInfoValue}
use Rattle.svn_path.specs.Components.{parts_of, path_text}
use Rattle.svn_dump.specs.Record.{HistoryOfBytes}
use Rattle.svn_dump.specs.Tree.{tree_of}
use Rattle.path_index.specs.Operative.{down_from, is_operative}
use Rattle.query_answer.specs.Answer.{TreesOfBytes}
use Rattle.query_answer.specs.Merged.{operative_location}
use Rattle.query_answer.specs.Peg.{Peg}
use Rattle.branch_answer.specs.Explicit.{ExplicitTexts, explicit_of}

-- how a path holds a revision
pub data Holding : Type 0 where
  -- the revision changed the path where it then stood
  in_history : Holding
  -- mergeinfo of the path has it as inheritable
  merged : Holding
  -- mergeinfo of the path has it, but not as inheritable
  in_part : Holding
  -- mergeinfo of a path below has it; of several, this is the first
  in_part_below : List ℕ → Holding

-- the revisions of a range of which something is held, the newest first, each with how
abbrev pub those_held : (ℕ → Option Holding) → ℕ × ℕ → List (ℕ × Holding)
those_held how range = filter_map (λ rev. option_map (λ each. (rev, each)) (how rev)) (down_from (range.1 + 1 - range.0) range.1)

-- ---- what mergeinfo has

-- a revision that two entries have is inheritable if it is in one of them
abbrev pub either_way : Option Bool → Option Bool → Option Bool
either_way None other = other
either_way (Some inheritable) None = Some inheritable
either_way (Some inheritable) (Some other) = if inheritable then Some inheritable else Some other

module _ (history : HistoryOfBytes) (trees : TreesOfBytes) where
  -- whether an entry has a revision that changed its path, and if so whether it is inheritable
  abbrev pub entry_has : Entry → ℕ → Option Bool
  entry_has entry rev =
      if is_operative bytes_eq history trees (parts_of entry.path) rev then inheritability_of entry.runs rev else None

  -- whether a value has the revision for some path that it changed
  unfoldable pub value_holds : MergeInfoValue → ℕ → Option Bool
  value_holds [] rev = None
  value_holds (entry ∷ entries) rev = either_way (entry_has entry rev) (value_holds entries rev)

  -- whether the value of a text has it; of one that is malformed, none has
  abbrev pub text_holds : List ℕ → ℕ → Option Bool
  text_holds text rev = option_and_then (λ value. value_holds value rev) (value_of text)

  -- the first of these paths whose mergeinfo has the revision
  unfoldable pub first_below : ExplicitTexts → ℕ → Option Holding
  first_below [] rev = None
  first_below (each ∷ others) rev =
      if is_some (text_holds each.1 rev) then Some (in_part_below each.0) else first_below others rev

  abbrev pub merged_or_below : Option Bool → Option Holding → Option Holding
  merged_or_below None below = below
  merged_or_below (Some inheritable) below = if inheritable then Some merged else Some in_part

  -- ---- how a path holds a revision, given its effective value, and what is below it

  abbrev pub is_in_history : Peg → ℕ → Bool
  is_in_history peg rev = is_some (operative_location bytes_eq history trees peg.path peg.rev rev)

  abbrev pub holding_of : Peg → MergeInfoValue → ExplicitTexts → ℕ → Option Holding
  holding_of peg value below rev =
      if is_in_history peg rev then Some in_history
      else merged_or_below (value_holds value rev) (first_below below rev)

  -- the paths below a peg that have mergeinfo of their own
  abbrev pub explicit_below : Peg → ExplicitTexts
  explicit_below peg =
      filter (λ each. not (bytes_eq each.0 (path_text peg.path))) (explicit_of (tree_of trees peg.rev) peg.path)

  -- how a peg holds a revision, given its effective value
  abbrev pub holding_at : Peg → MergeInfoValue → ℕ → Option Holding
  holding_at peg value rev = holding_of peg value (explicit_below peg) rev

  -- each revision of a range that it holds, the newest first, with how
  abbrev pub held_in : Peg → MergeInfoValue → ℕ × ℕ → List (ℕ × Holding)
  held_in peg value range = those_held (holding_at peg value) range

-- ---- lines

abbrev pub holding_text : Holding → List ℕ
holding_text in_history = codes "history"
holding_text merged = codes "merged"
holding_text in_part = codes "in-part"
holding_text (in_part_below path) = codes "in-part-below " ++ path

-- the revision, how it is held, and a path last
abbrev pub held_line : ℕ × Holding → List ℕ
held_line held = decimal held.0 ++ codes " " ++ holding_text held.1

abbrev pub held_lines : List (ℕ × Holding) → List (List ℕ)
held_lines held = map held_line held
