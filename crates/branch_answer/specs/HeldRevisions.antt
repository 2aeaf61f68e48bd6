-- How a path of a dump holds the revisions of a range, as it is kept.
use Rattle.std.specs.Prelude.{◌≡◌, ℕ, suc, ◌+◌, ◌-◌, ◌<◌, ◌≤◌, min, All, List, [], ◌∷◌, Option, None, is_some, length, map, ⊤, if◌then◌else◌}
use Rattle.std.specs.List.{range_with_len}
use Rattle.merge_info.specs.Value.{Entry, MergeInfoValue}
use Rattle.svn_path.specs.Path.{IsPathOf}
use Rattle.svn_path.specs.declared.names.NameId.{NameId}
use Rattle.svn_dump.specs.Dump.{DumpValue, history_in_bytes}
use Rattle.query_answer.specs.Repo.{effective_in, peg_in_bytes, trees_in_bytes}
use Rattle.query_answer.specs.declared.status.Status.TheVariants as status
use Rattle.query_answer.specs.declared.target.PathRev.{PathRev}
use Rattle.query_answer.specs.declared.unanswered.Unanswered.{Unanswered}
use Rattle.query_answer.specs.declared.unanswered.Unanswered.TheVariants.{Memory, Refused}
use Rattle.branch_answer.specs.Explicit.{ExplicitTexts}
use Rattle.branch_answer.specs.Holding.{Holding, entry_has, explicit_below, holding_at, is_in_history, text_holds, value_holds}
use Rattle.branch_answer.specs.KeptExplicit.{HasOwnText, explicit_text}
use Rattle.branch_answer.specs.KeptHolding.{holding_by, holding_view}
use Rattle.branch_answer.specs.KeptHoldings.{Mark, texts_of}
use Rattle.branch_answer.specs.declared.holding.Holding.{Holding as KeptHolding}
use Rattle.branch_answer.specs.declared.holding.Holding.TheVariants.{Below, InHistory, Not}
use Rattle.branch_answer.specs.declared.holdings.Holdings.{Holdings}

-- ---- the revisions

-- they begin with the range, and end with it or before
pub record AreWithin (range : ℕ × ℕ) (holdings : Holdings) : Type 0 where
  pub first : holdings.first ≡ range.0
  pub last : 0 < length holdings.how.items → holdings.first + length holdings.how.items ≤ range.1 + 1

-- how many revisions of a range a dump has
abbrev pub count_in : DumpValue → ℕ × ℕ → ℕ
count_in dump range = min (range.1 + 1) (length dump.counts) - range.0

-- ---- marks

-- for the history of a path
abbrev pub history_mark : DumpValue → PathRev → Mark
history_mark dump at rev = if is_in_history (history_in_bytes dump) (trees_in_bytes dump) (peg_in_bytes dump at) rev then InHistory else Not

-- for what an entry has, for what a value has, and for what the value of a text has
abbrev pub entry_mark : DumpValue → KeptHolding → KeptHolding → Entry → Mark
entry_mark dump whole part entry rev = holding_by whole part (entry_has (history_in_bytes dump) (trees_in_bytes dump) entry rev)

abbrev pub value_mark : DumpValue → KeptHolding → KeptHolding → MergeInfoValue → Mark
value_mark dump whole part value rev = holding_by whole part (value_holds (history_in_bytes dump) (trees_in_bytes dump) value rev)

abbrev pub text_mark : DumpValue → KeptHolding → List ℕ → Mark
text_mark dump how text rev = holding_by how how (text_holds (history_in_bytes dump) (trees_in_bytes dump) text rev)

-- for the first of these texts that has the revision, the first of which has this index
unfoldable pub below_mark : DumpValue → ℕ → ExplicitTexts → Mark
below_mark dump index [] rev = Not
below_mark dump index (each ∷ others) rev =
    if is_some (text_holds (history_in_bytes dump) (trees_in_bytes dump) each.1 rev) then Below index else below_mark dump (suc index) others rev

-- ---- what is held

-- the paths below a path that have mergeinfo of their own
pub record AreBelow (dump : DumpValue) (at : PathRev) (paths : List (List NameId)) : Type 0 where
  pub of_names : All (IsPathOf dump.names) paths
  pub own : All (HasOwnText dump at.rev) paths
  pub are : explicit_below (history_in_bytes dump) (trees_in_bytes dump) (peg_in_bytes dump at) ≡ map (explicit_text dump at.rev) paths

-- how a path holds a revision, given its effective value
abbrev pub holding_in : DumpValue → PathRev → MergeInfoValue → ℕ → Option Holding
holding_in dump at value rev = holding_at (history_in_bytes dump) (trees_in_bytes dump) (peg_in_bytes dump at) value rev

-- how it holds each revision of the range that the dump has
pub record AreHeldBy (dump : DumpValue) (at : PathRev) (value : MergeInfoValue) (range : ℕ × ℕ) (below : List (List NameId)) (holdings : Holdings) : Type 0 where
  pub first : holdings.first ≡ range.0
  pub how : map (holding_view (texts_of dump.names below)) holdings.how.items ≡ map (holding_in dump at value) (range_with_len range.0 (count_in dump range))

-- the mergeinfo that holds for the path is malformed, or memory ran out
abbrev pub IsValueRefused : DumpValue → PathRev → Unanswered → Type 0
IsValueRefused dump at (Refused of) = (of ≡ status.MalformedMergeinfo) × (effective_in dump at.path at.rev ≡ None)
IsValueRefused dump at Memory = ⊤
