-- Why a whole block is refused, in the order in which the reasons are reported. The reasons against the form of a block
-- come before them, in FirstRefusal.antt.
use Rattle.std.specs.Prelude.{ℕ, pred, ◌==◌, nat_lt, Bool, true, false, not, ◌||◌, List, [], ◌∷◌, ◌++◌, Option, Some, None, codes, is_none, length, slice_index_or, if◌then◌else◌}
use Rattle.std.specs.List.{list_any}
use Rattle.svn_dump.specs.DumpText.{all_records, most_numbered, names_of, values_of}
use Rattle.svn_dump.specs.Node.{BlockContent, Node, NodeAction, node_block, other_block, revision_block, uuid_block}
use Rattle.svn_dump.specs.Record.{HistoryOfBytes, has_dot, has_late_source, is_long, is_root_action, paths_read, with_content}
use Rattle.svn_dump.specs.declared.refusal.Refusal.{Refusal}
use Rattle.svn_dump.specs.declared.refusal.Refusal.TheVariants.{Magic, Version, Header, Length, Truncated, Props, BadRecord, Revision, BadPath, Delta, CopyRevision, RootAction, RevisionZero, TooLarge}

abbrev pub number_of_refusal : Refusal → ℕ
number_of_refusal Magic = 1
number_of_refusal Version = 2
number_of_refusal Header = 3
number_of_refusal Length = 4
number_of_refusal Truncated = 5
number_of_refusal Props = 6
number_of_refusal BadRecord = 7
number_of_refusal Revision = 8
number_of_refusal BadPath = 9
number_of_refusal Delta = 10
number_of_refusal CopyRevision = 11
number_of_refusal RootAction = 12
number_of_refusal RevisionZero = 13
number_of_refusal TooLarge = 14

-- the names by number, from 1 on
abbrev pub refusal_names : List (List ℕ)
refusal_names =
    codes "Magic" ∷ codes "Version" ∷ codes "Header" ∷ codes "Length" ∷ codes "Truncated" ∷ codes "Props" ∷ codes "BadRecord"
    ∷ codes "Revision" ∷ codes "BadPath" ∷ codes "Delta" ∷ codes "CopyRevision" ∷ codes "RootAction" ∷ codes "RevisionZero"
    ∷ codes "TooLarge" ∷ []

abbrev pub refusal_name_of : ℕ → List ℕ
refusal_name_of number = slice_index_or (codes "Unknown" ∷ refusal_names) number (codes "Unknown")

-- a reason, and whether it holds
pub record Reason : Type 0 where
  pub refusal : Refusal
  pub holds : Bool

abbrev pub reason : Refusal → Bool → Reason
reason refusal holds = record { refusal = refusal; holds = holds }

-- the first that holds
unfoldable pub first_holding : List Reason → Option Refusal
first_holding [] = None
first_holding (each ∷ more) = if each.holds then Some each.refusal else first_holding more

-- ---- whole blocks

-- more names, records, revisions or mergeinfo texts than can be numbered
abbrev pub is_large : HistoryOfBytes → Bool
is_large history =
    nat_lt most_numbered (length (names_of history)) || nat_lt most_numbered (length (all_records history))
    || nat_lt most_numbered (length history) || nat_lt most_numbered (length (values_of history))

-- what a block makes of a history, if it makes one, is large
abbrev pub grows_large : Option HistoryOfBytes → Bool
grows_large None = false
grows_large (Some history) = is_large history

-- the reasons against what a node block of a revision does
abbrev pub action_refusals : ℕ → Node → NodeAction → List Reason
action_refusals rev node action =
    reason BadPath (list_any has_dot (paths_read node.path action))
    ∷ reason Delta node.is_delta
    ∷ reason CopyRevision (has_late_source rev action)
    ∷ reason RootAction (is_root_action node.path action)
    ∷ reason RevisionZero (not (nat_lt 0 rev))
    ∷ []

-- the reasons against its size, given whether the history grows too large by it
abbrev pub size_refusals : Node → NodeAction → Bool → List Reason
size_refusals node action large = reason TooLarge (list_any is_long (paths_read node.path action) || large) ∷ []

abbrev pub later_refusals : ℕ → Node → Bool → Option NodeAction → List Reason
later_refusals rev node large None = []
later_refusals rev node large (Some action) = action_refusals rev node action ++ size_refusals node action large

-- the reasons against a node block after so many revisions; before the first revision there is always one
unfoldable pub node_refusals : ℕ → Node → Bool → List Reason
node_refusals revisions node large =
    reason Props (is_none node.setting)
    ∷ reason BadRecord (revisions == 0 || is_none node.action)
    ∷ later_refusals (pred revisions) node large node.action

-- a revision block has the number of the revision blocks before it
abbrev pub revision_refusals : Option HistoryOfBytes → List Reason
revision_refusals after = reason Revision (is_none after) ∷ reason TooLarge (grows_large after) ∷ []

-- the reasons against a whole block after a history, given what the block makes of the history
unfoldable pub refusals_by : HistoryOfBytes → Option HistoryOfBytes → BlockContent → List Reason
refusals_by history after (revision_block number) = revision_refusals after
refusals_by history after (node_block node) = node_refusals (length history) node (grows_large after)
refusals_by history after uuid_block = []
refusals_by history after other_block = reason BadRecord true ∷ []

-- the reasons against a whole block after a history
abbrev pub content_refusals : HistoryOfBytes → BlockContent → List Reason
content_refusals history content = refusals_by history (with_content history content) content
