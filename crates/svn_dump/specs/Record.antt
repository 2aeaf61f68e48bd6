-- What the blocks of a dump say of the history: revisions, and records of paths (Subversion's dump format notes,
-- versions 2 and 3).
use Rattle.std.specs.Prelude.{ℕ, pred, ◌==◌, nat_le, nat_lt, Bool, false, not, ◌&&◌, ◌||◌, List, [], ◌∷◌, ◌++◌, Option, Some, None, fold, length, codes, bytes_eq, option_map, option_and_then, if◌then◌else◌}
use Rattle.std.specs.List.{list_all, list_any}
use Rattle.svn_path.specs.Components.{parts_of, is_dot}
use Rattle.svn_dump.specs.Block.{Block, field, properties_length}
use Rattle.svn_dump.specs.History.{Setting, Action, delete, change, add, copy, Record, History}
use Rattle.svn_dump.specs.Node.{BlockContent, Node, NodeAction, action_named, node_add, node_change, node_copy, node_delete, is_change, node_block, other_block, revision_block, content_by_fields, uuid_block}
use Rattle.svn_text.specs.Number.{number_of}
use Rattle.svn_dump.specs.Property.{setting_of}
use Rattle.svn_dump.specs.declared.grammar.format.Format.{Format}
use Rattle.svn_dump.specs.declared.grammar.format.Format.TheVariants.{Two, Three}

-- components and mergeinfo texts as bytes
abbrev pub RecordOfBytes : Type 0
RecordOfBytes = Record (List ℕ) (List ℕ)

abbrev pub ActionOfBytes : Type 0
ActionOfBytes = Action (List ℕ) (List ℕ)

abbrev pub HistoryOfBytes : Type 0
HistoryOfBytes = History (List ℕ) (List ℕ)

-- ---- what a node block may say

abbrev pub most_components : ℕ
most_components = 1024

-- a component `.` or `..`
abbrev pub has_dot : List ℕ → Bool
has_dot path = list_any is_dot (parts_of path)

abbrev pub is_long : List ℕ → Bool
is_long path = nat_lt most_components (length (parts_of path))

-- no component
abbrev pub is_root : List ℕ → Bool
is_root path = length (parts_of path) == 0

-- the paths that are read: the node's own, and that of a copy's source
abbrev pub paths_read : List ℕ → NodeAction → List (List ℕ)
paths_read path node_delete = path ∷ []
paths_read path node_change = path ∷ []
paths_read path (node_add replace kind) = path ∷ []
paths_read path (node_copy replace from_rev from) = path ∷ from ∷ []

-- a copy from the block's own revision, or a later one
abbrev pub has_late_source : ℕ → NodeAction → Bool
has_late_source rev node_delete = false
has_late_source rev node_change = false
has_late_source rev (node_add replace kind) = false
has_late_source rev (node_copy replace from_rev from) = nat_le rev from_rev

-- the root can only be changed
abbrev pub is_root_action : List ℕ → NodeAction → Bool
is_root_action path action = is_root path && not (is_change action)

-- every path is one, and not too long; nothing is a difference that the format doesn't have; a copy is of an earlier
-- revision; and nothing happens to the root but changes, and nothing in revision 0
abbrev pub is_allowed : ℕ → List ℕ → Bool → NodeAction → Bool
is_allowed rev path is_delta action =
    list_all (λ each. not (has_dot each) && not (is_long each)) (paths_read path action)
    && not is_delta && not (has_late_source rev action) && not (is_root_action path action) && nat_lt 0 rev

-- ---- the record of a node block

abbrev pub action_of : Setting (List ℕ) → NodeAction → ActionOfBytes
action_of setting node_delete = delete
action_of setting node_change = change setting
action_of setting (node_add replace kind) = add replace kind setting
action_of setting (node_copy replace from_rev from) = copy replace (parts_of from) from_rev setting

abbrev pub record_by : List ℕ → Setting (List ℕ) → NodeAction → RecordOfBytes
record_by path setting action = record { path = parts_of path; action = action_of setting action }

-- the record of a node block of that revision
unfoldable pub record_of : ℕ → Node → Option RecordOfBytes
record_of rev node =
    option_and_then
    (λ setting. option_and_then
    (λ action. if is_allowed rev node.path node.is_delta action then Some (record_by node.path setting action) else None)
    node.action)
    node.setting

-- ---- blocks

abbrev pub says_true : Option (List ℕ) → Bool
says_true None = false
says_true (Some value) = bytes_eq value (codes "true")

-- a section or a text that is said to be a difference to an earlier one, which format 2 doesn't have
abbrev pub is_delta : Format → List (List ℕ) → Bool
is_delta Two lines = says_true (field (codes "Prop-delta") lines) || says_true (field (codes "Text-delta") lines)
is_delta Three lines = false

-- a section that holds changes to the properties, and not all of them, which format 3 has
abbrev pub has_changes : Format → List (List ℕ) → Bool
has_changes Two lines = false
has_changes Three lines = says_true (field (codes "Prop-delta") lines)

abbrev pub node_action_of : List (List ℕ) → Option NodeAction
node_action_of lines =
    option_and_then
    (action_named (field (codes "Node-kind") lines) (field (codes "Node-copyfrom-rev") lines) (field (codes "Node-copyfrom-path") lines))
    (field (codes "Node-action") lines)

abbrev pub node_of_block : Format → Block → List ℕ → Node
node_of_block format block path = record {
  path = path;
  action = node_action_of block.lines;
  is_delta = is_delta format block.lines;
  setting = setting_of (has_changes format block.lines) (properties_length block.lines) block.body;
}

unfoldable pub content_of : Format → Block → BlockContent
content_of format block =
    content_by_fields (field (codes "Revision-number") block.lines) (option_map (node_of_block format block) (field (codes "Node-path") block.lines))
    (field (codes "UUID") block.lines)

-- ---- the history

-- a history with one more record in its last revision
abbrev pub with_record : HistoryOfBytes → RecordOfBytes → HistoryOfBytes
with_record [] each = []
with_record (records ∷ []) each = (records ++ each ∷ []) ∷ []
with_record (records ∷ more ∷ history) each = records ∷ with_record (more ∷ history) each

-- a history with a revision whose number is that of the revisions before it
abbrev pub with_numbered : HistoryOfBytes → List ℕ → Option HistoryOfBytes
with_numbered history number =
    option_and_then (λ value. if value == length history then Some (history ++ [] ∷ []) else None) (number_of number)

-- what a block adds: a revision, or a record of the revision before it; the repository's UUID adds nothing
unfoldable pub with_content : HistoryOfBytes → BlockContent → Option HistoryOfBytes
with_content history (revision_block number) = with_numbered history number
with_content history (node_block node) = option_map (with_record history) (record_of (pred (length history)) node)
with_content history uuid_block = Some history
with_content history other_block = None

abbrev pub with_block : Format → HistoryOfBytes → Block → Option HistoryOfBytes
with_block format history block = with_content history (content_of format block)

-- the history that these blocks tell, one after another
abbrev pub history_of : Format → List Block → Option HistoryOfBytes
history_of format blocks = fold (λ so_far block. option_and_then (λ history. with_block format history block) so_far) (Some []) blocks
