-- What the reader of a node block has found: a path, a setting, an action or a record by the numbers of the tables, which
-- have got its names and its text, or why there is none.
use Rattle.std.specs.Prelude.{◌≡◌, ℕ, pred, ◌<◌, ◌≤◌, nat_lt, Bool, false, ◌||◌, List, [], Option, Some, None, IsFalse, IsTrue, length}
use Rattle.std.specs.List.{list_any}
use Rattle.svn_path.specs.Components.{parts_of}
use Rattle.svn_path.specs.Names.{with_names}
use Rattle.svn_path.specs.Path.{IsPathOf, components_of}
use Rattle.svn_path.specs.declared.names.NameId.{NameId}
use Rattle.svn_dump.specs.Draft.{action_in_bytes, record_in_bytes, setting_in_bytes, only_tables}
use Rattle.svn_dump.specs.Dump.{IsActOf, IsRecordOf, IsSettingOf}
use Rattle.svn_dump.specs.DumpText.{most_numbered, parts_of_action, parts_of_record, texts_of_action, texts_of_setting}
use Rattle.svn_dump.specs.HeaderValues.{mi_text_view, node_action_view}
use Rattle.svn_dump.specs.History.{Setting}
use Rattle.svn_dump.specs.Node.{Node, NodeAction}
use Rattle.svn_dump.specs.Record.{ActionOfBytes, RecordOfBytes, action_of, has_late_source, is_long, most_components, paths_read, record_of}
use Rattle.svn_dump.specs.Refusal.{Reason, action_refusals, first_holding, node_refusals}
use Rattle.svn_dump.specs.declared.grammar.mi_text.MiText.{MiText}
use Rattle.svn_dump.specs.declared.grammar.node_action.NodeAction.{NodeAction as ReadAction}
use Rattle.svn_dump.specs.declared.read_error.ReadError.{ReadError}
use Rattle.svn_dump.specs.declared.read_error.ReadError.TheVariants as read
use Rattle.svn_dump.specs.declared.record.Act.{Act}
use Rattle.svn_dump.specs.declared.record.Mi.{Mi}
use Rattle.svn_dump.specs.declared.record.NodeRecord.{NodeRecord}
use Rattle.svn_dump.specs.declared.refusal.Refusal.{Refusal}
use Rattle.svn_dump.specs.declared.refusal.Refusal.TheVariants.{TooLarge}

pub record IsNumberedPath (bytes : List ℕ) (old new : List (List ℕ)) (path : List NameId) : Type 0 where
  pub same : components_of new path ≡ parts_of bytes
  pub of_table : IsPathOf new path
  pub short : length path ≤ most_components
  pub table : new ≡ with_names old (parts_of bytes)

pub record IsNumberedSetting (said : Setting (List ℕ)) (old new : List (List ℕ)) (each : Mi) : Type 0 where
  pub same : setting_in_bytes new each ≡ said
  pub of_table : IsSettingOf (length new) each
  pub table : new ≡ with_names old (texts_of_setting said)

pub record IsNumberedAct (said : ActionOfBytes) (rev : ℕ) (old new texts : List (List ℕ)) (each : Act) : Type 0 where
  pub same : action_in_bytes new texts each ≡ said
  pub of_table : IsActOf (only_tables new texts) rev each
  pub table : new ≡ with_names old (parts_of_action said)

pub record IsNumberedRecord (told : Option RecordOfBytes) (rev : ℕ) (old new old_texts new_texts : List (List ℕ)) (each : NodeRecord) : Type 0 where
  pub same : told ≡ Some (record_in_bytes new new_texts each)
  pub of_table : IsRecordOf (only_tables new new_texts) each
  pub revision : each.rev ≡ rev
  pub table : new ≡ with_names old (parts_of_record (record_in_bytes new new_texts each))
  pub texts : new_texts ≡ with_names old_texts (texts_of_action (action_in_bytes new new_texts each.act))

-- a node block after so many revisions is of this revision, and does this; only its size may stand against it
pub record IsAcceptedNode (revisions : ℕ) (node : Node) (rev : ℕ) (action : NodeAction) (setting : Setting (List ℕ)) : Type 0 where
  pub some_revision : 0 < revisions
  pub revision : rev ≡ pred revisions
  pub settled : node.setting ≡ Some setting
  pub does : node.action ≡ Some action
  pub none : first_holding (action_refusals rev node action) ≡ None

-- ---- refusals

-- the error is the first reason that holds, or want of memory
abbrev pub IsFirstReason : List Reason → ReadError → Type 0
IsFirstReason against (read.Refused refusal) = first_holding against ≡ Some refusal
IsFirstReason against read.Memory = Unit {0}

-- the error is that something is too large, which it is, or want of memory
abbrev pub IsTooLarge : Bool → ReadError → Type 0
IsTooLarge large (read.Refused refusal) = (refusal ≡ TooLarge) × IsTrue large
IsTooLarge large read.Memory = Unit {0}

-- a table with these has more than can be numbered
abbrev pub is_full_with : List (List ℕ) → List (List ℕ) → Bool
is_full_with table added = nat_lt most_numbered (length (with_names table added))

abbrev pub is_path_large : List (List ℕ) → List ℕ → Bool
is_path_large names path = is_long path || is_full_with names (parts_of path)

-- the names or the texts of a record, if there is one, are too many
abbrev pub is_record_large : List (List ℕ) → List (List ℕ) → Option RecordOfBytes → Bool
is_record_large names texts None = false
is_record_large names texts (Some each) = is_full_with names (parts_of_record each) || is_full_with texts (texts_of_action each.action)

-- ---- what the headers and the section of a node block give

abbrev pub action_of_node : ReadAction → MiText → ActionOfBytes
action_of_node action mergeinfo = action_of (mi_text_view mergeinfo) (node_action_view action)

abbrev pub texts_of_node : ReadAction → MiText → List (List ℕ)
texts_of_node action mergeinfo = texts_of_action (action_of_node action mergeinfo)

-- the path of the source, if there is one, has too many components
abbrev pub has_long_source : ReadAction → Bool
has_long_source action = list_any is_long (paths_read [] (node_action_view action))

-- the action by numbers, in each revision in which its source is of an earlier one
abbrev pub IsActOfNode : ReadAction → MiText → List (List ℕ) → List (List ℕ) → List (List ℕ) → Act → Type 0
IsActOfNode action mergeinfo old new texts act =
    (rev : ℕ) → IsFalse (has_late_source rev (node_action_view action)) → IsNumberedAct (action_of_node action mergeinfo) rev old new texts act

-- the source is too long, or the names or the texts of the action are too many
abbrev pub is_act_large : List (List ℕ) → List (List ℕ) → ReadAction → MiText → Bool
is_act_large names texts action mergeinfo =
    has_long_source action || is_full_with names (parts_of_action (action_of_node action mergeinfo))
    || is_full_with texts (texts_of_action (action_of_node action mergeinfo))

abbrev pub IsAcceptedAs : ℕ → Node → ℕ → ReadAction → MiText → Type 0
IsAcceptedAs revisions node rev action mergeinfo =
    IsAcceptedNode revisions node rev (node_action_view action) (mi_text_view mergeinfo)

-- the record of a node block after so many revisions
abbrev pub IsRecordOfNode : ℕ → Node → List (List ℕ) → List (List ℕ) → List (List ℕ) → List (List ℕ) → NodeRecord → Type 0
IsRecordOfNode revisions node old new old_texts new_texts each =
    IsNumberedRecord (record_of (pred revisions) node) (pred revisions) old new old_texts new_texts each

-- the first reason against a node block, whether or not the history grows too large by it
abbrev pub IsFirstAtAnySize : ℕ → Node → Refusal → Type 0
IsFirstAtAnySize revisions node refusal = (large : Bool) → first_holding (node_refusals revisions node large) ≡ Some refusal

-- the reasons against a node block after so many revisions, given the tables of names and of texts
abbrev pub record_refusals : ℕ → Node → List (List ℕ) → List (List ℕ) → List Reason
record_refusals revisions node names texts =
    node_refusals revisions node (is_record_large names texts (record_of (pred revisions) node))
