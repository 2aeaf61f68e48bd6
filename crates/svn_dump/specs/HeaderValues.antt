-- What the values of the listed headers say, by their indices, with the property section: what a block says that has
-- these.
use Rattle.std.specs.Prelude.{ℕ, Bool, false, ◌&&◌, ◌||◌, is_none, is_some, List, [], ◌∷◌, Option, Some, None, slice_index_or, option_copied, option_map, option_and_then}
use Rattle.svn_dump.specs.Block.{length_or_zero, whole_length}
use Rattle.svn_dump.specs.Field.{field_index}
use Rattle.svn_dump.specs.History.{Setting, keep, put}
use Rattle.svn_dump.specs.Node.{BlockContent, Node, NodeAction, action_named, addition, node_add, node_change, node_copy, node_delete, content_by_fields}
use Rattle.svn_dump.specs.Record.{says_true}
use Rattle.svn_dump.specs.Property.{SectionEntry, section_of, setting_by}
use Rattle.svn_dump.specs.declared.grammar.block.BlockFront.{BlockFront}
use Rattle.svn_dump.specs.declared.grammar.mi_text.MiText.{MiText}
use Rattle.svn_dump.specs.declared.grammar.mi_text.MiText.TheVariants as mi_text
use Rattle.svn_dump.specs.declared.grammar.node_action.NodeAction.{NodeAction as ReadAction}
use Rattle.svn_dump.specs.declared.grammar.node_action.NodeAction.TheVariants as action
use Rattle.svn_dump.specs.declared.grammar.field.Field.{Field}
use Rattle.svn_dump.specs.declared.grammar.field.Field.TheVariants as field
use Rattle.svn_dump.specs.declared.grammar.format.Format.{Format}
use Rattle.svn_dump.specs.declared.grammar.format.Format.TheVariants.{Two, Three}
use Rattle.svn_dump.specs.declared.grammar.section.SectionEntry.{SectionEntry as ReadEntry}

abbrev pub field_value : List (Option (List ℕ)) → Field → Option (List ℕ)
field_value values field = slice_index_or values (field_index field) None

-- how long the body is
abbrev pub body_length_from_headers : List (Option (List ℕ)) → Option ℕ
body_length_from_headers values =
    option_and_then
    (λ properties. option_and_then
    (λ text. whole_length properties text (field_value values field.ContentLength))
    (length_or_zero (field_value values field.TextLength)))
    (length_or_zero (field_value values field.PropertiesLength))

-- whether the values are those of a node's block
abbrev pub are_of_node : List (Option (List ℕ)) → Bool
are_of_node values = is_none (field_value values field.RevisionNumber) && is_some (field_value values field.NodePath)

abbrev pub is_delta_from_headers : Format → List (Option (List ℕ)) → Bool
is_delta_from_headers Two values = says_true (field_value values field.PropertiesDelta) || says_true (field_value values field.TextDelta)
is_delta_from_headers Three values = false

abbrev pub has_changes_from_headers : Format → List (Option (List ℕ)) → Bool
has_changes_from_headers Two values = false
has_changes_from_headers Three values = says_true (field_value values field.PropertiesDelta)

-- what a property section says of the mergeinfo; it is empty where there is none
abbrev pub setting_from_section : Bool → List ℕ → Option (Setting (List ℕ))
setting_from_section has_changes [] = Some keep
setting_from_section has_changes (byte ∷ bytes) = option_map (setting_by has_changes) (section_of has_changes (byte ∷ bytes))

-- an entry of a section, of one that the reader lends
abbrev pub section_entry_view : ReadEntry → SectionEntry
section_entry_view each = record { name = each.name.now; value = option_copied each.value }

-- what a section says of the mergeinfo, of the text that the reader lends
abbrev pub mi_text_view : MiText → Setting (List ℕ)
mi_text_view mi_text.Keep = keep
mi_text_view (mi_text.Put value) = put (option_copied value)

-- an addition, which is a copy where the headers name a source
abbrev pub addition_from_headers : Bool → List (Option (List ℕ)) → Option NodeAction
addition_from_headers replace values =
    addition replace (field_value values field.NodeKind) (field_value values field.CopyfromRevision) (field_value values field.CopyfromPath)

-- what a node block does
abbrev pub node_action_from_headers : List (Option (List ℕ)) → Option NodeAction
node_action_from_headers values =
    option_and_then
    (action_named (field_value values field.NodeKind) (field_value values field.CopyfromRevision) (field_value values field.CopyfromPath))
    (field_value values field.NodeAction)

-- what a node block does, of the path that the reader lends
abbrev pub node_action_view : ReadAction → NodeAction
node_action_view action.Delete = node_delete
node_action_view action.Change = node_change
node_action_view (action.Add replace kind) = node_add replace kind
node_action_view (action.Copy replace from_rev from) = node_copy replace from_rev from.now

abbrev pub node_from_headers : Format → List (Option (List ℕ)) → List ℕ → List ℕ → Node
node_from_headers format values properties path = record {
  path = path;
  action = node_action_from_headers values;
  is_delta = is_delta_from_headers format values;
  setting = setting_from_section (has_changes_from_headers format values) properties;
}

-- what a block of a format is, given the values of its headers and its property section
unfoldable pub content_from_headers : Format → List (Option (List ℕ)) → List ℕ → BlockContent
content_from_headers format values properties =
    content_by_fields (field_value values field.RevisionNumber) (option_map (node_from_headers format values properties) (field_value values field.NodePath))
    (field_value values field.Uuid)

-- ---- the block at the front of the bytes

abbrev pub content_of_front : BlockFront → BlockContent
content_of_front front = content_from_headers front.format front.headers front.properties.now

-- the node block, given the value of its `Node-path`
abbrev pub node_of_front : BlockFront → List ℕ → Node
node_of_front front path = node_from_headers front.format front.headers front.properties.now path
