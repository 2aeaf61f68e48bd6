-- What a block is, by the values of its headers.
use Rattle.svn_dump.proofs.Common.{◌≡◌, ℕ, Bool, List, [], ◌∷◌, length, take, refl, sym, ap, ap₂, ◌∙◌, Option, Some, None, option_map, Block, properties_length, fields_of, BeginsWithBlock, Node, node_block, other_block, revision_block, content_by_fields, uuid_block, section_of, setting_by, setting_of, has_changes, is_delta, node_action_of, node_of_block, content_of, has_changes_from_headers, is_delta_from_headers, node_from_headers, setting_from_section, content_from_headers, field_value, Format, Two, Three, RevisionNumber, NodePath, Uuid}

-- a section at the front of the body
setting_of-front : (changes : Bool) (section : Option ℕ) (properties body : List ℕ) → section ≡ Some (length properties) → properties ≡ take (length properties) body → setting_from_section changes properties ≡ setting_of changes section body
setting_of-front changes section [] body long front = ap (λ n. setting_of changes n body) (sym long)
setting_of-front changes section (byte ∷ properties) body long front =
    ap (λ all. option_map (setting_by changes) (section_of changes all)) front ∙ ap (λ n. setting_of changes n body) (sym long)

-- the deltas of its headers
is_delta-fields : (format : Format) (lines : List (List ℕ)) → is_delta_from_headers format (fields_of lines) ≡ is_delta format lines
is_delta-fields Two lines = refl
is_delta-fields Three lines = refl

has_changes-fields : (format : Format) (lines : List (List ℕ)) → has_changes_from_headers format (fields_of lines) ≡ has_changes format lines
has_changes-fields Two lines = refl
has_changes-fields Three lines = refl

module _ (format : Format) where
  -- ---- by the values that are there

  module _ (values : List (Option (List ℕ))) (properties : List ℕ) where
    by_values : (number path uuid : Option (List ℕ)) → field_value values RevisionNumber ≡ number → field_value values NodePath ≡ path → field_value values Uuid ≡ uuid → content_from_headers format values properties ≡ content_by_fields number (option_map (node_from_headers format values properties) path) uuid
    unfolding content_from_headers
    by_values number path uuid h i j =
        ap₂ (λ a b. content_by_fields a (option_map (node_from_headers format values properties) b) (field_value values Uuid)) h i ∙ ap (content_by_fields number (option_map (node_from_headers format values properties) path)) j

    pub content_said-revision : (number : List ℕ) → field_value values RevisionNumber ≡ Some number → content_from_headers format values properties ≡ revision_block number
    content_said-revision number h = by_values (Some number) (field_value values NodePath) (field_value values Uuid) h refl refl

    pub content_said-node : (path : List ℕ) → field_value values RevisionNumber ≡ None → field_value values NodePath ≡ Some path → content_from_headers format values properties ≡ node_block (node_from_headers format values properties path)
    content_said-node path h i = by_values None (Some path) (field_value values Uuid) h i refl

    pub content_said-uuid : (uuid : List ℕ) → field_value values RevisionNumber ≡ None → field_value values NodePath ≡ None → field_value values Uuid ≡ Some uuid → content_from_headers format values properties ≡ uuid_block
    content_said-uuid uuid h i j = by_values None None (Some uuid) h i j

    pub content_said-other : field_value values RevisionNumber ≡ None → field_value values NodePath ≡ None → field_value values Uuid ≡ None → content_from_headers format values properties ≡ other_block
    content_said-other h i j = by_values None None None h i j

  -- ---- by the lines of the block

  node_of_block-front : (block : Block) (properties path : List ℕ) → setting_from_section (has_changes format block.lines) properties ≡ setting_of (has_changes format block.lines) (properties_length block.lines) block.body → node_from_headers format (fields_of block.lines) properties path ≡ node_of_block format block path
  node_of_block-front block properties path settled =
      ap₂ (λ delta setting. let node : Node = record { path = path; action = node_action_of block.lines; is_delta = delta; setting = setting } in node)
      (is_delta-fields format block.lines) (ap (λ changes. setting_from_section changes properties) (has_changes-fields format block.lines) ∙ settled)

  nodes-front : (block : Block) (properties : List ℕ) (path : Option (List ℕ)) → setting_from_section (has_changes format block.lines) properties ≡ setting_of (has_changes format block.lines) (properties_length block.lines) block.body → option_map (node_from_headers format (fields_of block.lines) properties) path ≡ option_map (node_of_block format block) path
  nodes-front block properties None settled = refl
  nodes-front block properties (Some path) settled = ap Some (node_of_block-front block properties path settled)

  -- the content of a block is what its headers say
  pub content_from_headers-block : (bytes rest : List ℕ) (values : List (Option (List ℕ))) (properties : List ℕ) (found : BeginsWithBlock bytes values properties rest) → content_from_headers format values properties ≡ content_of format found.block
  unfolding content_from_headers content_of
  content_from_headers-block bytes rest values properties found =
      ap (λ all. content_from_headers format all properties) found.fields
      ∙ ap (λ node. content_by_fields (field_value (fields_of found.block.lines) RevisionNumber) node (field_value (fields_of found.block.lines) Uuid))
      (nodes-front found.block properties (field_value (fields_of found.block.lines) NodePath) (setting_of-front (has_changes format found.block.lines) (properties_length found.block.lines) properties found.block.body found.section found.front))
