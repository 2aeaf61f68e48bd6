-- What the headers of a node block say (Subversion's dump format notes, versions 2 and 3, node records).
use Rattle.std.specs.Prelude.{ℕ, Bool, true, false, List, Option, Some, None, bytes_eq, codes, option_and_then, option_map, if◌then◌else◌}
use Rattle.svn_dump.specs.History.{Setting}
use Rattle.svn_text.specs.Number.{greatest_revision, number_up_to}
use Rattle.svn_dump.specs.declared.record.Kind.{Kind}
use Rattle.svn_dump.specs.declared.record.Kind.TheVariants.{File, Dir}

-- what a node block does; the first part of an addition and of a copy is whether it replaces what is there, and a copy
-- names the revision and the path of its source
pub data NodeAction : Type 0 where
  node_delete : NodeAction
  node_change : NodeAction
  node_add : Bool → Kind → NodeAction
  node_copy : Bool → ℕ → List ℕ → NodeAction

abbrev pub kind_of : List ℕ → Option Kind
kind_of value = if bytes_eq value (codes "file") then Some File else (if bytes_eq value (codes "dir") then Some Dir else None)

-- an addition, given the values of `Node-kind`, `Node-copyfrom-rev` and `Node-copyfrom-path`: the last two stand
-- together, and make it a copy, whose kind isn't read
abbrev pub addition : Bool → Option (List ℕ) → Option (List ℕ) → Option (List ℕ) → Option NodeAction
addition replace kind None None = option_map (node_add replace) (option_and_then kind_of kind)
addition replace kind None (Some from) = None
addition replace kind (Some from_rev) None = None
addition replace kind (Some from_rev) (Some from) =
    option_map (λ number. node_copy replace number from) (number_up_to greatest_revision from_rev)

-- the action of that name; a delete and a change read no other header
abbrev pub action_named : Option (List ℕ) → Option (List ℕ) → Option (List ℕ) → List ℕ → Option NodeAction
action_named kind from_rev from name =
    if bytes_eq name (codes "delete") then Some node_delete
    else (if bytes_eq name (codes "change") then Some node_change
    else (if bytes_eq name (codes "add") then addition false kind from_rev from
    else (if bytes_eq name (codes "replace") then addition true kind from_rev from
    else None)))

abbrev pub is_change : NodeAction → Bool
is_change node_delete = false
is_change node_change = true
is_change (node_add replace kind) = false
is_change (node_copy replace from_rev from) = false

-- a node block: the value of `Node-path`, what it does, if its headers say one thing, whether it is said to hold a
-- difference to an earlier text or section that its format doesn't have, and what its property section says of
-- mergeinfo, if it is one
pub record Node : Type 0 where
  pub path : List ℕ
  pub action : Option NodeAction
  pub is_delta : Bool
  pub setting : Option (Setting (List ℕ))

-- what a block is, by the headers that it has: the number of a revision, a node, or the UUID of the repository
pub data BlockContent : Type 0 where
  revision_block : List ℕ → BlockContent
  node_block : Node → BlockContent
  uuid_block : BlockContent
  other_block : BlockContent

-- `Revision-number` stands before `Node-path`, and that before `UUID`
abbrev pub content_by_fields : Option (List ℕ) → Option Node → Option (List ℕ) → BlockContent
content_by_fields (Some number) said uuid = revision_block number
content_by_fields None (Some said) uuid = node_block said
content_by_fields None None (Some uuid) = uuid_block
content_by_fields None None None = other_block
