-- What is found below a node whose children give no mergeinfo, and by the trees of a block.
use Rattle.block_map.proofs.Common.{◌≡◌, ◌⊎◌, ℕ, zero, suc, ◌≤◌, List, [], ◌∷◌, ◌++◌, Option, None, Some, IfSome, inl, inr, refl, sym, ap, subst, ◌∙◌, length, same_name, NameId, ValueId, Record, ShowsTick, end_of_trees, look_in_trees, look_through_trees, Found, absent, at, at_with, is, resolved, with_mergeinfo, IsFoundUpTo, look_from, look_through, mergeinfo_of, ChildGivesNone, IsNodeOf, IsPositionOf, IsLocationOfPath, IsSound, LookOfNumbers, TrieValue, as_at, at_root, base_look, base_of_path, child_of, found_below, own_found, path_base_view, untouched, gives_mergeinfo, is_location, Trees, Base, Node, unwrap_or}
use Rattle.std.specs.Prelude.{IsFalse}
use Rattle.block_map.specs.MergeinfoBelow.{IsMergeinfoBelow, LacksMergeinfo}
use Rattle.block_map.specs.declared.mergeinfo_below.MergeinfoBelow.TheVariants as below
use Rattle.block_map.specs.declared.trie.location.Location.{Location}
use Rattle.block_map.specs.declared.trie.node.Base.TheVariants as base
use Rattle.block_map.specs.declared.trie.node.OwnEntry.{OwnEntry}
use Rattle.block_map.specs.declared.trie.node.OwnEntry.TheVariants as own
use Rattle.block_map.specs.declared.trie.position.Position.{Position}
use Rattle.block_map.proofs.CopiedNodes.{IsNodeOf-untouched}
use Rattle.block_map.proofs.FoundFrom.{IsFoundAtOrBefore-look, IsFoundUpTo-earlier}
use Rattle.block_map.proofs.GrownTries.{ExtendsTrie-none, IsNodeOf-child_at}
use Rattle.block_map.proofs.LooksThrough.{look_from-within}
use Rattle.block_map.proofs.MergeinfoGiven.{GivesNone-from, none-from_is_some}
use Rattle.block_map.proofs.NodesPut.{found_below-untouched}
use Rattle.block_map.proofs.Positions.{path_base_view-base_of_path}
use Rattle.block_map.proofs.RecordNodes.{found_below-append}
use Rattle.block_map.proofs.TreesNodes.{found_below-none}

-- ---- what has no mergeinfo

-- what stands there has none
pub mergeinfo_of-lacking : (found : Found NameId ValueId) → LacksMergeinfo found → mergeinfo_of found ≡ None
mergeinfo_of-lacking (at path tick) lacks = absurd lacks
mergeinfo_of-lacking (at_with path tick mi) lacks = refl
mergeinfo_of-lacking (is kind mi) lacks = lacks
mergeinfo_of-lacking absent lacks = refl

-- what is found with no mergeinfo
LacksMergeinfo-with : (mi : Option ValueId) (found : Found NameId ValueId) → mi ≡ None → LacksMergeinfo (with_mergeinfo mi found)
LacksMergeinfo-with mi (at path tick) none = none
LacksMergeinfo-with mi (at_with path tick old) none = none
LacksMergeinfo-with mi (is kind old) none = none
LacksMergeinfo-with mi absent none = tt

-- earlier records give it none
pub LacksMergeinfo-through : (lo : ℕ) (records : List (Record NameId ValueId)) (found : Found NameId ValueId) → LacksMergeinfo found
    → LacksMergeinfo (look_through same_name lo records found)
LacksMergeinfo-through lo records (at path tick) lacks = absurd lacks
LacksMergeinfo-through lo records (at_with path tick mi) lacks = LacksMergeinfo-with mi (look_from same_name lo records tick path) lacks
LacksMergeinfo-through lo records (is kind mi) lacks = lacks
LacksMergeinfo-through lo records absent lacks = tt

-- nor does the beginning of a history
pub LacksMergeinfo-resolved : (lo : ℕ) (found : Found NameId ValueId) → LacksMergeinfo found → LacksMergeinfo (resolved lo found)
LacksMergeinfo-resolved zero (at path tick) lacks = absurd lacks
LacksMergeinfo-resolved zero (at_with [] tick mi) lacks = lacks
LacksMergeinfo-resolved zero (at_with (c ∷ path) tick mi) lacks = tt
LacksMergeinfo-resolved zero (is kind mi) lacks = lacks
LacksMergeinfo-resolved zero absent lacks = tt
LacksMergeinfo-resolved (suc lo) found lacks = lacks

-- ---- in a trie

-- what is found is what this base has, or has no mergeinfo
abbrev pub IsOrLacks : Found NameId ValueId → Found NameId ValueId → Type 0
IsOrLacks found of_base = (found ≡ of_base) ⊎ LacksMergeinfo found

-- at a node whose entry gives none
own_found-gives_none : (says : OwnEntry) (of_base : Found NameId ValueId) → IsFalse (gives_mergeinfo says) → IsOrLacks (own_found says of_base) of_base
own_found-gives_none own.AsBase of_base none = inl refl
own_found-gives_none (own.BaseWithMergeinfo mi) of_base none = inr (LacksMergeinfo-with mi of_base (none-from_is_some mi none))
own_found-gives_none (own.Is kind mi) of_base none = inr (none-from_is_some mi none)
own_found-gives_none own.Absent of_base none = inr tt

-- over a base that is no location
base_look-no_location : (trie : TrieValue) (base : Base) (over : LookOfNumbers) (path : List NameId) → IsFalse (is_location base)
    → IsOrLacks (base_look trie base over path) (over path)
base_look-no_location trie base.OfParent over path none = inl refl
base_look-no_location trie base.Nothing over path none = inr tt
base_look-no_location trie (base.At id) over path none = cc

-- what is so over a base is so over the base of that
IsOrLacks-base : (found mid of_base : Found NameId ValueId) → IsOrLacks found mid → IsOrLacks mid of_base → IsOrLacks found of_base
IsOrLacks-base found mid of_base (inl same) (inl again) = inl (same ∙ again)
IsOrLacks-base found mid of_base (inl same) (inr lacks) = inr (subst LacksMergeinfo (sym same) lacks)
IsOrLacks-base found mid of_base (inr lacks) other = inr lacks

module _ (trie : TrieValue) (sound : IsSound trie) where
  -- what is found at and below a child that gives none
  pub found-gives_none : (path : List NameId) (child : Option Node) (over : LookOfNumbers) → IfSome child (IsNodeOf trie) → ChildGivesNone child
      → IsOrLacks (found_below trie (record { node = child; base = over }) path) (over path)
  found-gives_none path None over child_is none = inl (found_below-none trie over path)
  found-gives_none [] (Some node) over child_is none =
      let gives = GivesNone-from node none in
      IsOrLacks-base (own_found node.own (base_look trie node.base over [])) (base_look trie node.base over []) (over [])
      (own_found-gives_none node.own (base_look trie node.base over []) gives.own) (base_look-no_location trie node.base over [] gives.base)
  found-gives_none (name ∷ path) (Some node) over child_is none =
      let gives = GivesNone-from node none in
      let whole = name ∷ path in
      IsOrLacks-base (found_below trie (record { node = Some node; base = over }) whole) (base_look trie node.base over whole) (over whole)
      (found-gives_none path (child_of trie node name) (λ rest. base_look trie node.base over (name ∷ rest))
      (IsNodeOf-child_at trie trie sound (ExtendsTrie-none trie) (record { node = Some node; base = over }) name child_is) (child_is.2 gives.below name))
      (base_look-no_location trie node.base over whole gives.base)

  -- what is found below a node whose children give none
  pub found_below-gives_none : (name : NameId) (path : List NameId) (node : Node) (over : LookOfNumbers) → IsNodeOf trie node → IsFalse node.may_give_mergeinfo_below
      → IsOrLacks (found_below trie (record { node = Some node; base = over }) (name ∷ path)) (base_look trie node.base over (name ∷ path))
  found_below-gives_none name path node over node_is none =
      found-gives_none path (child_of trie node name) (λ rest. base_look trie node.base over (name ∷ rest))
      (IsNodeOf-child_at trie trie sound (ExtendsTrie-none trie) (record { node = Some node; base = over }) name node_is) (node_is.2 none name)

  -- what is found below a path where the children of the node give none
  pub IsMergeinfoBelow-found : (root : Node) (path : List NameId) (position : Position) (location : Option Location) → IsPositionOf trie root path position
      → IsFalse (unwrap_or position.node untouched).may_give_mergeinfo_below
      → IsLocationOfPath trie path (base_of_path (unwrap_or position.node untouched).base position.base (length path)) location
      → IsMergeinfoBelow (λ rest. found_below trie (at_root root) (path ++ rest)) (below.AsAt location)
  IsMergeinfoBelow-found root path position location at_is none location_is name more =
      let rest = name ∷ more in
      let node = unwrap_or position.node untouched in
      let over = path_base_view trie path position.base in
      let found_is : found_below trie (at_root root) (path ++ rest) ≡ found_below trie (record { node = Some node; base = over }) rest =
      sym (found_below-append trie (at_root root) path rest) ∙ ap (λ from. found_below trie from rest) (sym at_is.is)
      ∙ found_below-untouched trie position.node over rest in
      let base_is : base_look trie node.base over rest ≡ as_at location rest =
      ap (λ look. look rest) (sym (path_base_view-base_of_path trie node.base path position.base)) ∙ sym (location_is rest) in
      elim (found_below-gives_none name more node over (IsNodeOf-untouched trie position.node at_is.node) none) [
        | inl same ↦ inl (found_is ∙ same ∙ base_is)
        | inr lacks ↦ inr (subst LacksMergeinfo (sym found_is) lacks)
      ]

-- ---- in the trees of a block

-- of a tick after their start the trie tells
pub IsMergeinfoBelow-after : (trees : Trees) (root : Node) (found : Location) (base kept : Option Location) → found.tick ≤ end_of_trees trees → ShowsTick trees found.tick root
    → IsMergeinfoBelow (λ rest. found_below trees.trie (at_root root) (found.path ++ rest)) (below.AsAt base)
    → ((rest : List NameId) → IsFoundUpTo trees.start (as_at base rest) → as_at kept rest ≡ as_at base rest)
    → IsMergeinfoBelow (λ rest. resolved trees.start (look_through_trees trees (as_at (Some found) rest))) (below.AsAt kept)
IsMergeinfoBelow-after trees root found base kept within shows below_is same name more =
    let rest = name ∷ more in
    let path = found.path ++ rest in
    let says : resolved trees.start (look_through_trees trees (as_at (Some found) rest)) ≡ look_in_trees trees found.tick path =
    ap (resolved trees.start) (look_from-within same_name trees.start trees.records.items found.tick path within) in
    elim (below_is name more) [
      | inl shown ↦
          let of_base : as_at base rest ≡ look_in_trees trees found.tick path = sym shown ∙ shows path in
          let earlier = IsFoundUpTo-earlier trees.start (look_in_trees trees found.tick path) (IsFoundAtOrBefore-look same_name trees.start trees.records.items found.tick path) in
          inl (says ∙ sym of_base ∙ sym (same rest (subst (IsFoundUpTo trees.start) (sym of_base) earlier)))
      | inr lacks ↦ inr (subst LacksMergeinfo (shows path ∙ sym says) lacks)
    ]
