-- What is found below a node where another one was put at a path.
use Rattle.block_map.proofs.Common.{◌≡◌, ◌==◌, true, false, List, [], ◌∷◌, ◌++◌, Option, None, Some, IfSome, length, if◌then◌else◌, inl, inr, refl, sym, ap, subst, ◌∙◌, option_and_then, slice_get, cases_Bool, ValueId, below, same_name, NameId, IsSame-same_name, Found, untouched, may_give_mergeinfo, Extends, SetsChild, child_in, At, ChildGivesNone, ChildrenGiveNone, ExtendsTrie, IsNodeOf, IsSound, LookOfNumbers, PutsNode, TrieValue, at_path, child_at, child_of, found_below, own_found, base_look, Node, NodeId, ChildMapId}
use Rattle.std.specs.Option.{unwrap_or}
use Rattle.std.specs.Prelude.{◌||◌, ◌≤◌, IsFalse}
use Rattle.std.proofs.lemmas.Bool.{or_parts}
use Rattle.block_map.proofs.CopiedNodes.{IsNodeOf-untouched, child_at-untouched}
use Rattle.block_map.proofs.GrownTries.{Extends-none, IsNodeOf-grown, child_in-grown, child_of-grown, found_below-grown, base_look-grown, slice_get-last}
use Rattle.block_map.proofs.ChildMapLookups.{eqb-turned}

-- a node and what is found there without it
abbrev from_node : Option Node → LookOfNumbers → At
from_node node over = record { node = node; base = over }

-- ---- a node of which nothing is known

-- below an untouched node is found what is found where there is no node
pub found_below-untouched : (trie : TrieValue) (before : Option Node) (over : LookOfNumbers) (path : List NameId)
    → found_below trie (from_node before over) path ≡ found_below trie (from_node (Some (unwrap_or before untouched)) over) path
found_below-untouched trie None over [] = refl
found_below-untouched trie (Some node) over [] = refl
found_below-untouched trie before over (name ∷ path) = ap (λ next. found_below trie next path) (sym (child_at-untouched trie before over name))

-- ---- a child put at a name

module _ (old new : TrieValue) (node child : Node) (name : NameId) (id : NodeId) (children : ChildMapId) where
  -- a child was added, and the map has it for the name
  pub record PutsChild : Type 0 where
    pub sound : IsSound old
    pub node_is : IsNodeOf old node
    pub child_is : IsNodeOf old child
    pub nodes : new.nodes ≡ old.nodes ++ child ∷ []
    pub id_is : id.0 ≡ length old.nodes
    pub child_maps : Extends old.child_maps new.child_maps
    pub locations : new.locations ≡ old.locations
    pub sets : SetsChild old.child_maps new.child_maps node.children name.0 id children

  -- nothing but the child and maps were added
  ExtendsTrie-child : PutsChild → ExtendsTrie old new
  ExtendsTrie-child puts = record {
    nodes = record { more = child ∷ []; grown = puts.nodes };
    child_maps = puts.child_maps;
    locations = subst (Extends old.locations) (sym puts.locations) (Extends-none old.locations);
  }

  -- the node with the child
  abbrev with_child : Node
  with_child = record node { children = children; may_give_mergeinfo_below = node.may_give_mergeinfo_below || may_give_mergeinfo child }

  -- the child of the name is the one that was put
  child_of-put : PutsChild → (other : NameId) → (name.0 == other.0) ≡ true → child_of new with_child other ≡ Some child
  child_of-put puts other is =
      let turned : (other.0 == name.0) ≡ true = eqb-turned other.0 name.0 ∙ is in
      let found : child_in new.child_maps children other.0 ≡ Some id =
      puts.sets other.0 ∙ ap (λ same. if same then Some id else child_in old.child_maps node.children other.0) turned in
      ap (option_and_then (λ (each : NodeId). slice_get new.nodes each.0)) found
      ∙ ap (λ nodes. slice_get nodes id.0) puts.nodes ∙ slice_get-last old.nodes child id.0 puts.id_is

  -- other children stay
  child_of-kept : PutsChild → (other : NameId) → (name.0 == other.0) ≡ false
      → child_of new with_child other ≡ child_of new node other
  child_of-kept puts other is =
      let turned : (other.0 == name.0) ≡ false = eqb-turned other.0 name.0 ∙ is in
      ap (option_and_then (λ (each : NodeId). slice_get new.nodes each.0))
      (puts.sets other.0 ∙ ap (λ same. if same then Some id else child_in old.child_maps node.children other.0) turned
      ∙ sym (child_in-grown old.child_maps new.child_maps puts.sound.ordered puts.child_maps node.children other.0 puts.node_is.0))

  -- its children give no mergeinfo if those of the node and the child gave none
  ChildrenGiveNone-child : PutsChild → IsFalse with_child.may_give_mergeinfo_below → ChildrenGiveNone new with_child
  ChildrenGiveNone-child puts none other =
      let (node_none, child_none) = or_parts node.may_give_mergeinfo_below (may_give_mergeinfo child) none in
      elim (cases_Bool (name.0 == other.0)) [
        | inl is ↦ subst ChildGivesNone (sym (child_of-put puts other is)) child_none
        | inr is ↦
            let kept = child_of-kept puts other is ∙ child_of-grown old new puts.sound (ExtendsTrie-child puts) node other puts.node_is in
            subst ChildGivesNone (sym kept) (puts.node_is.2 node_none other)
      ]

  -- so it is a node of the trie with the child
  pub IsNodeOf-child : PutsChild → children.0 ≤ length new.child_maps → IsNodeOf new with_child
  IsNodeOf-child puts within =
      (within, (IsNodeOf-grown old new puts.sound (ExtendsTrie-child puts) node puts.node_is).1, ChildrenGiveNone-child puts)

  -- below the node the child was put at the name
  pub PutsNode-child : PutsChild → PutsNode old new (Some node) (name ∷ []) child with_child
  PutsNode-child puts over [] =
      ap (λ (look : LookOfNumbers). own_found node.own (look []))
      (base_look-grown old new puts.sound (ExtendsTrie-child puts) node.base over puts.node_is.1)
  PutsNode-child puts over (c ∷ rest) =
      let grown = ExtendsTrie-child puts in
      let within = base_look-grown old new puts.sound grown node.base over puts.node_is.1 in
      let child_base : LookOfNumbers = λ more. base_look old node.base over (name ∷ more) in
      elim (cases_Bool (name.0 == c.0)) [
        | inl is ↦
            let same : name ≡ c = IsSame-same_name.true_is name c is in
            rw is
            (ap (λ next. found_below new next rest)
            (λ i. from_node (child_of-put puts c is i) (λ more. within i (sym same i ∷ more)))
            ∙ found_below-grown old new puts.sound grown (from_node (Some child) child_base) rest puts.child_is)
        | inr is ↦
            rw is
            (ap (λ next. found_below new (from_node next (λ more. base_look new node.base over (c ∷ more))) rest) (child_of-kept puts c is)
            ∙ found_below-grown old new puts.sound grown (from_node (Some node) over) (c ∷ rest) puts.node_is)
      ]

-- ---- a node put at a path

-- the same is found where something may have been put
found-same : (o : Option (List NameId)) (kept kept' : Found NameId ValueId) (put put' : List NameId → Found NameId ValueId)
    → kept ≡ kept' → ((rest : List NameId) → put rest ≡ put' rest)
    → ◌≡◌ {A = Found NameId ValueId} (elim o [ None ↦ kept | Some rest ↦ put rest ]) (elim o [ None ↦ kept' | Some rest ↦ put' rest ])
found-same None kept kept' put put' same_kept same_put = same_kept
found-same (Some rest) kept kept' put put' same_kept same_put = same_put rest

-- a node is put at a path below a name, and then what it became at the name
pub PutsNode-path : (old mid new : TrieValue) (before : Option Node) (name : NameId) (path : List NameId) (put child after : Node)
    → IsSound old → ExtendsTrie old mid → IfSome before (IsNodeOf old)
    → PutsNode old mid (child_of old (unwrap_or before untouched) name) path put child
    → PutsNode mid new (Some (unwrap_or before untouched)) (name ∷ []) child after → PutsNode old new before (name ∷ path) put after
PutsNode-path old mid new before name path put child after sound grown before_is first second over [] =
    let above = unwrap_or before untouched in
    second over [] ∙ found_below-grown old mid sound grown (from_node (Some above) over) [] (IsNodeOf-untouched old before before_is)
    ∙ sym (found_below-untouched old before over [])
PutsNode-path old mid new before name path put child after sound grown before_is first second over (c ∷ rest) =
    let above = unwrap_or before untouched in
    let above_is = IsNodeOf-untouched old before before_is in
    let child_base : LookOfNumbers = λ more. base_look mid above.base over (name ∷ more) in
    elim (cases_Bool (name.0 == c.0)) [
      | inl is ↦
          let same : name ≡ c = IsSame-same_name.true_is name c is in
          let at_name = rw is at (second over (c ∷ rest)) in
          let child_from = from_node (child_of old above name) child_base in
          let from = from_node before over in
          let next : child_from ≡ child_at old from name =
          ap (λ (look : LookOfNumbers). from_node (child_of old above name) (λ more. look (name ∷ more)))
          (base_look-grown old mid sound grown above.base over above_is.1)
          ∙ child_at-untouched old before over name in
          rw is
          (at_name ∙ first child_base rest
          ∙ found-same (below same_name path rest) (found_below old child_from rest) (found_below old from (c ∷ rest))
          (λ more. found_below old (from_node (Some put) (at_path old child_from path).base) more)
          (λ more. found_below old (from_node (Some put) (at_path old from (name ∷ path)).base) more)
          (ap (λ start. found_below old start rest) next ∙ ap (λ each. found_below old (child_at old from each) rest) same)
          (λ more. ap (λ (start : At). found_below old (from_node (Some put) (at_path old start path).base) more) next))
      | inr is ↦
          let at_other = rw is at (second over (c ∷ rest)) in
          rw is
          (at_other ∙ found_below-grown old mid sound grown (from_node (Some above) over) (c ∷ rest) above_is
          ∙ sym (found_below-untouched old before over (c ∷ rest)))
    ]
