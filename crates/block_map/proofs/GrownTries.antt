-- What is found below the nodes of a trie stays as nodes, maps and locations are added.
use Rattle.block_map.proofs.Common.{◌≡◌, ℕ, zero, suc, ◌<◌, ◌≤◌, ◌%◌, ◌/◌, ◌==◌, Bool, true, false, List, [], ◌∷◌, ◌++◌, Option, None, Some, IfSome, length, if◌then◌else◌, refl, sym, ap, subst, ◌∙◌, arith, length-append, append-nil, append_assoc, option_and_then, slice_get, get_or_at, same_Some, slice_get-get_or, NameId, slice_get-front, Extends, AreOrdered, HaveNodesBelow, child_in, found_within, child_map_at, At, HasLocation, ChildGivesNone, ChildrenGiveNone, ExtendsTrie, IsNodeOf, IsSound, LookOfNumbers, TrieValue, at_path, child_at, child_of, found_at, found_below, own_found, base_look, as_at, Node, Base, NodeId, ChildMap, Leaf, Branch, ChildMapId}
use Rattle.block_map.specs.declared.trie.node.Base.TheVariants as base
use Rattle.block_map.proofs.ChildMapSteps.{found_in_map, found_within-suc, found_within-empty}

-- ---- lists

-- the last of a list has the index after the others
pub slice_get-last : {X : Type 0} (xs : List X) (x : X) (i : ℕ) → i ≡ length xs → slice_get (xs ++ x ∷ []) i ≡ Some x
slice_get-last xs x i last =
    slice_get-get_or (xs ++ x ∷ []) i x (omega (arith, last, length-append xs (x ∷ []))) ∙ ap Some (get_or_at xs x [] x i (sym last))

pub slice_get-grown : {X : Type 0} (old new : List X) (i : ℕ) → Extends old new → i < length old → slice_get new i ≡ slice_get old i
slice_get-grown old new i grown within = ap (λ xs. slice_get xs i) grown.grown ∙ slice_get-front old grown.more i within

pub length-grown : {X : Type 0} (old new : List X) → Extends old new → length old ≤ length new
length-grown old new grown = omega (arith, ap length grown.grown, length-append old grown.more)

pub Extends-none : {X : Type 0} (xs : List X) → Extends xs xs
Extends-none xs = record { more = []; grown = sym (append-nil xs) }

pub Extends-again : {X : Type 0} (xs ys zs : List X) → Extends xs ys → Extends ys zs → Extends xs zs
Extends-again xs ys zs one other = record {
  more = one.more ++ other.more;
  grown = other.grown ∙ ap (λ front. front ++ other.more) one.grown ∙ append_assoc xs one.more other.more;
}

pub ExtendsTrie-none : (trie : TrieValue) → ExtendsTrie trie trie
ExtendsTrie-none trie = record { nodes = Extends-none trie.nodes; child_maps = Extends-none trie.child_maps; locations = Extends-none trie.locations }

-- a node was added
pub ExtendsTrie-pushed : (old new : TrieValue) (node : Node) → new ≡ record old { nodes = old.nodes ++ node ∷ [] } → ExtendsTrie old new
ExtendsTrie-pushed old new node added = subst (ExtendsTrie old) (sym added) (record {
  nodes = record { more = node ∷ []; grown = refl };
  child_maps = Extends-none old.child_maps;
  locations = Extends-none old.locations;
})

-- ---- maps of children

child_map_at-grown : (old new : List ChildMap) (number : ℕ) → Extends old new → number ≤ length old → child_map_at new number ≡ child_map_at old number
child_map_at-grown old new zero grown within = refl
child_map_at-grown old new (suc index) grown within = slice_get-grown old new index grown (omega (arith, within))

pub found_within-zero : (maps : List ChildMap) (number bits : ℕ) → found_within maps 0 number bits ≡ None
unfolding found_within
found_within-zero maps number bits = refl

found_within-grown : (old new : List ChildMap) → AreOrdered old → Extends old new → (steps number bits : ℕ) → number ≤ length old
    → found_within new steps number bits ≡ found_within old steps number bits
found_within-grown old new ordered grown zero number bits within = found_within-zero new number bits ∙ sym (found_within-zero old number bits)
found_within-grown old new ordered grown (suc steps) zero bits within = found_within-empty new (suc steps) bits ∙ sym (found_within-empty old (suc steps) bits)
found_within-grown old new ordered grown (suc steps) (suc index) bits within =
    found_within-suc new steps (suc index) bits
    ∙ ap (λ map. found_in_map map (found_within new steps) bits) (child_map_at-grown old new (suc index) grown within)
    ∙ by (λ number rest before. found_within-grown old new ordered grown steps number rest (omega (arith, before, within))) (slice_get old index) refl
    ∙ sym (found_within-suc old steps (suc index) bits)
  where
    by : ((number rest : ℕ) → number ≤ index → found_within new steps number rest ≡ found_within old steps number rest)
        → (map : Option ChildMap) → slice_get old index ≡ map → found_in_map map (found_within new steps) bits ≡ found_in_map map (found_within old steps) bits
    by same None at = refl
    by same (Some (Leaf left node)) at = refl
    by same (Some (Branch even odd)) at =
        let (even_before, odd_before) = ordered index even odd at in
        λ i. if bits % 2 == 0 then same even.0 (bits / 2) even_before i else same odd.0 (bits / 2) odd_before i

pub child_in-grown : (old new : List ChildMap) → AreOrdered old → Extends old new → (id : ChildMapId) (bits : ℕ) → id.0 ≤ length old → child_in new id bits ≡ child_in old id bits
child_in-grown old new ordered grown id bits within = found_within-grown old new ordered grown id.0 id.0 bits within

-- what is found is among the nodes
found_within-below : (count : ℕ) (maps : List ChildMap) → HaveNodesBelow count maps → (steps number bits : ℕ) (node : NodeId) → found_within maps steps number bits ≡ Some node → node.0 < count
found_within-below count maps below zero number bits node found = let never : None ≡ Some node = sym (found_within-zero maps number bits) ∙ found in cc
found_within-below count maps below (suc steps) number bits node found =
    by (λ smaller rest is. found_within-below count maps below steps smaller rest node is) number (sym (found_within-suc maps steps number bits) ∙ found)
  where
    of_part : ((smaller rest : ℕ) → found_within maps steps smaller rest ≡ Some node → node.0 < count) → (index : ℕ) (map : Option ChildMap) → slice_get maps index ≡ map
        → found_in_map map (found_within maps steps) bits ≡ Some node → node.0 < count
    of_part deeper index None at is = cc
    of_part deeper index (Some (Leaf left kept)) at is = leaf (left == bits) is
      where
        leaf : (same : Bool) → (if same then Some kept else None) ≡ Some node → node.0 < count
        leaf true one = subst (λ (each : NodeId). each.0 < count) (same_Some kept node one) (below index left kept at)
        leaf false one = cc
    of_part deeper index (Some (Branch even odd)) at is = branch (bits % 2 == 0) is
      where
        branch : (is_even : Bool) → (if is_even then found_within maps steps even.0 (bits / 2) else found_within maps steps odd.0 (bits / 2)) ≡ Some node → node.0 < count
        branch true one = deeper even.0 (bits / 2) one
        branch false one = deeper odd.0 (bits / 2) one

    by : ((smaller rest : ℕ) → found_within maps steps smaller rest ≡ Some node → node.0 < count) → (number : ℕ)
        → found_in_map (child_map_at maps number) (found_within maps steps) bits ≡ Some node → node.0 < count
    by deeper zero is = cc
    by deeper (suc index) is = of_part deeper index (slice_get maps index) refl is

pub child_in-below : (count : ℕ) (maps : List ChildMap) (id : ChildMapId) (bits : ℕ) (node : NodeId) → HaveNodesBelow count maps → child_in maps id bits ≡ Some node → node.0 < count
child_in-below count maps id bits node below found = found_within-below count maps below id.0 id.0 bits node found

-- ---- tries

IfSome-from : {X : Type 0} {P : X → Type 0} (o : Option X) → ((x : X) → o ≡ Some x → P x) → IfSome o P
IfSome-from None holds = tt
IfSome-from (Some x) holds = holds x refl

module _ (old new : TrieValue) (sound : IsSound old) (grown : ExtendsTrie old new) where
  pub child_of-grown : (node : Node) (name : NameId) → IsNodeOf old node → child_of new node name ≡ child_of old node name
  child_of-grown node name is =
      ap (option_and_then (λ (id : NodeId). slice_get new.nodes id.0)) (child_in-grown old.child_maps new.child_maps sound.ordered grown.child_maps node.children name.0 is.0)
      ∙ by (child_in old.child_maps node.children name.0) (λ id at. child_in-below (length old.nodes) old.child_maps node.children name.0 id sound.leaves at)
    where
      by : (o : Option NodeId) → ((id : NodeId) → o ≡ Some id → id.0 < length old.nodes)
          → option_and_then (λ (id : NodeId). slice_get new.nodes id.0) o ≡ option_and_then (λ (id : NodeId). slice_get old.nodes id.0) o
      by None within = refl
      by (Some id) within = slice_get-grown old.nodes new.nodes id.0 grown.nodes (within id refl)

  pub base_look-grown : (within : Base) (over : LookOfNumbers) → HasLocation old within → base_look new within over ≡ base_look old within over
  base_look-grown base.OfParent over has = refl
  base_look-grown base.Nothing over has = refl
  base_look-grown (base.At id) over has = ap as_at (slice_get-grown old.locations new.locations id.0 grown.locations has)

  -- a node whose children give no mergeinfo has such children in the grown trie
  ChildrenGiveNone-grown : (node : Node) → IsNodeOf old node → ChildrenGiveNone old node → ChildrenGiveNone new node
  ChildrenGiveNone-grown node is give name = subst ChildGivesNone (sym (child_of-grown node name is)) (give name)

  -- a node of the trie is one of the grown trie
  pub IsNodeOf-grown : (node : Node) → IsNodeOf old node → IsNodeOf new node
  IsNodeOf-grown node is = (
    omega (arith, is.0, length-grown old.child_maps new.child_maps grown.child_maps),
    by node.base is.1,
    λ none. ChildrenGiveNone-grown node is (is.2 none),
  )
    where
      by : (within : Base) → HasLocation old within → HasLocation new within
      by base.OfParent has = tt
      by base.Nothing has = tt
      by (base.At id) has = omega (arith, has, length-grown old.locations new.locations grown.locations)

  pub found_at-grown : (from : At) → IfSome from.node (IsNodeOf old) → found_at new from ≡ found_at old from
  found_at-grown from is = by from.node from.base is
    where
      by : (node : Option Node) (over : LookOfNumbers) → IfSome node (IsNodeOf old)
          → found_at new (record { node = node; base = over }) ≡ found_at old (record { node = node; base = over })
      by None over is = refl
      by (Some node) over is = ap (λ (look : LookOfNumbers). own_found node.own (look [])) (base_look-grown node.base over is.1)

  -- a child is a node of the trie
  pub IsNodeOf-child_at : (from : At) (name : NameId) → IfSome from.node (IsNodeOf old) → IfSome (child_at old from name).node (IsNodeOf old)
  IsNodeOf-child_at from name is = by from.node from.base is
    where
      kept : (o : Option NodeId) → IfSome (option_and_then (λ (id : NodeId). slice_get old.nodes id.0) o) (IsNodeOf old)
      kept None = tt
      kept (Some id) = IfSome-from (slice_get old.nodes id.0) (λ node at. sound.nodes id.0 node at)

      by : (node : Option Node) (over : LookOfNumbers) → IfSome node (IsNodeOf old) → IfSome (child_at old (record { node = node; base = over }) name).node (IsNodeOf old)
      by None over is = tt
      by (Some node) over is = kept (child_in old.child_maps node.children name.0)

  child_at-grown : (from : At) (name : NameId) → IfSome from.node (IsNodeOf old) → child_at new from name ≡ child_at old from name
  child_at-grown from name is = by from.node from.base is
    where
      by : (node : Option Node) (over : LookOfNumbers) → IfSome node (IsNodeOf old)
          → child_at new (record { node = node; base = over }) name ≡ child_at old (record { node = node; base = over }) name
      by None over is = refl
      by (Some node) over is = λ i. record {
        node = child_of-grown node name is i;
        base = λ rest. base_look-grown node.base over is.1 i (name ∷ rest);
      }

  pub at_path-grown : (from : At) (path : List NameId) → IfSome from.node (IsNodeOf old) → at_path new from path ≡ at_path old from path
  at_path-grown from [] is = refl
  at_path-grown from (name ∷ path) is =
      ap (λ next. at_path new next path) (child_at-grown from name is) ∙ at_path-grown (child_at old from name) path (IsNodeOf-child_at from name is)

  pub IsNodeOf-at_path : (from : At) (path : List NameId) → IfSome from.node (IsNodeOf old) → IfSome (at_path old from path).node (IsNodeOf old)
  IsNodeOf-at_path from [] is = is
  IsNodeOf-at_path from (name ∷ path) is = IsNodeOf-at_path (child_at old from name) path (IsNodeOf-child_at from name is)

  -- so everything is found as before
  pub found_below-grown : (from : At) (path : List NameId) → IfSome from.node (IsNodeOf old) → found_below new from path ≡ found_below old from path
  found_below-grown from path is = ap (found_at new) (at_path-grown from path is) ∙ found_at-grown (at_path old from path) (IsNodeOf-at_path from path is)
