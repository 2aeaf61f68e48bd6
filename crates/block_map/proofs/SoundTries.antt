-- Tries stay sound as nodes, maps and locations are added.
use Rattle.block_map.proofs.Common.{◌≡◌, ℕ, ◌+◌, ◌≤◌, List, [], ◌∷◌, ◌++◌, Some, arith, ap, cases_lt, inl, inr, length, length_push, slice_get, slice_get_within, same_Some, subst, sym, ◌∙◌, AreOrdered, Extends, HaveNodesBelow, ChildMap, ExtendsTrie, IsNodeOf, IsSound, TrieValue, Node}
use Rattle.block_map.proofs.GrownTries.{Extends-none, ExtendsTrie-pushed, IsNodeOf-grown, slice_get-grown, slice_get-last}

-- the nodes there were are sound, and so is each that was added
IsSound-extended : (old new : TrieValue) → IsSound old → ExtendsTrie old new → AreOrdered new.child_maps → HaveNodesBelow (length new.nodes) new.child_maps
    → ((index : ℕ) (node : Node) → length old.nodes ≤ index → slice_get new.nodes index ≡ Some node → IsNodeOf new node) → IsSound new
IsSound-extended old new sound grown ordered leaves added = record {
  ordered = ordered;
  leaves = leaves;
  nodes = λ index node at. elim (cases_lt index (length old.nodes)) [
    | inl within ↦ IsNodeOf-grown old new sound grown node (sound.nodes index node (sym (slice_get-grown old.nodes new.nodes index grown.nodes within) ∙ at))
    | inr past ↦ added index node past at
  ];
}

-- one node was added
pub IsSound-pushed : (old new : TrieValue) (node : Node) → IsSound old → IsNodeOf old node → new ≡ record old { nodes = old.nodes ++ node ∷ [] } → IsSound new
IsSound-pushed old new node sound is added_is =
    let grown = ExtendsTrie-pushed old new node added_is in
    let nodes = ap (λ (trie : TrieValue). trie.nodes) added_is in
    let maps = ap (λ (trie : TrieValue). trie.child_maps) added_is in
    let more : length new.nodes ≡ length old.nodes + 1 = ap length nodes ∙ length_push old.nodes node in
    IsSound-extended old new sound grown (subst AreOrdered (sym maps) sound.ordered)
    (λ index bits id at. omega (arith, sound.leaves index bits id (sym (ap (λ all. slice_get all index) maps) ∙ at), more))
    (λ index each past at.
    let within = slice_get_within new.nodes index each at in
    let last = slice_get-last old.nodes node index (omega (arith, past, within, more)) in
    let same : node ≡ each = same_Some node each (sym last ∙ sym (ap (λ all. slice_get all index) nodes) ∙ at) in
    IsNodeOf-grown old new sound grown each (subst (IsNodeOf old) same is))

-- only maps of children were added
pub IsSound-mapped : (trie : TrieValue) (maps : List ChildMap) → IsSound trie → Extends trie.child_maps maps → AreOrdered maps → HaveNodesBelow (length trie.nodes) maps
    → IsSound (record trie { child_maps = maps })
IsSound-mapped trie maps sound more ordered leaves =
    IsSound-extended trie (record trie { child_maps = maps }) sound
    (record { nodes = Extends-none trie.nodes; child_maps = more; locations = Extends-none trie.locations }) ordered leaves
    (λ index node past at. let within = slice_get_within trie.nodes index node at in absurd (omega (arith, past, within)))
