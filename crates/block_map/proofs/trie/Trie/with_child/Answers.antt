use Rattle.block_map.proofs.Common.{◌≡◌, ◌<◌, ap, arith, length, length_push, subst, sym, ◌∙◌, may_give_mergeinfo, Extends, IsNodeOf, PutsNode, SetsChild, TrieValue, [], ◌∷◌, Some}
use Rattle.std.specs.Prelude.{◌||◌}
use Rattle.std.proofs.lemmas.Bool.{or_left}
use Rattle.block_map.proofs.NodesPut.{IsNodeOf-child, PutsChild, PutsNode-child}
use Rattle.block_map.proofs.SoundTries.{IsSound-mapped}
use Rattle.block_map.proofs.trie.Trie.with_child.Goals as goal
use Rattle.block_map.proofs.trie.Trie.with_child.Goals.{Joined-node, then-node, else-node}

pub invariant_of-self : goal.invariant_of-self
invariant_of-self c =
    let inside = c.self.inside in
    let mid : TrieValue = record { nodes = inside.nodes; child_maps = inside.child_maps; locations = inside.locations } in
    let pushed = c.self.view_is ∙ c.in_ok-id.ensures.added in
    let count = ap (λ (trie : TrieValue). length trie.nodes) pushed ∙ length_push c.args.self.now.nodes c.args.child in
    let within : c.in_ok-id.id.0 < length mid.nodes = omega (arith, c.in_ok-id.ensures.id, count) in
    IsSound-mapped mid c.set.new.self c.self.invariant c.in_err-children.ensures.failed_more c.set.ensures.ordered
    (c.in_err-children.ensures.failed_nodes (length mid.nodes) c.self.invariant.leaves within)

pub invariant_of-self-2 : goal.invariant_of-self-2
invariant_of-self-2 c =
    let inside = c.self.inside in
    let mid : TrieValue = record { nodes = inside.nodes; child_maps = inside.child_maps; locations = inside.locations } in
    let pushed = c.self.view_is ∙ c.in_ok-id.ensures.added in
    let count = ap (λ (trie : TrieValue). length trie.nodes) pushed ∙ length_push c.args.self.now.nodes c.args.child in
    let within : c.in_ok-id.id.0 < length mid.nodes = omega (arith, c.in_ok-id.ensures.id, count) in
    IsSound-mapped mid c.set.new.self c.self.invariant c.in_ok-children.ensures.more c.set.ensures.ordered
    (c.in_ok-children.ensures.nodes (length mid.nodes) c.self.invariant.leaves within)

-- the trie with the child and the new maps
abbrev trie_after : Joined-node → TrieValue
trie_after c = record { nodes = c.self.inside.nodes; child_maps = c.set.new.self; locations = c.self.inside.locations }

-- it was put there
puts_child : (c : Joined-node) → PutsChild c.args.self.now (trie_after c) c.args.node c.args.child c.args.name c.in_ok-id.id c.in_ok-children.children
puts_child c =
    let pushed = c.self.view_is ∙ c.in_ok-id.ensures.added in
    let child_maps = ap (λ (trie : TrieValue). trie.child_maps) pushed in
    record {
      sound = c.push.ensures.trie;
      node_is = c.requires.node;
      child_is = c.requires.child;
      nodes = ap (λ (trie : TrieValue). trie.nodes) pushed;
      id_is = c.in_ok-id.ensures.id;
      child_maps = subst (λ old. Extends old c.set.new.self) child_maps c.in_ok-children.ensures.more;
      locations = ap (λ (trie : TrieValue). trie.locations) pushed;
      sets = subst (λ old. SetsChild old c.set.new.self c.args.node.children c.args.name.0 c.in_ok-id.id c.in_ok-children.children) child_maps
          c.in_ok-children.ensures.exact;
    }

-- the mark of the node is that of both
may_is : (c : Joined-node) → c.if-node.result ≡ (c.args.node.may_give_mergeinfo_below || may_give_mergeinfo c.args.child)
may_is c = elim c.if-node.branch [
  | then-node w ↦ w.result-is ∙ w.if-node.true ∙ sym (or_left c.args.node.may_give_mergeinfo_below (may_give_mergeinfo c.args.child) w.if-node.true)
  | else-node w ↦ w.result-is ∙ w.may_give_mergeinfo.ensures ∙ sym (ap (λ may. may || may_give_mergeinfo c.args.child) w.if-node.false)
]

pub returns-clause-sound : goal.returns-clause-sound
returns-clause-sound c =
    let children = c.in_ok-children.children in
    subst (λ may. IsNodeOf (trie_after c) (record c.args.node { children = children; may_give_mergeinfo_below = may })) (sym (may_is c))
    (IsNodeOf-child c.args.self.now (trie_after c) c.args.node c.args.child c.args.name c.in_ok-id.id children (puts_child c) c.in_ok-children.ensures.within)

pub returns-clause-exact : goal.returns-clause-exact
returns-clause-exact c =
    let old = c.args.self.now in
    let node = c.args.node in
    let child = c.args.child in
    let children = c.in_ok-children.children in
    subst (λ may. PutsNode old (trie_after c) (Some node) (c.args.name ∷ []) child (record node { children = children; may_give_mergeinfo_below = may })) (sym (may_is c))
    (PutsNode-child old (trie_after c) node child c.args.name c.in_ok-id.id children (puts_child c))
