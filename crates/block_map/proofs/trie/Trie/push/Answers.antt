use Rattle.block_map.proofs.Common.{List, ap, subst, sym, IsNodeOf, TrieValue, Node}
use Rattle.block_map.proofs.SoundTries.{IsSound-pushed}
use Rattle.block_map.proofs.trie.Trie.push.Goals as goal

pub invariant_of-self-2 : goal.invariant_of-self-2
invariant_of-self-2 c =
    let inside = c.self.inside in
    let old : TrieValue = record { nodes = inside.nodes; child_maps = inside.child_maps; locations = inside.locations } in
    let new : TrieValue = record { nodes = c.push.new.self; child_maps = inside.child_maps; locations = inside.locations } in
    IsSound-pushed old new c.args.node c.self.invariant (subst (λ trie. IsNodeOf trie c.args.node) (sym c.self.view_is) c.requires)
    (ap (λ (nodes : List Node). record old { nodes = nodes }) c.in_ok-push.ensures.added)

pub returns-clause-after : goal.returns-clause-after
returns-clause-after c = invariant_of-self-2 c
