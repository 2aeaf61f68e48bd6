use Rattle.block_map.proofs.StoredChildMaps.{AreOrdered-stored}
use Rattle.block_map.proofs.trie.child_maps.ChildMaps.push.Goals as goal

pub invariant_of-self-2 : goal.invariant_of-self-2
invariant_of-self-2 c =
    AreOrdered-stored c.self.inside.maps.items c.push.new.self.items c.in_ok-of.field-0 c.args.self.now c.args.map c.in_ok-push.ensures.items
    c.self.view_is c.in_ok-of.ensures c.self.invariant c.requires

pub returns-clause-ordered : goal.returns-clause-ordered
returns-clause-ordered c = invariant_of-self-2 c
