-- Which nodes give no mergeinfo to their paths or those below them.
use Rattle.block_map.proofs.Common.{◌≡◌, Bool, None, Option, Some, arith, ap, is_some, option_and_then, refl, slice_get, subst, sym, NameId, ValueId, ChildGivesNone, HasLocation, IsNodeOf, TrieValue, child_of, gives_mergeinfo, is_location, may_give_mergeinfo, no_children, Base, Node, NodeId}
use Rattle.std.specs.Prelude.{◌||◌, IsFalse}
use Rattle.std.proofs.lemmas.Bool.{or_parts}
use Rattle.block_map.specs.declared.trie.node.OwnEntry.{OwnEntry}
use Rattle.block_map.proofs.GrownTries.{found_within-zero}

-- ---- nodes without children

-- it has none at any name
pub child_of-childless : (trie : TrieValue) (own : OwnEntry) (base : Base) (may : Bool) (name : NameId)
    → child_of trie (record { own = own; base = base; children = no_children; may_give_mergeinfo_below = may }) name ≡ None
child_of-childless trie own base may name =
    ap (option_and_then (λ (id : NodeId). slice_get trie.nodes id.0)) (found_within-zero trie.child_maps 0 name.0)

-- such a node is one of any trie that has its location
pub IsNodeOf-childless : (trie : TrieValue) (own : OwnEntry) (base : Base) (may : Bool) → HasLocation trie base
    → IsNodeOf trie (record { own = own; base = base; children = no_children; may_give_mergeinfo_below = may })
IsNodeOf-childless trie own base may has = (
  omega arith,
  has,
  λ never name. subst ChildGivesNone (sym (child_of-childless trie own base may name)) tt,
)

-- ---- what gives none

-- what is no mergeinfo as a test
pub none-from_is_some : (mi : Option ValueId) → IsFalse (is_some mi) → mi ≡ None
none-from_is_some None none = refl
none-from_is_some (Some each) none = cc

-- a node that gives none is over no location, and neither its entry nor a child gives any
pub record GivesNone (node : Node) : Type 0 where
  pub below : IsFalse node.may_give_mergeinfo_below
  pub own : IsFalse (gives_mergeinfo node.own)
  pub base : IsFalse (is_location node.base)

pub GivesNone-from : (node : Node) → IsFalse (may_give_mergeinfo node) → GivesNone node
GivesNone-from node none =
    let (node_none, base_none) = or_parts (node.may_give_mergeinfo_below || gives_mergeinfo node.own) (is_location node.base) none in
    let (below_none, own_none) = or_parts node.may_give_mergeinfo_below (gives_mergeinfo node.own) node_none in
    record { below = below_none; own = own_none; base = base_none }
