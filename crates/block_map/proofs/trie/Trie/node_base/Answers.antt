use Rattle.block_map.proofs.Common.{subst, AddsBelow, TrieValue}
use Rattle.block_map.proofs.Positions.{IsBaseOfPath-below}
use Rattle.block_map.proofs.trie.Trie.node_base.Goals as goal

pub returns-clause-exact : goal.returns-clause-exact
returns-clause-exact c =
    let inside = c.self.inside in
    let old : TrieValue = record { nodes = inside.nodes; child_maps = inside.child_maps; locations = inside.locations } in
    let new : TrieValue = record { nodes = inside.nodes; child_maps = inside.child_maps; locations = c.push_below.new.self } in
    let adds = subst (AddsBelow inside.locations c.push_below.new.self c.in-At.location) c.split_at.ensures.back c.in_ok-push_below.ensures.added in
    rw (c.in-At.is, ← c.self.view_is)
    (IsBaseOfPath-below old new c.args.path.now c.in-At.location c.in-At.from c.in_ok-push_below.field-0 c.in_ok-push_below.ensures.id adds)
