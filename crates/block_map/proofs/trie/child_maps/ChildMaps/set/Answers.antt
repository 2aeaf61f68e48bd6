use Rattle.block_map.proofs.Common.{HaveNodesBelow}
use Rattle.svn_path.proofs.Exits.{OnErr-from}
use Rattle.block_map.proofs.Results.{OnOk-from}
use Rattle.block_map.proofs.trie.child_maps.ChildMaps.set.Goals as goal

pub returns-clause-nodes : goal.returns-clause-nodes
returns-clause-nodes c count below within =
    OnOk-from c.set_bits.result (HaveNodesBelow count c.set_bits.new.self) (c.set_bits.ensures.nodes count below within)

pub returns-clause-failed_nodes : goal.returns-clause-failed_nodes
returns-clause-failed_nodes c count below within =
    OnErr-from c.set_bits.result (c.set_bits.ensures.nodes count below within)
