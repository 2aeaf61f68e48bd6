use Rattle.path_index.proofs.Common.{◌≡◌, Some, take, node_of}
use Rattle.path_index.proofs.nodes.Nodes.find.Given as goal

abbrev pub invariant-loop-name : goal.invariant-loop-name
invariant-loop-name l = node_of l.self (take l.name-index l.name-items) ≡ Some l.node
