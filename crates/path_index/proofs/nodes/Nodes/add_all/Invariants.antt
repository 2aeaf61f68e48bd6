use Rattle.path_index.proofs.Common.{ExtendsNodes}
use Rattle.path_index.proofs.MappedNodes.{AreMapped}
use Rattle.path_index.proofs.nodes.Nodes.add_all.Given as goal

abbrev pub invariant-loop-child : goal.invariant-loop-child
invariant-loop-child l = record {
  mapped : AreMapped l.child-items l.child-index l.self l.nodes.items;
  grown : ExtendsNodes l.fn.self l.self;
}
