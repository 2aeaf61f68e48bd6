use Rattle.path_index.proofs.Common.{◌≡◌, Some, take, node_of, ExtendsNodes, AddsEntries, IsFrontAt}
use Rattle.path_index.proofs.records_by_path.RecordsByPath.name.Given as goal

abbrev pub invariant-loop-name : goal.invariant-loop-name
invariant-loop-name l = record {
  node : node_of l.self.nodes (take l.name-index l.name-items) ≡ Some l.node;
  grown : ExtendsNodes l.fn.self.nodes l.self.nodes;
  named : AddsEntries l.self.nodes (IsFrontAt l.name-items l.name-index l.rev) l.fn.self.named l.self.named;
  added : l.self.added ≡ l.fn.self.added;
  copied : l.self.copied ≡ l.fn.self.copied;
}
