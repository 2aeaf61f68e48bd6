use Rattle.path_index.proofs.Common.{◌≡◌, Some, take, IsNewestBelow, node_of}
use Rattle.path_index.proofs.NewestRecords.{IsCopiedAt}
use Rattle.path_index.proofs.records_by_path.RecordsByPath.newest.Given as goal

abbrev pub invariant-loop-name : goal.invariant-loop-name
invariant-loop-name l = record {
  found : node_of l.self.nodes (take l.name-index l.name-items) ≡ Some l.node;
  newest : IsNewestBelow l.count (IsCopiedAt l.self l.name-items l.count l.name-index) l.newest;
}
