use Rattle.block_map.proofs.Common.{◌≡◌, ◌++◌, take, records_at_ticks, AreMapTrees}
use Rattle.block_map.proofs.map.extended.Given as goal

abbrev pub invariant-loop-record : goal.invariant-loop-record
invariant-loop-record l = record {
  trees : AreMapTrees l.grown;
  start : l.grown.start ≡ l.fn.trees.start;
  records : l.grown.records.items ≡ l.fn.trees.records.items ++ records_at_ticks l.fn.ends (take l.record-index l.fn.records);
}
