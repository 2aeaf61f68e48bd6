use Rattle.path_index.proofs.Common.{◌≡◌, ◌+◌, List, ◌++◌, length, AreByPath, AreListed}
use Rattle.svn_dump.specs.declared.record.NodeRecord.{NodeRecord as Record}
use Rattle.path_index.proofs.records_by_path.RecordsByPath.add_all.Given as goal

abbrev pub invariant-loop-index : goal.invariant-loop-index
invariant-loop-index l =
    (before : List Record) → length before ≡ l.fn.count → AreByPath before l.fn.self
    → AreListed (before ++ l.records) (l.fn.count + l.index) l.self.nodes l.self.added l.self.copied l.self.named
