use Rattle.path_index.proofs.Common.{AddsNumbers, IsMoved}
use Rattle.path_index.proofs.sparse_numbers.SparseNumbers.insert_all.Given as goal

abbrev pub invariant-loop-from : goal.invariant-loop-from
invariant-loop-from l = AddsNumbers (IsMoved l.fn.later l.nodes l.from l.shift) l.fn.self l.self
