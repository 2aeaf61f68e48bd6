use Rattle.path_index.proofs.Common.{◌≡◌, ℕ, ◌≤◌, numbers_of, AddsNumbers, IsMoved}
use Rattle.path_index.proofs.numbers.Numbers.insert_all.Given as goal

abbrev pub invariant-loop-from : goal.invariant-loop-from
invariant-loop-from l = record {
  added : AddsNumbers (IsMoved l.fn.later l.nodes l.from l.shift) l.fn.self l.self;
  rest : (node : ℕ) → l.from ≤ node → numbers_of l.lists.items node ≡ numbers_of l.fn.later node;
}
