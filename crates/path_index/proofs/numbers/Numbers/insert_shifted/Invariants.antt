use Rattle.path_index.proofs.Common.{take, AddsNumbers, IsShifted, KeepOthers}
use Rattle.path_index.proofs.numbers.Numbers.insert_shifted.Given as goal

abbrev pub invariant-loop-number : goal.invariant-loop-number
invariant-loop-number l = record {
  added : AddsNumbers (IsShifted (take l.number-index l.numbers) l.shift l.node) l.fn.self l.self;
  others : KeepOthers l.node l.fn.self l.self;
}
