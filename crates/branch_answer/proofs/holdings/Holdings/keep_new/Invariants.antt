use Rattle.std.proofs.Common.{◌≡◌, ℕ, ◌+◌, ◌<◌, ◌≤◌, get_or, length}
use Rattle.range_list.specs.Rangelist.{is_in}
use Rattle.branch_answer.specs.KeptNew.{new_cell}
use Rattle.branch_answer.specs.declared.holding.Holding.TheVariants.{Not}
use Rattle.branch_answer.proofs.holdings.Holdings.keep_new.Given as goal

abbrev pub invariant-loop-index : goal.invariant-loop-index
invariant-loop-index l = record {
  first : l.self.first ≡ l.initial.self.first;
  count : length l.self.how.items ≡ length l.initial.self.how.items;
  done : (k : ℕ) → k < l.index → get_or l.self.how.items k Not ≡ new_cell (is_in l.uncounted (l.initial.self.first + k)) (get_or l.one.how.items k Not) (get_or l.initial.self.how.items k Not);
  left : (k : ℕ) → l.index ≤ k → get_or l.self.how.items k Not ≡ get_or l.initial.self.how.items k Not;
}
