use Rattle.std.proofs.Common.{◌≡◌, map}
use Rattle.std.specs.Prelude.{count_by}
use Rattle.std.specs.List.{range_with_len}
use Rattle.branch_answer.specs.KeptNew.{is_new_at}
use Rattle.branch_answer.proofs.counted.Counted.distance.Given as goal

abbrev pub invariant-loop-index : goal.invariant-loop-index
invariant-loop-index l = record {
  beyond : l.beyond ≡ count_by (λ each. each) (map (is_new_at l.self.counts.items l.one l.other) (range_with_len 0 l.index));
  behind : l.behind ≡ count_by (λ each. each) (map (is_new_at l.self.counts.items l.other l.one) (range_with_len 0 l.index));
}
