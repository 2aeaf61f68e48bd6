use Rattle.path_index.proofs.Common.{rules, ◌≡◌, leb, true, false, IsPartitionPoint, IsPartitionedBy-leb, IsPartitionPoint-from_clause}
use Rattle.path_index.proofs.NumbersOfNodes.{IsNonDecreasing-rising, IsFrontUpTo-take}
use Rattle.path_index.proofs.numbers.Numbers.up_to.Goals as goal

pub returns : goal.returns
returns c =
    let count = c.partition_point-count.result in
    let all = c.of-numbers.result.now in
    let last = c.args.last in
    let rising = c.of-numbers.ensures.rising in
    let point : IsPartitionPoint (λ each. leb each last ≡ true) (λ each. leb each last ≡ false) all count =
    IsPartitionPoint-from_clause (λ each. leb each last) all count c.partition_point-count.ensures.partitioned (IsPartitionedBy-leb (λ x. x) all last (IsNonDecreasing-rising all rising))
    (λ a r f' k. search rules) in
    rw (c.split_at.ensures.front, ← c.of-numbers.ensures.numbers) (IsFrontUpTo-take last count all rising c.partition_point-count.ensures.bound point)
