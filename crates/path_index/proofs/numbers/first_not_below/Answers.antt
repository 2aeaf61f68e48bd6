use Rattle.path_index.proofs.Common.{rules, ◌≡◌, ltb, true, false, IsPartitionPoint, IsPartitionedBy-ltb, IsPartitionPoint-from_clause}
use Rattle.path_index.proofs.ListsOfNodes.{IsFirstNotBelow-from_point}
use Rattle.path_index.proofs.NumbersOfNodes.{IsNonDecreasing-rising}
use Rattle.path_index.proofs.numbers.first_not_below.Goals as goal

pub returns-in_default : goal.returns-in_default
returns-in_default c =
    let all = c.args.numbers.now in
    let number = c.args.number in
    let count = c.partition_point.result in
    let point : IsPartitionPoint (λ each. ltb each number ≡ true) (λ each. ltb each number ≡ false) all count =
    IsPartitionPoint-from_clause (λ each. ltb each number) all count c.partition_point.ensures.partitioned (IsPartitionedBy-ltb (λ x. x) all number (IsNonDecreasing-rising all c.requires))
    (λ a r f' k. search rules) in
    IsFirstNotBelow-from_point number all count c.partition_point.ensures.bound point
