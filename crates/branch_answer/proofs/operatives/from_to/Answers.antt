use Rattle.std.proofs.Common.{◌≡◌, ◌++◌, ◌∙◌, ◌<◌, ◌≤◌, All, arith, false, leb, ltb, rules, true}
use Rattle.std.proofs.lemmas.Bool.{le-leb, le-ltb, lt-leb, lt-ltb}
use Rattle.std.proofs.lemmas.List.Elements.{All-append, All-weaker}
use Rattle.std.proofs.lemmas.List.Sorted.{IsPartitionPoint-from_clause}
use Rattle.branch_answer.proofs.Parted.{ArePartedAt-point}
use Rattle.branch_answer.proofs.operatives.from_to.Goals as goal

pub returns : goal.returns
returns c = λ newer among older cut is.
    let lo = c.args.lo in
    let hi = c.args.hi in
    let up : All (λ rev. ltb hi rev ≡ false) (among ++ older) =
    All-append (λ rev. ltb hi rev ≡ false) among older (All-weaker (λ rev. rev ≤ hi) (λ rev. ltb hi rev ≡ false) (λ rev to. le-ltb hi rev to) among cut.to)
    (All-weaker (λ rev. rev < lo) (λ rev. ltb hi rev ≡ false) (λ rev below. le-ltb hi rev (omega (arith, below, cut.ordered))) older cut.below) in
    let first = ArePartedAt-point (λ rev. ltb hi rev) c.args.revs.now newer (among ++ older) c.partition_point.result
    (All-weaker (λ rev. hi < rev) (λ rev. ltb hi rev ≡ true) (λ rev above. lt-ltb hi rev above) newer cut.above) up is c.partition_point.ensures.bound
    (λ parted. IsPartitionPoint-from_clause (λ rev. ltb hi rev) c.args.revs.now c.partition_point.result c.partition_point.ensures.partitioned parted (λ a r q k. search rules)) in
    let rest = c.split_at.result.1.now in
    let second = ArePartedAt-point (λ rev. leb lo rev) rest among older c.partition_point-2.result
    (All-weaker (λ rev. lo ≤ rev) (λ rev. leb lo rev ≡ true) (λ rev from. le-leb lo rev from) among cut.from)
    (All-weaker (λ rev. rev < lo) (λ rev. leb lo rev ≡ false) (λ rev below. lt-leb lo rev below) older cut.below)
    (c.split_at.ensures.back ∙ first.back_is) c.partition_point-2.ensures.bound
    (λ parted. IsPartitionPoint-from_clause (λ rev. leb lo rev) rest c.partition_point-2.result c.partition_point-2.ensures.partitioned parted (λ a r q k. search rules)) in
    c.split_at-2.ensures.front ∙ second.front_is
