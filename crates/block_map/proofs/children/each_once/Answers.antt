use Rattle.std.proofs.lemmas.List.Filters.{dedup_is}
use Rattle.std.proofs.lemmas.List.Kept.{Contains-dedup_nat}
use Rattle.std.proofs.lemmas.List.Sorted.{Contains-permutation}
use Rattle.std.proofs.lemmas.Map.Keys.{IsStrictlyIncreasing-dedup}
use Rattle.block_map.proofs.children.each_once.Goals as goal

pub returns-clause-once : goal.returns-clause-once
returns-clause-once c = rw (dedup_is _ _ _ c.dedup.ensures.filtered) (IsStrictlyIncreasing-dedup _ c.sort_unstable.ensures.sorted)

pub returns-clause-kept : goal.returns-clause-kept
returns-clause-kept c name has =
    rw (dedup_is _ _ _ c.dedup.ensures.filtered) (Contains-dedup_nat _ name (Contains-permutation _ _ name c.sort_unstable.ensures.permutation has))
