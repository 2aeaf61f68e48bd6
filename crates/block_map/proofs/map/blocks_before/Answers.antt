use Rattle.block_map.proofs.Common.{rules, ◌≡◌, ℕ, ◌+◌, ◌<◌, ◌≤◌, ltb, true, false, drop, take, get_or, ap, sym, ◌∙◌, arith, length-drop, arc_value, Arc, Global, ltb-true, ltb-false, get_or-drop, get_or-take, map-append, take-append-drop, All-map, block_trees, Trees}
use Rattle.std.proofs.Common.{length-take}
use Rattle.std.specs.List.Sorted.{IsPartitionPoint}
use Rattle.std.proofs.lemmas.List.Sorted.{IsPartitionedBy-ltb, IsPartitionPoint-from_clause}
use Rattle.block_map.proofs.BlocksOfMaps.{starts-rise}
use Rattle.block_map.proofs.map.blocks_before.Goals as goal

pub returns : goal.returns
returns c =
    let blocks = c.args.blocks.now in
    let tick = c.args.tick in
    let count = c.partition_point-count.result in
    let start : Arc Trees Global → ℕ = λ block. (arc_value block).start in
    let point : IsPartitionPoint (λ each. ltb (start each) tick ≡ true) (λ each. ltb (start each) tick ≡ false) blocks count =
    IsPartitionPoint-from_clause (λ each. ltb (start each) tick) blocks count c.partition_point-count.ensures.partitioned
    (IsPartitionedBy-ltb start blocks tick (starts-rise c.requires.0 blocks c.requires.1)) (λ a r f' k. search rules) in
    record {
      more = block_trees (drop count blocks);
      split = sym (ap block_trees (take-append-drop count blocks)) ∙ map-append arc_value (take count blocks) (drop count blocks);
      before = All-map (λ (block : Trees). block.start < tick) arc_value (take count blocks) (λ k d within.
          let below : k < count = omega (arith, within, length-take count blocks) in
          ltb-true (start (get_or (take count blocks) k d)) tick (ap (λ each. ltb (start each) tick) (get_or-take count blocks k d below) ∙ point.0 k d (omega arith) below));
      after = All-map (λ (block : Trees). tick ≤ block.start) arc_value (drop count blocks) (λ k d within.
          ltb-false (start (get_or (drop count blocks) k d)) tick
          (ap (λ each. ltb (start each) tick) (get_or-drop count blocks k d) ∙ point.1 (count + k) d (omega arith) (omega (arith, within, length-drop count blocks))));
    }
