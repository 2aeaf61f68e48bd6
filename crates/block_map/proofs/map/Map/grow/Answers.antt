use Rattle.block_map.proofs.Common.{◌≡◌, ◌∙◌, arith, append_assoc, common_steps, IsMapOfFirstRecords, hi_of, end_of_trees}
use Rattle.block_map.proofs.MapsOfDumps.{IsMapOfFirstRecords-grown}
use Rattle.block_map.proofs.Results.{IfOk-both}
use Rattle.block_map.proofs.map.Map.grow.Goals as goal

pub extended-requires-clause-sources : goal.extended-requires-clause-sources
extended-requires-clause-sources c =
    let end : end_of_trees c.in_ok-front.last ≡ hi_of c.args.self = grind (arith, common_steps) in
    rw end c.requires.sources

pub returns-clause-of_first : goal.returns-clause-of_first
returns-clause-of_first c = λ dump before more ends_are all count is.
    IfOk-both c.with_block.result _ _ (IsMapOfFirstRecords dump)
    (λ map lo kept. IsMapOfFirstRecords-grown dump c.args.self map before c.args.records.now more is all count (lo ∙ c.in_ok-front.ensures.lo) kept)
    c.with_block.ensures.lo
    (rw (c.in_ok-trees.ensures.records, ← append_assoc, c.in_ok-front.ensures.records, ends_are) at c.with_block.ensures.records)
