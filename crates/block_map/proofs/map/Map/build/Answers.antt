use Rattle.block_map.proofs.Common.{◌∙◌, IsMapOfFirstRecords}
use Rattle.block_map.proofs.MapsOfDumps.{IsMapOfFirstRecords-built}
use Rattle.block_map.proofs.Results.{IfOk-both}
use Rattle.block_map.proofs.map.Map.build.Goals as goal

pub returns-clause-of_first : goal.returns-clause-of_first
returns-clause-of_first c = λ dump more zero ends_are all.
    IfOk-both c.with_block.result _ _ (IsMapOfFirstRecords dump)
    (λ map lo kept. IsMapOfFirstRecords-built dump map c.args.records.now more (lo ∙ zero) all kept)
    c.with_block.ensures.lo
    (rw (c.new-blocks.ensures.items, c.in_ok-trees.ensures.records, c.new.ensures.records, ends_are) at c.with_block.ensures.records)
