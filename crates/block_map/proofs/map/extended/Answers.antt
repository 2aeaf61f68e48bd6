use Rattle.block_map.proofs.Common.{◌≡◌, ◌+◌, length, refl, arith, common_steps, slice_get_read, end_of_trees}
use Rattle.block_map.proofs.map.extended.Goals as goal

pub add-requires-clause-source : goal.add-requires-clause-source
add-requires-clause-source c =
    let index = c.loop-record.record-index in
    let each = c.record-item.result in
    let records = c.args.records.now in
    let end : end_of_trees c.loop-record.grown ≡ end_of_trees c.args.trees + index = grind (arith, common_steps) in
    rw end (c.requires.sources index each (slice_get_read records (length records) index each refl c.loop-record-test.true c.record-item.is))
