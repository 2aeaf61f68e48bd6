use Rattle.std.proofs.Common.{◌≡◌, ◌-◌, length, arith}
use Rattle.std.proofs.lemmas.Grind.{common_steps}
use Rattle.block_map.specs.Ends.{HaveSources}
use Rattle.block_map.specs.Map.{hi_of}
use Rattle.block_map.proofs.Sources.{HaveSources-dump}
use Rattle.block_map_tests.proofs.PartSources.{HaveSources-part}
use Rattle.block_map_tests.proofs.joins.grown_map.Goals as goal

pub grow-requires-clause-sources : goal.grow-requires-clause-sources
grow-requires-clause-sources c =
    let records = c.records.result.now in
    let count = c.min-end.result in
    let all : HaveSources 0 c.args.ends.now records =
    rw (c.records.ensures.value, c.requires) (HaveSources-dump c.args.dump.now c.records.ensures.kept) in
    let end : hi_of c.in_ok-first.first ≡ count = grind (arith, common_steps) in
    rw end (HaveSources-part c.args.ends.now records count (length c.records-all.result.now - count) all)
