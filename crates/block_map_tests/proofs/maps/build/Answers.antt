use Rattle.std.proofs.Common.{◌-◌}
use Rattle.block_map.specs.Ends.{HaveSources}
use Rattle.block_map.proofs.Sources.{HaveSources-dump}
use Rattle.block_map_tests.proofs.PartSources.{HaveSources-part}
use Rattle.block_map_tests.proofs.maps.build.Goals as goal

pub build-requires-clause-sources : goal.build-requires-clause-sources
build-requires-clause-sources c =
    let dump = c.args.dump.now in
    let all : HaveSources 0 c.args.ends.now c.records-records.result.now =
    rw (c.records-records.ensures.value, c.requires.ends) (HaveSources-dump dump c.records-records.ensures.kept) in
    HaveSources-part c.args.ends.now c.records-records.result.now c.args.part.start (c.args.part.end - c.args.part.start) all
