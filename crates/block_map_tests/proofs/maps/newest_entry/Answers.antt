use Rattle.block_map.proofs.Sources.{HaveSources-dump}
use Rattle.block_map_tests.proofs.maps.newest_entry.Goals as goal

pub build-requires-clause-sources : goal.build-requires-clause-sources
build-requires-clause-sources c = rw (c.records.ensures.value, c.in_ok-ends.ensures) (HaveSources-dump c.args.dump.now c.records.ensures.kept)
