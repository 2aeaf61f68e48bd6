use Rattle.block_map.proofs.Sources.{HaveSources-dump}
use Rattle.block_map_tests.proofs.maps.whole_map.Goals as goal

pub build-requires-clause-sources : goal.build-requires-clause-sources
build-requires-clause-sources c = rw (c.records.ensures.value, c.requires) (HaveSources-dump c.args.dump.now c.records.ensures.kept)
