use Rattle.std.proofs.Common.{◌∙◌}
use Rattle.block_map.specs.Map.{records_at_ticks}
use Rattle.block_map.proofs.MapsOfDumps.{IsMapOf-built}
use Rattle.block_map.proofs.Sources.{HaveSources-dump}
use Rattle.query_answer_tests.proofs.repository.map_of.Goals as goal

pub build-requires-clause-sources : goal.build-requires-clause-sources
build-requires-clause-sources g c = rw (c.records.ensures.value, c.requires) (HaveSources-dump c.args.dump.now c.records.ensures.kept)

pub returns-in-Ok-None-clause-map : goal.returns-in-Ok-None-clause-map
returns-in-Ok-None-clause-map g c =
    IsMapOf-built c.args.dump.now c.in_ok-map.map c.in_ok-map.ensures.lo
    (c.in_ok-map.ensures.records ∙ (λ i. records_at_ticks (c.requires i) (c.records.ensures.value i)))
