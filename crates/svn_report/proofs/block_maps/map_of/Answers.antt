use Rattle.svn_report.proofs.Common.{rules, ◌≡◌, ◌+◌, ◌≤◌, All, length, arith, NodeRecord, ends_of, AreBorders, HasBlock}
use Rattle.svn_dump.specs.Record.{most_components}
use Rattle.block_map.proofs.Sources.{HaveSources-dump}
use Rattle.svn_report.proofs.BlockMapsJoined.{AreMapsOfBlocks, IsChain-maps, IsMapOf-joined, few-nodes_of_joined}
use Rattle.svn_report.proofs.block_maps.map_of.Goals as goal
use Rattle.svn_report.proofs.block_maps.map_of.Goals.{In_ok-maps}

-- the borders of the blocks that were made
borders_of : (g : _) (c : In_ok-maps g) → AreBorders 0 (length c.records.result.now) c.args.borders.now
borders_of g c = rw c.records.ensures.value c.requires.borders

count_of : (g : _) (c : In_ok-maps g) → length c.in_ok-maps.maps.items + 1 ≡ length c.args.borders.now
count_of g c =
    let some = (borders_of g c).some in
    omega (arith, some, c.in_ok-maps.maps.ok.0, c.in_ok-maps.ensures.len)

-- what they are
maps_of : (g : _) (c : In_ok-maps g) → AreMapsOfBlocks c.args.ends.now c.records.result.now c.args.borders.now c.in_ok-maps.maps.items
maps_of g c = λ i d below. (c.in_ok-maps.ensures.made i d below).0

pub make_all-requires-clause-numbers : goal.make_all-requires-clause-numbers
make_all-requires-clause-numbers g c κs within = λ i below.
    let has : HasBlock c.records.result.now c.args.borders.now i = search rules in
    let short : All (λ (each : NodeRecord). length each.path ≤ most_components) c.records.result.now = search rules in
    record { has = has; short = short; sources = rw (c.records.ensures.value, c.requires.ends) (HaveSources-dump c.args.dump.now c.records.ensures.kept) }

pub total-requires-clause-chain : goal.total-requires-clause-chain
total-requires-clause-chain g c κs within =
    IsChain-maps c.args.ends.now c.records.result.now c.args.borders.now c.in_ok-maps.maps.items (borders_of g c) (maps_of g c) (count_of g c)

pub returns-in-Some-clause-map : goal.returns-in-Some-clause-map
returns-in-Some-clause-map g c =
    let made = (goal.at.returns-in-Some-clause-map g c).In_ok-maps in
    let are : AreMapsOfBlocks (ends_of c.args.dump.now.counts) c.args.dump.now.records c.args.borders.now c.in_ok-maps.maps.items =
    rw (c.requires.ends, c.records.ensures.value) at (maps_of g made) in
    IsMapOf-joined c.args.dump.now c.args.borders.now c.in_ok-maps.maps.items c.in-Some.map c.requires.borders are (count_of g made)
    (rw c.in-Some.is at c.in_ok-map.ensures.joined)

pub returns-in-Some-clause-nodes : goal.returns-in-Some-clause-nodes
returns-in-Some-clause-nodes g c =
    let made = (goal.at.returns-in-Some-clause-nodes g c).In_ok-maps in
    let few = few-nodes_of_joined c.args.ends.now c.records.result.now c.args.borders.now c.in_ok-maps.maps.items c.in-Some.map (borders_of g made)
    (maps_of g made) (count_of g made) (λ i d below. (c.in_ok-maps.ensures.made i d below).1)
    (rw c.in-Some.is at c.in_ok-map.ensures.joined) in
    rw c.records.ensures.value at few
