use Rattle.block_map.proofs.Common.{ap, subst, option_and_then, IsNearestOrNone, look_in, mergeinfo_of}
use Rattle.block_map.proofs.MapsOfDumps.{standing-at_end}
use Rattle.block_map.proofs.map.Map.nearest.Goals as goal

pub returns-clause-of_revision : goal.returns-clause-of_revision
returns-clause-of_revision c = λ dump rev map_is end_is.
    let map = c.args.self.now in
    let tick = c.args.tick in
    let nearest = c.in_ok-nearest.nearest in
    subst (λ own. IsNearestOrNone own c.args.path.now nearest)
    (λ i path. ap (option_and_then (λ standing. standing.mergeinfo)) (standing-at_end dump rev map tick map_is end_is c.requires.within path) i)
    (subst (λ path. IsNearestOrNone (λ above. mergeinfo_of (look_in map tick above)) path nearest) c.parts.ensures c.in_ok-nearest.ensures.1)
