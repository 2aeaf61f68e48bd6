use Rattle.block_map.proofs.Common.{subst, IfOk-weaker, same_name, AreEntryAndNearest, look_in, revision_in, standing_at, standing_of}
use Rattle.block_map.proofs.MapsOfDumps.{standing-at_end}
use Rattle.block_map.proofs.map.Map.entry_and_nearest.Goals as goal

pub returns-clause-of_revision : goal.returns-clause-of_revision
returns-clause-of_revision c = λ dump rev map_is end_is.
    let map = c.args.self.now in
    let tick = c.args.tick in
    IfOk-weaker c.standing_and_nearest.result (AreEntryAndNearest (λ above. standing_of (look_in map tick above)) c.parts.result.now)
    (AreEntryAndNearest (standing_at same_name (revision_in dump rev)) c.args.path.now)
    (λ found is.
    subst (λ standing. AreEntryAndNearest standing c.args.path.now found)
    (λ i path. standing-at_end dump rev map tick map_is end_is c.requires.within path i)
    (subst (λ path. AreEntryAndNearest (λ above. standing_of (look_in map tick above)) path found) c.parts.ensures is))
    c.standing_and_nearest.ensures
