use Rattle.block_map.proofs.Common.{subst, AreEntryAndNearest, standing_of}
use Rattle.block_map.proofs.map.Map.standing_and_nearest.Goals as goal

pub returns-in-Some : goal.returns-in-Some
returns-in-Some c =
    subst (λ standing. AreEntryAndNearest standing c.args.path.now c.entry_and_nearest.result)
    (λ i above. standing_of (c.in-Some.ensures.look above i)) c.entry_and_nearest.ensures
