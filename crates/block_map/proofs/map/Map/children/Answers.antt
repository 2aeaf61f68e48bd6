use Rattle.block_map.proofs.Common.{subst, IfOk-weaker, same_name, look_in, revision_in, standing_at, standing_of}
use Rattle.block_map.specs.Children.{AreChildren}
use Rattle.block_map.proofs.MapsOfDumps.{standing-at_end}
use Rattle.block_map.proofs.map.Map.children.Goals as goal

pub returns-clause-of_revision : goal.returns-clause-of_revision
returns-clause-of_revision c = λ dump rev map_is end_is.
    let map = c.args.self.now in
    let tick = c.args.tick in
    IfOk-weaker c.children_of.result (λ children. AreChildren (λ below. standing_of (look_in map tick below)) c.parts-2.result.now children.items)
    (λ children. AreChildren (standing_at same_name (revision_in dump rev)) c.args.path.now children.items)
    (λ children are.
    subst (λ standing. AreChildren standing c.args.path.now children.items)
    (λ i path. standing-at_end dump rev map tick map_is end_is c.requires.within path i)
    (subst (λ path. AreChildren (λ below. standing_of (look_in map tick below)) path children.items) c.parts-2.ensures are))
    c.children_of.ensures
