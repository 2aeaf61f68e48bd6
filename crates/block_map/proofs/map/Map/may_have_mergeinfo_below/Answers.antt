use Rattle.block_map.proofs.Common.{◌∷◌, ◌++◌, rules, sym, ap, ◌∙◌, option_and_then, IfOk, IfOk-weaker, same_name, look_in, mergeinfo_of, revision_in}
use Rattle.std.specs.Prelude.{IsFalse}
use Rattle.block_map.specs.MergeinfoBelow.{LackMergeinfoBelow}
use Rattle.block_map.specs.Standing.{own_mergeinfo_at}
use Rattle.block_map.proofs.MapsOfDumps.{standing-at_end}
use Rattle.block_map.proofs.map.Map.may_have_mergeinfo_below.Goals as goal

pub returns-clause-of_revision : goal.returns-clause-of_revision
returns-clause-of_revision c = λ dump rev map_is end_is.
    let map = c.args.self.now in
    let tick = c.args.tick in
    let path = c.args.path.now in
    let found : IfOk c.may_be_in_blocks.result (λ may. IsFalse may → LackMergeinfoBelow (λ below. mergeinfo_of (look_in map tick below)) path) = search rules in
    IfOk-weaker c.may_be_in_blocks.result (λ may. IsFalse may → LackMergeinfoBelow (λ below. mergeinfo_of (look_in map tick below)) path)
    (λ may. IsFalse may → LackMergeinfoBelow (own_mergeinfo_at same_name (revision_in dump rev)) path)
    (λ may lacks is_false name rest.
    sym (ap (option_and_then (λ standing. standing.mergeinfo)) (standing-at_end dump rev map tick map_is end_is c.requires.within (path ++ name ∷ rest)))
    ∙ lacks is_false name rest)
    found
