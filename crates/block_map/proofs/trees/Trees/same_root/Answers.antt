use Rattle.block_map.proofs.Common.{◌≡◌, ◌-◌, Some, length, sym, ap, subst, ◌∙◌, option_copied, slice_get, end_of_trees}
use Rattle.block_map.proofs.Results.{IfOk-both}
use Rattle.block_map.proofs.TreesLooks.{IsRootAt-last, IsRootAt-pushed}
use Rattle.block_map.proofs.trees.Trees.same_root.Goals as goal

pub returns-in-Some-clause-shows : goal.returns-in-Some-clause-shows
returns-in-Some-clause-shows c =
    let trees = c.args.self.now in
    let at : slice_get trees.roots.items (length trees.roots.items - 1) ≡ Some c.in-Some.id.now =
    subst (λ roots. slice_get roots (length roots - 1) ≡ Some c.in-Some.id.now) c.deref.ensures.value (sym c.last.ensures.value ∙ ap option_copied c.in-Some.is) in
    IsRootAt-last trees c.in-Some.id.now c.requires.trees at

pub returns-in-None-clause-shows : goal.returns-in-None-clause-shows
returns-in-None-clause-shows c =
    let trees = c.args.self.now in
    IfOk-both c.push.result _ _ _
    (λ id at added. IsRootAt-pushed trees c.push.new.self (end_of_trees trees) c.args.root id c.push.ensures.trie c.requires.sound c.requires.shows at added)
    c.push.ensures.id c.push.ensures.added
