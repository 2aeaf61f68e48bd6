use Rattle.block_map.proofs.Common.{◌≡◌, [], ◌∷◌, ◌++◌, subst, at_root, found_below}
use Rattle.block_map.specs.Children.{AreOthersAt}
use Rattle.block_map.proofs.ChildrenFound.{AreOthersAt-after}
use Rattle.block_map.proofs.trees.Trees.push_names_below.Goals as goal

pub returns-clause-others : goal.returns-clause-others
returns-clause-others c =
    let trees = c.args.self.now in
    let root = c.root-root.result in
    let names = c.push_names.new.names.items in
    let base = c.in_ok-base.base in
    AreOthersAt-after trees root c.args.location names base c.up_to.result c.requires.within c.root-root.ensures.shows
    (subst (λ path. AreOthersAt (λ name found. found_below trees.trie (at_root root) (path ++ name ∷ []) ≡ found) names base) c.parts.ensures c.in_ok-base.ensures.others)
    c.up_to.ensures.same
