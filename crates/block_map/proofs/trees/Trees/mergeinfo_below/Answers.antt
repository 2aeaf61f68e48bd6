use Rattle.block_map.proofs.Common.{◌++◌, subst, at_root, found_below}
use Rattle.block_map.specs.MergeinfoBelow.{IsMergeinfoBelow}
use Rattle.block_map.specs.declared.mergeinfo_below.MergeinfoBelow.TheVariants as below
use Rattle.block_map.proofs.MergeinfoLacked.{IsMergeinfoBelow-after}
use Rattle.block_map.proofs.trees.Trees.mergeinfo_below.Goals as goal

pub returns-clause-says : goal.returns-clause-says
returns-clause-says c =
    let trees = c.args.self.now in
    let root = c.root-root.result in
    let base = c.in-AsAt.base in
    let shown = subst (IsMergeinfoBelow (λ rest. found_below trees.trie (at_root root) (c.parts.result.now ++ rest))) c.in-AsAt.is c.in_ok-mergeinfo_below.ensures in
    IsMergeinfoBelow-after trees root c.args.found base c.up_to.result c.requires.within c.root-root.ensures.shows
    (subst (λ path. IsMergeinfoBelow (λ rest. found_below trees.trie (at_root root) (path ++ rest)) (below.AsAt base)) c.parts.ensures shown)
    c.up_to.ensures.same
