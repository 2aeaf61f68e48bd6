use Rattle.block_map.proofs.Common.{[], ◌∷◌, sym, ap, subst, ◌∙◌, AreBlocksFrom, block_trees, hi_of}
use Rattle.block_map.proofs.BlocksOfMaps.{AreBlocksFrom-back, end_of_blocks, last-end, trees-last}
use Rattle.block_map.proofs.map.Map.hi.Goals as goal

pub end-requires : goal.end-requires
end-requires c =
    let lo = c.self.inside.lo in
    let earlier = block_trees c.in-Some.field-0-1.now in
    let block = c.deref.result.now in
    let split = trees-last c.as_slice.result.now c.in-Some.field-0-1.now c.in-Some.last.now block c.in-Some.ensures.cases.0 c.deref.ensures in
    let are = subst (λ items. AreBlocksFrom lo (block_trees items)) (sym c.as_slice.ensures.value) c.self.invariant in
    (AreBlocksFrom-back lo earlier (block ∷ []) (subst (AreBlocksFrom lo) split are)).2.is

pub returns-in-Some : goal.returns-in-Some
returns-in-Some c =
    let lo = c.self.inside.lo in
    let earlier = block_trees c.in-Some.field-0-1.now in
    let block = c.deref.result.now in
    let split = trees-last c.as_slice.result.now c.in-Some.field-0-1.now c.in-Some.last.now block c.in-Some.ensures.cases.0 c.deref.ensures in
    let are = subst (λ items. AreBlocksFrom lo (block_trees items)) (sym c.as_slice.ensures.value) c.self.invariant in
    c.end.ensures ∙ last-end lo earlier block (subst (AreBlocksFrom lo) split are) ∙ ap (end_of_blocks lo) (sym split)
    ∙ ap (λ items. end_of_blocks lo (block_trees items)) c.as_slice.ensures.value ∙ ap hi_of c.self.view_is
