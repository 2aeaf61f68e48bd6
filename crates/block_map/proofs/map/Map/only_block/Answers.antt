use Rattle.block_map.proofs.Common.{◌≡◌, ◌≤◌, ◌<◌, List, [], ◌∷◌, get_or, length, refl, sym, ap, subst, ◌∙◌, arith, arc_value, Arc, Global, same_name, AreBlocksBefore, AreBlocksFrom, block_records, block_trees, look, resolved, hi_of, look_in, Trees}
use Rattle.block_map.proofs.BlocksOfMaps.{end_of_blocks, look-only}
use Rattle.block_map.proofs.map.Map.only_block.Goals as goal

-- a list of one element
only-element : (blocks : List (Arc Trees Global)) (d : Arc Trees Global) → 1 ≤ length blocks → length blocks < 2 → blocks ≡ get_or blocks 0 d ∷ []
only-element [] d some few = absurd (omega (arith, some))
only-element (block ∷ []) d some few = refl
only-element (block ∷ other ∷ blocks) d some few = absurd (omega (arith, few))

pub returns-in-len1-clause-look : goal.returns-in-len1-clause-look
returns-in-len1-clause-look c =
    let lo = c.self.inside.lo in
    let tick = c.args.tick in
    let all = block_trees c.as_slice.result.now in
    let blocks = c.blocks_before.result.now in
    let only = c.as_ref.result.now in
    let are = subst (λ items. AreBlocksFrom lo (block_trees items)) (sym c.as_slice.ensures.value) c.self.invariant in
    let within : tick ≤ end_of_blocks lo all =
    subst (λ items. tick ≤ end_of_blocks lo (block_trees items)) (sym c.as_slice.ensures.value) (subst (λ map. tick ≤ hi_of map) (sym c.self.view_is) c.requires.within) in
    let one : block_trees blocks ≡ only ∷ [] =
    ap block_trees (only-element blocks c.only-item.result c.in-len1.len_at_least c.in-len1.len_below)
    ∙ ap (λ each. arc_value each ∷ []) (sym c.only-item.is) ∙ ap (λ each. each ∷ []) (sym c.as_ref.ensures) in
    let before = subst (AreBlocksBefore tick all) one c.blocks_before.ensures in
    λ path. look-only lo tick path all only are before within
    ∙ ap (λ items. resolved lo (look same_name lo (block_records (block_trees items)) tick path)) c.as_slice.ensures.value
    ∙ ap (λ map. look_in map tick path) c.self.view_is
