use Rattle.std.proofs.Common.{◌<◌, [], ◌∷◌, length, get_or, sym, ap, subst, ◌∙◌}
use Rattle.par_scan.specs.Chain.{IsChain}
use Rattle.par_scan.proofs.scanning.fn.join_parts.join_part.Goals as goal

pub join_each-requires-after_bounds : goal.join_each-requires-after_bounds
join_each-requires-after_bounds g c κs within index d below =
    let m = g.M.Acts in
    let before = c.index-before-part.result in
    let part = c.index-parts-part.result in
    let is = c.as_slice.ensures.value ∙ ap (λ p. p.items) c.index-parts-part.is in
    subst (λ b. IsChain m.begin m.end m.weight (b ∷ get_or c.as_slice.result.now index d ∷ [])) (sym c.index-before-part.is)
    (subst (λ l. index < length l → IsChain m.begin m.end m.weight (get_or c.captures.before.now c.args.part before ∷ get_or l index d ∷ []))
    (sym is) (c.requires.2 before part index d) below)
