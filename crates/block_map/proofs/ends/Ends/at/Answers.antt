use Rattle.block_map.proofs.Common.{◌≡◌, ◌^◌, ◌<◌, ℕ, List, length, get_or, sym, ap, ◌∙◌, arith, get_or-map, length-map, ends_view}
use Rattle.par_scan.specs.declared.sum.Sum.{Sum}
use Rattle.block_map.proofs.ends.Ends.at.Goals as goal

-- the end of the revision is the number of its index
end_at : (sums : List Sum) (rev : ℕ) (d : Sum) → rev < length (ends_view sums) → get_or (ends_view sums) rev 0 ≡ (get_or sums rev d).0
end_at sums rev d within = get_or-map (λ each. each.0) sums rev d 0 (omega (arith, within, length-map sums (λ each. each.0)))

pub overflow_cast-result : goal.overflow_cast-result
overflow_cast-result c =
    let within : c.args.rev < length (ends_view c.self.inside.sums.items) = rw c.self.view_is c.requires in
    let is = end_at c.self.inside.sums.items c.args.rev c.index.result.now within ∙ ap (λ each. each.0) (sym c.index.ensures) in
    let small : (get_or (ends_view c.self.inside.sums.items) c.args.rev 0) < 2 ^ 32 = c.self.invariant c.args.rev 0 within in
    omega (arith, is, small)

pub returns : goal.returns
returns c =
    let within : c.args.rev < length (ends_view c.self.inside.sums.items) = rw c.self.view_is c.requires in
    let is = end_at c.self.inside.sums.items c.args.rev c.index.result.now within ∙ ap (λ each. each.0) (sym c.index.ensures) in
    sym (ap (λ ends. get_or ends c.args.rev 0) (sym c.self.view_is) ∙ is)
