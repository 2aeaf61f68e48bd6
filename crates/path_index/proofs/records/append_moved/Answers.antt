use Rattle.path_index.proofs.Common.{◌≡◌, ◌+◌, ◌^◌, ◌<◌, ◌++◌, ◌∷◌, [], All, map, sym, ap, subst, ◌∙◌, append_assoc, All-tail, moved_by, Copied}
use Rattle.std.specs.Vec.Iter.{into_iter_items}
use Rattle.path_index.proofs.records.append_moved.Goals as goal

pub loop-each-preserved : goal.loop-each-preserved
loop-each-preserved c =
    let each = c.in-Some.each in
    let old = c.loop-each.copies.items in
    let rest = into_iter_items c.next.new.self in
    let moved = map (moved_by c.args.shift) in
    let steps : into_iter_items c.loop-each.each-iterator ≡ each ∷ rest = c.in-Some.ensures.steps.0 in
    let fits = subst (All (λ (copied : Copied). copied.index + c.args.shift < 2 ^ 32)) steps c.loop-each.invariant.2 in (
      tt,
      tt,
      All-tail (λ (copied : Copied). copied.index + c.args.shift < 2 ^ 32) each rest fits,
      ap (λ l. l ++ moved rest) c.in_ok-push.ensures.items ∙ append_assoc old (c.moved.result ∷ []) (moved rest) ∙ ap (λ copied. old ++ copied ∷ moved rest) c.moved.ensures
          ∙ ap (λ l. old ++ moved l) (sym steps) ∙ c.loop-each.invariant.3,
    )
