use Rattle.block_map.proofs.Common.{◌≤◌, ap, subst, sym, ◌∙◌, resolved, IsFoundUpTo, looked_view, found_view, end_of_trees, look_in_trees, look_through_trees}
use Rattle.block_map.proofs.BlocksOfMaps.{with_mergeinfo-through}
use Rattle.block_map.proofs.trees.Trees.look_through_found.Goals as goal

pub returns-in_ok-looked-in-AtWith-clause-exact : goal.returns-in_ok-looked-in-AtWith-clause-exact
returns-in_ok-looked-in-AtWith-clause-exact c =
    let trees = c.args.self.now in
    let tick = c.in-AtWith.tick in
    let looked = c.in_ok-looked-in-AtWith.looked in
    let within : tick ≤ end_of_trees trees = subst (λ each. IsFoundUpTo (end_of_trees trees) (found_view each)) c.in-AtWith.is c.requires.within in
    ap (resolved trees.start) c.with_mergeinfo.ensures
    ∙ with_mergeinfo-through trees.start tick c.in-AtWith.path c.in-AtWith.mi trees.records.items (found_view c.into_found-in-AtWith.result) within
    (ap (resolved trees.start) (c.into_found-in-AtWith.ensures ∙ ap (λ path. looked_view path looked) (sym c.parts-in-AtWith.ensures))
    ∙ c.in_ok-looked-in-AtWith.ensures.exact ∙ ap (look_in_trees trees tick) c.parts-in-AtWith.ensures)
    ∙ ap (λ each. resolved trees.start (look_through_trees trees (found_view each))) (sym c.in-AtWith.is)
