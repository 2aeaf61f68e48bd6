use Rattle.block_map.proofs.Common.{rules, ◌≡◌, sym, subst, IfOk-weaker, same_name, IsFoundUpTo, looked_view, look_in_trees}
use Rattle.block_map.proofs.FoundFrom.{IsFoundAtOrBefore-look, IsFoundUpTo-earlier}
use Rattle.block_map.proofs.trees.Trees.look.Goals as goal

pub returns-clause-earlier : goal.returns-clause-earlier
returns-clause-earlier c =
    let trees = c.args.self.now in
    let path = c.args.path.now in
    let says = look_in_trees trees c.args.tick path in
    IfOk-weaker c.found.result (λ looked. looked_view path looked ≡ says) (λ looked. IsFoundUpTo trees.start (looked_view path looked))
    (λ looked exact. subst (IsFoundUpTo trees.start) (sym exact)
    (IsFoundUpTo-earlier trees.start says (IsFoundAtOrBefore-look same_name trees.start trees.records.items c.args.tick path)))
    (search rules)
