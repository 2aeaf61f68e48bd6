use Rattle.block_map.proofs.Common.{◌≡◌, sym, subst, IfOk-weaker, same_name, IsFoundAtOrBefore, found_view, look_in}
use Rattle.block_map.proofs.FoundFrom.{IsFoundAtOrBefore-look}
use Rattle.block_map.proofs.map.Map.look.Goals as goal

pub returns-clause-earlier : goal.returns-clause-earlier
returns-clause-earlier c =
    let map = c.args.self.now in
    IfOk-weaker c.found.result (λ found. found_view found ≡ look_in map c.args.tick c.parts.result.now) (λ found. IsFoundAtOrBefore map.lo (found_view found))
    (λ found exact. subst (IsFoundAtOrBefore map.lo) (sym exact) (IsFoundAtOrBefore-look same_name map.lo map.records c.args.tick c.parts.result.now))
    c.found.ensures
