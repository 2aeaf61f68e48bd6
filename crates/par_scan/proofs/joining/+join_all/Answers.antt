use Rattle.std.proofs.Common.{sym, subst}
use Rattle.std.proofs.lemmas.Result.{IfOk-weaker}
use Rattle.par_scan.specs.Chain.{IsChain, IsJoined}
use Rattle.par_scan.proofs.Chains.{IsChain-pair, IsJoined-both}
use Rattle.par_scan.proofs.joining.+join_all.Goals as goal

pub append-requires : goal.append-requires
append-requires g t c =
    let m = g.M.Acts in
    IsChain-pair m.act m.begin m.end m.weight m.weighs _ _ _ _
    (subst (IsChain m.begin m.end m.weight) c.in_ok-front.ensures.whole c.requires.chain)
    c.in_ok-earlier.ensures c.in_ok-later.ensures

pub returns : goal.returns
returns g t c =
    let m = g.M.Acts in
    IfOk-weaker _ _ _
    (λ x j. subst (λ l. IsJoined m.act m.begin m.end l x) (sym c.in_ok-front.ensures.whole)
    (IsJoined-both m.act m.begin m.end _ _ _ _ x c.in_ok-earlier.ensures c.in_ok-later.ensures j))
    c.append.ensures
