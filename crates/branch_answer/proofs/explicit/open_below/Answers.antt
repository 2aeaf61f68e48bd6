use Rattle.std.proofs.Common.{◌++◌, ◌∙◌, [], ◌∷◌, ap, sym, subst, take}
use Rattle.std.proofs.lemmas.List.{take_more}
use Rattle.branch_answer.proofs.LevelsWalked.{AreOpenBelow-push}
use Rattle.branch_answer.specs.ExplicitFound.{AreOpenBelow}
use Rattle.branch_answer.proofs.explicit.open_below.Goals as goal

pub loop-path-preserved : goal.loop-path-preserved
loop-path-preserved c =
    let dump = c.args.repo.now in
    let path = c.path-item.result in
    let level = c.args.level.now in
    let done = take c.loop-path.path-index level in
    let whole = take_more level c.loop-path.path-index path c.loop-path-test.true ∙ ap (λ one. done ++ one ∷ []) (sym c.path-item.is) in
    subst (λ all. AreOpenBelow dump c.args.rev all c.append.new.self.items) (sym whole)
    (subst (AreOpenBelow dump c.args.rev (done ++ path ∷ [])) (sym c.in_ok-append.ensures.items)
    (AreOpenBelow-push dump c.args.rev done c.loop-path.next.items c.in_ok-more.more.items path c.loop-path.invariant c.in_ok-more.ensures))
