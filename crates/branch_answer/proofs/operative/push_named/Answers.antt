use Rattle.std.proofs.Common.{◌++◌, ◌∙◌, ap}
use Rattle.branch_answer.proofs.OperativeFound.{operative_from_to-named}
use Rattle.branch_answer.proofs.operative.push_named.Goals as goal

pub returns : goal.returns
returns c =
    c.in_ok-append.ensures.items
    ∙ ap (λ more. c.args.revs.now.items ++ more)
    (c.in_ok-named.ensures ∙ operative_from_to-named c.args.repo.now c.args.path.now c.args.above c.args.last c.requires)
