use Rattle.std.proofs.Common.{Some, sym, ap, ◌∙◌}
use Rattle.branch_answer.proofs.Moved.{place-of_copy}
use Rattle.branch_answer.proofs.moves.place_after.Goals as goal

pub returns-in_ok-rebase-in-Copy : goal.returns-in_ok-rebase-in-Copy
returns-in_ok-rebase-in-Copy c =
    ap Some c.in_ok-rebase-in-Copy.ensures
    ∙ sym (place-of_copy c.args.path.now c.args.rev c.args.each.now c.in-Copy.replace c.in-Copy.from c.in-Copy.from_rev c.in-Copy.mi c.in-Copy.is
    c.if-from_rev-rev.true (c.starts_with.ensures.0 c.if-starts_with.true))
