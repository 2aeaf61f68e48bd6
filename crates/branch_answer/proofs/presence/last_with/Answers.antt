use Rattle.std.proofs.Common.{◌∙◌, ◌+◌, ◌-◌, ◌/◌, arith, sym}
use Rattle.branch_answer.proofs.Revisions.{stays_gone}
use Rattle.branch_answer.proofs.presence.last_with.Goals as goal

pub halves-preserved : goal.halves-preserved
halves-preserved c =
    let before = c.halves.invariant in
    let middle = c.halves.low + (c.halves.high - c.halves.low) / 2 in
    let none = sym c.in_ok-is_there.ensures ∙ c.if-branch.false in
    record {
      low = before.low;
      ordered = omega (arith, before.ordered, c.halves-test.true);
      high = omega (arith, before.ordered, before.high);
      there = before.there;
      not_there = none;
      gone = stays_gone c.args.repo.now c.args.path.now c.args.with c.args.without c.requires.keeps middle (omega (arith, before.low)) none;
    }
