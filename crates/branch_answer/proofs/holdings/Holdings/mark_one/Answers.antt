use Rattle.std.proofs.Common.{◌∙◌, ◌-◌, refl, sym, ap, arith, set}
use Rattle.branch_answer.specs.KeptHolding.{stronger}
use Rattle.branch_answer.proofs.Marks.{marked-outside, marked-set}
use Rattle.branch_answer.proofs.holdings.Holdings.mark_one.Goals as goal

pub returns-then-rev-self : goal.returns-then-rev-self
returns-then-rev-self c =
    let old = c.args.self.now in
    record { first = refl; how = sym (marked-outside old.how.items old.first c.args.rev c.args.how (λ from below. omega (arith, from, c.if-rev-self.true))) }

pub returns-then-index-len : goal.returns-then-index-len
returns-then-index-len c =
    let old = c.args.self.now in
    let index = c.args.rev - old.first in
    record {
      first = refl;
      how = ap (set old.how.items index) (c.or_stronger.ensures ∙ ap (λ one. stronger one c.args.how) c.index.ensures)
          ∙ sym (marked-set old.how.items old.first index c.args.rev c.args.how c.index.result.now (omega (arith, c.if-rev-self.false)) (omega (arith, c.if-index-len.true, c.len.ensures, old.how.ok.0)));
    }

pub returns-else-index-len : goal.returns-else-index-len
returns-else-index-len c =
    let old = c.args.self.now in
    record { first = refl; how = sym (marked-outside old.how.items old.first c.args.rev c.args.how (λ from below. omega (arith, from, below, c.if-index-len.false, c.len.ensures, old.how.ok.0))) }
