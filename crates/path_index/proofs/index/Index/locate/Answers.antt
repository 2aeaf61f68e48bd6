use Rattle.path_index.proofs.Common.{Some, IfSome, refl, sym, ap, subst, ◌∙◌, location, same_name, trees_to, IsThere, Origin, location_before}
use Rattle.path_index.proofs.Traces.{IsTraced, location_past, location_before-Some}
use Rattle.path_index.proofs.index.Index.locate.Goals as goal

pub loop-at-init : goal.loop-at-init
loop-at-init c =
    let records = c.args.self.now.records in
    subst (λ here. IsTraced c.args.rev (location same_name (trees_to records c.args.peg) c.args.path.now c.args.peg c.args.rev) records here c.args.peg)
    (sym c.in_ok-here.ensures) (record { there = c.requires.there; finds = refl })

pub span_up_to-requires-clause-there : goal.span_up_to-requires-clause-there
span_up_to-requires-clause-there c = c.loop-at.invariant.there

pub returns-then-lo-rev-clause-exact : goal.returns-then-lo-rev-clause-exact
returns-then-lo-rev-clause-exact c =
    ap Some refl ∙ sym (c.in_ok-lo.ensures.stays c.args.rev c.if-lo-rev.true c.loop-at-test.true) ∙ c.loop-at.invariant.finds

pub returns-in_default-clause-exact : goal.returns-in_default-clause-exact
returns-in_default-clause-exact c =
    sym (c.in_ok-lo.ensures.back c.args.rev c.if-lo-rev.false ∙ ap (location_before c.args.self.now.records c.args.rev) c.in_default.is) ∙ c.loop-at.invariant.finds

pub loop-at-preserved : goal.loop-at-preserved
loop-at-preserved c =
    let records = c.args.self.now.records in
    record {
      there = subst (λ o. IfSome o (λ (origin : Origin). IsThere records origin.path origin.rev)) c.in-Some.is c.in_ok-lo.ensures.there;
      finds = sym (c.in_ok-lo.ensures.back c.args.rev c.if-lo-rev.false ∙ location_before-Some records c.args.rev c.in_ok-lo.field-0.origin c.in-Some.origin c.in-Some.is) ∙ c.loop-at.invariant.finds;
    }

pub returns-clause-exact : goal.returns-clause-exact
returns-clause-exact c =
    sym (location_past c.args.self.now.records c.loop-at.here c.loop-at.at c.args.rev c.loop-at-test.false) ∙ c.loop-at.invariant.finds

pub returns-then-lo-rev-clause-above_peg : goal.returns-then-lo-rev-clause-above_peg
returns-then-lo-rev-clause-above_peg c =
    λ above. returns-then-lo-rev-clause-exact c ∙ location_past c.args.self.now.records c.args.path.now c.args.peg c.args.rev above

pub returns-in_default-clause-above_peg : goal.returns-in_default-clause-above_peg
returns-in_default-clause-above_peg c =
    λ above. returns-in_default-clause-exact c ∙ location_past c.args.self.now.records c.args.path.now c.args.peg c.args.rev above

pub returns-clause-above_peg : goal.returns-clause-above_peg
returns-clause-above_peg c =
    λ above. returns-clause-exact c ∙ location_past c.args.self.now.records c.args.path.now c.args.peg c.args.rev above
