use Rattle.std.proofs.Common.{◌≡◌, ◌+◌, [], ◌∷◌, ◌++◌, ◌∙◌, ap, arith, length, map, subst, sym, take}
use Rattle.std.proofs.lemmas.List.{length-map, length-take-le, map_more, take_all}
use Rattle.branch_answer.specs.Explicit.{ExplicitTexts}
use Rattle.branch_answer.specs.HeldRevisions.{below_mark, text_mark}
use Rattle.branch_answer.specs.KeptExplicit.{HasOwnText, explicit_text}
use Rattle.branch_answer.specs.KeptHolding.{stronger}
use Rattle.branch_answer.specs.declared.holding.Holding.TheVariants.{Below, Not}
use Rattle.branch_answer.proofs.HeldBelow.{below_mark-nil, below_mark-push}
use Rattle.branch_answer.proofs.Marks.{AreMarked-none, AreMarked-same, AreMarked-then}
use Rattle.branch_answer.proofs.OperativesKept.{AreOperativesFor-before, AreOperativesFor-marked}
use Rattle.branch_answer.proofs.held_revisions.mark_all_below.Goals as goal

pub loop-index-init : goal.loop-index-init
loop-index-init c =
    let old = c.args.holdings.now in
    record {
      seen = c.requires.seen;
      operatives = c.requires.operatives;
      marked = AreMarked-same old old (λ _. Not) (below_mark c.args.repo.now 0 []) (AreMarked-none old) (λ each among. sym (below_mark-nil c.args.repo.now 0 each));
    }

pub mark_below-requires-clause-own : goal.mark_below-requires-clause-own
mark_below-requires-clause-own c =
    subst (HasOwnText c.args.repo.now c.args.rev) (sym c.index-below-index.is) (c.requires.own c.loop-index.index c.index-below-index.result c.loop-index-test.true)

pub mark_below-requires-clause-operatives : goal.mark_below-requires-clause-operatives
mark_below-requires-clause-operatives c =
    AreOperativesFor-marked c.args.repo.now c.args.holdings.now c.loop-index.holdings
    (below_mark c.args.repo.now 0 (map (explicit_text c.args.repo.now c.args.rev) (take c.loop-index.index c.args.below.now)))
    c.loop-index.operatives c.loop-index.invariant.marked c.loop-index.invariant.operatives

pub loop-index-preserved : goal.loop-index-preserved
loop-index-preserved c =
    let dump = c.args.repo.now in
    let old = c.args.holdings.now in
    let below = c.args.below.now in
    let i = c.loop-index.index in
    let path = c.index-below-index.result in
    let explicit = explicit_text dump c.args.rev in
    let before : ExplicitTexts = map explicit (take i below) in
    let more : map explicit (take (i + 1) below) ≡ before ++ explicit path ∷ [] =
    map_more explicit below i path c.loop-index-test.true ∙ ap (λ one. before ++ explicit one ∷ []) (sym c.index-below-index.is) in
    let last : c.in-Ok.index ≡ 0 + length before =
    omega (arith, c.in-Ok.ensures.1, length-map (take i below) explicit, length-take-le i below (omega (arith, c.loop-index-test.true))) in
    record {
      seen = c.in_ok-mark_below.ensures.seen;
      operatives = AreOperativesFor-before dump old c.loop-index.holdings (below_mark dump 0 before) c.mark_below.new.operatives c.loop-index.invariant.marked
          c.in_ok-mark_below.ensures.operatives;
      marked = AreMarked-same old c.mark_below.new.holdings
          (λ each. stronger (below_mark dump 0 before each) (text_mark dump (Below c.in-Ok.index) (explicit path).1 each)) (below_mark dump 0 (map explicit (take (i + 1) below)))
          (AreMarked-then old c.loop-index.holdings c.mark_below.new.holdings (below_mark dump 0 before) (text_mark dump (Below c.in-Ok.index) (explicit path).1)
          c.loop-index.invariant.marked c.in_ok-mark_below.ensures.marked)
          (λ each among. below_mark-push dump 0 before (explicit path) c.in-Ok.index each last ∙ ap (λ texts. below_mark dump 0 texts each) (sym more));
    }

pub returns-in_err-mark_below-clause-operatives : goal.returns-in_err-mark_below-clause-operatives
returns-in_err-mark_below-clause-operatives c =
    AreOperativesFor-before c.args.repo.now c.args.holdings.now c.loop-index.holdings
    (below_mark c.args.repo.now 0 (map (explicit_text c.args.repo.now c.args.rev) (take c.loop-index.index c.args.below.now)))
    c.mark_below.new.operatives c.loop-index.invariant.marked c.in_err-mark_below.ensures.operatives

pub returns-clause-marked : goal.returns-clause-marked
returns-clause-marked c =
    let dump = c.args.repo.now in
    let explicit = explicit_text dump c.args.rev in
    let below = c.args.below.now in
    let i = c.loop-index.index in
    AreMarked-same c.args.holdings.now c.loop-index.holdings (below_mark dump 0 (map explicit (take i below))) (below_mark dump 0 (map explicit below)) c.loop-index.invariant.marked
    (λ each among. ap (λ paths. below_mark dump 0 (map explicit paths) each) (take_all i below c.loop-index-test.false))
