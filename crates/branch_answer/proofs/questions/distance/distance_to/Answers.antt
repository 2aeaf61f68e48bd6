use Rattle.std.proofs.Common.{arith, subst, sym}
use Rattle.std.proofs.lemmas.Result.{err_from_is_err_and}
use Rattle.branch_answer.specs.KeptNew.{IsHeldBy}
use Rattle.branch_answer.specs.KeptOperatives.{AreOperativesIn}
use Rattle.branch_answer.proofs.DistanceTold.{length-all, length-counts, target-bad, target-distance, target-refused}
use Rattle.branch_answer.proofs.questions.distance.distance_to.Goals as goal

pub returns-in_default-clause-refused : goal.returns-in_default-clause-refused
returns-in_default-clause-refused c = target-bad c.args.repo.now c.args.one.now c.args.counted.now c.args.field.now c.in_default.ensures

pub returns-in_err-other-clause-refused : goal.returns-in_err-other-clause-refused
returns-in_err-other-clause-refused c =
    let told = err_from_is_err_and c.from_residual.result c.from_residual.ensures.1 in
    rw (told.1, told.2) (target-refused c.args.repo.now c.args.one.now c.args.counted.now c.args.field.now c.in-Some.peg c.in-Some.ensures c.in_err-other.field-0.0 c.in_err-other.ensures.refused)

pub find-requires-clause-operatives : goal.find-requires-clause-operatives
find-requires-clause-operatives c =
    subst (λ range. AreOperativesIn c.args.repo.now range c.args.operatives.now) (sym c.all_revisions.ensures) c.requires.operatives

pub returns-in_err-other-clause-operatives : goal.returns-in_err-other-clause-operatives
returns-in_err-other-clause-operatives c =
    subst (λ range. AreOperativesIn c.args.repo.now range c.find.new.operatives) c.all_revisions.ensures c.in_err-other.ensures.operatives

pub returns-clause-operatives : goal.returns-clause-operatives
returns-clause-operatives c =
    subst (λ range. AreOperativesIn c.args.repo.now range c.find.new.operatives) c.all_revisions.ensures c.in_ok-other.ensures.operatives

pub distance-requires-clause-one : goal.distance-requires-clause-one
distance-requires-clause-one c = length-all c.args.repo.now c.args.one.now c.args.counted.now c.requires.one c.requires.counted

pub distance-requires-clause-other : goal.distance-requires-clause-other
distance-requires-clause-other c =
    let dump = c.args.repo.now in
    let held = subst (λ range. IsHeldBy dump c.in-Some.peg range c.in_ok-other.other) c.all_revisions.ensures c.in_ok-other.ensures.held in
    length-all dump c.in_ok-other.other c.args.counted.now held.is c.requires.counted

pub distance-requires-clause-few : goal.distance-requires-clause-few
distance-requires-clause-few c = omega (arith, length-counts c.args.repo.now c.args.counted.now c.requires.counted, c.requires.one.kept.few_revisions)

pub returns-clause-distance : goal.returns-clause-distance
returns-clause-distance c =
    let dump = c.args.repo.now in
    let held = subst (λ range. IsHeldBy dump c.in-Some.peg range c.in_ok-other.other) c.all_revisions.ensures c.in_ok-other.ensures.held in
    target-distance dump c.args.one.now c.args.counted.now c.args.field.now c.in-Some.peg c.in-Some.ensures c.requires.one c.requires.counted
    c.in_ok-other.other held c.distance.result c.distance.ensures.beyond c.distance.ensures.behind
