use Rattle.std.proofs.Common.{◌≡◌, [], ◌∙◌, arith, subst, sym}
use Rattle.std.proofs.lemmas.Bool.{not-false, not-true}
use Rattle.std.proofs.lemmas.List.{nil_from_length}
use Rattle.branch_answer.proofs.PathsBelow.{AreBelowOf, AreBelowOf-all, AreBelowOf-push, AreBelowOf-skip, AreBelowOf-start}
use Rattle.branch_answer.proofs.held_revisions.paths_below.Goals as goal

pub loop-path-init : goal.loop-path-init
loop-path-init c =
    let dump = c.args.repo.now in
    let at = c.args.at.now in
    let paths = c.in_ok-path-items.path-items.items in
    subst (λ left. AreBelowOf dump at [] left c.new-below.result.items) (sym c.into_iter-path-iterator.ensures.into_iter_gives.0)
    (subst (λ below. AreBelowOf dump at [] paths below) (sym c.new-below.ensures.items) (AreBelowOf-start dump c.requires.kept at c.requires.of_names paths c.in_ok-path-items.ensures))

pub loop-path-preserved-in-Continue-branch-2 : goal.loop-path-preserved-in-Continue-branch-2
loop-path-preserved-in-Continue-branch-2 c =
    let dump = c.args.repo.now in
    let at = c.args.at.now in
    let done = c.loop-path.yielded in
    let left = c.next.new.self.rest.items in
    let below = c.loop-path.below.items in
    let so = subst (λ all. AreBelowOf dump at done all below) c.in-Some.ensures.steps.0 c.loop-path.invariant in
    subst (AreBelowOf dump at _ left) (sym c.in_ok-push.ensures.items)
    (AreBelowOf-push dump c.requires.kept at c.requires.of_names done left below c.in-Some.path so (not-true _ (sym c.ne.ensures ∙ c.if-ne.true)))

pub loop-path-preserved-else-ne : goal.loop-path-preserved-else-ne
loop-path-preserved-else-ne c =
    let dump = c.args.repo.now in
    let at = c.args.at.now in
    let done = c.loop-path.yielded in
    let left = c.next.new.self.rest.items in
    let below = c.loop-path.below.items in
    let so = subst (λ all. AreBelowOf dump at done all below) c.in-Some.ensures.steps.0 c.loop-path.invariant in
    AreBelowOf-skip dump c.requires.kept at c.requires.of_names done left below c.in-Some.path so (not-false _ (sym c.ne.ensures ∙ c.if-ne.false))

pub loop-path-preserved : goal.loop-path-preserved
loop-path-preserved c =
    let dump = c.args.repo.now in
    let at = c.args.at.now in
    let done = c.loop-path.yielded in
    let left = c.next.new.self.rest.items in
    let below = c.loop-path.below.items in
    let so = subst (λ all. AreBelowOf dump at done all below) c.in-Some.ensures.steps.0 c.loop-path.invariant in
    AreBelowOf-skip dump c.requires.kept at c.requires.of_names done left below c.in-Some.path so (not-false _ (sym c.ne.ensures ∙ c.if-ne.false))

pub returns : goal.returns
returns c =
    let dump = c.args.repo.now in
    let at = c.args.at.now in
    let done = c.loop-path.yielded in
    let below = c.loop-path.below.items in
    let rest = c.loop-path.path-iterator.rest in
    let none : rest.items ≡ [] = nil_from_length rest.items (omega (arith, c.in-None.ensures.steps.0, rest.ok.0)) in
    AreBelowOf-all dump c.requires.kept at c.requires.of_names done below (subst (λ all. AreBelowOf dump at done all below) none c.loop-path.invariant)
