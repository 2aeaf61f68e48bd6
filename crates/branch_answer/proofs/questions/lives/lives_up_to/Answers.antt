use Rattle.std.proofs.Common.{Some, arith, subst, sym}
use Rattle.branch_answer.proofs.LivesFound.{AreFound, AreFound-gone, AreFound-more, AreFound-none, AreFound-start, IsLastOfLife-newest, bound-before}
use Rattle.branch_answer.proofs.questions.lives.lives_up_to.Goals.{in-Some+in_ok-last+in_default-2, in_default}
use Rattle.branch_answer.proofs.questions.lives.lives_up_to.Goals as goal

pub lives-init : goal.lives-init
lives-init c = subst (λ lives. AreFound c.args.repo.now c.args.path.now c.args.top lives (Some c.args.top)) (sym c.new-lives.ensures.items)
    (AreFound-start c.args.repo.now c.args.path.now c.args.top c.requires)

pub life_up_to-requires : goal.life_up_to-requires
life_up_to-requires c =
    let found = subst (AreFound c.args.repo.now c.args.path.now c.args.top c.lives.lives.items) c.in-Some.is c.lives.invariant in
    IsLastOfLife-newest c.args.repo.now c.args.path.now c.args.top c.lives.lives.items c.in-Some.rev found c.in-Some-2.last (rw c.in-Some-2.is at c.in_ok-last.ensures).1

pub lives-preserved : goal.lives-preserved
lives-preserved c =
    let found = subst (AreFound c.args.repo.now c.args.path.now c.args.top c.lives.lives.items) c.in-Some.is c.lives.invariant in
    subst (λ lives. AreFound c.args.repo.now c.args.path.now c.args.top lives c.checked_sub-from.result) (sym c.in_ok-push.ensures.items)
    (AreFound-more c.args.repo.now c.args.path.now c.args.top c.lives.lives.items c.in-Some.rev found c.in-Some-2.last (rw c.in-Some-2.is at c.in_ok-last.ensures).1
    c.in_ok-life.life c.checked_sub-from.result c.in_ok-life.ensures (bound-before c.in_ok-life.life.first c.checked_sub-from.result c.checked_sub-from.ensures))

pub returns-clause-exact : goal.returns-clause-exact
returns-clause-exact c = elim c.match-from.branch [
  | in-Some+in_ok-last+in_default-2 w ↦
      AreFound-gone c.args.repo.now c.args.path.now c.args.top c.lives.lives.items w.in-Some.rev
      (subst (AreFound c.args.repo.now c.args.path.now c.args.top c.lives.lives.items) w.in-Some.is c.lives.invariant) (λ each. (rw w.in_default-2.is at w.in_ok-last.ensures) each (omega arith))
  | in_default w ↦
      AreFound-none c.args.repo.now c.args.path.now c.args.top c.lives.lives.items
      (subst (AreFound c.args.repo.now c.args.path.now c.args.top c.lives.lives.items) w.in_default.is c.lives.invariant)
]
