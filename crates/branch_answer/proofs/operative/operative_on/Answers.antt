use Rattle.std.proofs.Common.{Some, subst, sym}
use Rattle.branch_answer.proofs.LivesFound.{bound-before}
use Rattle.branch_answer.proofs.OperativeFound.{AreFound, AreFound-gone, AreFound-more, AreFound-none, AreFound-start, IsKnownPath-left, IsThereIn-newest}
use Rattle.branch_answer.proofs.operative.operative_on.Goals.{in-Some+in_ok-last+in_default-2, in_default}
use Rattle.branch_answer.proofs.operative.operative_on.Goals as goal

pub spans-init : goal.spans-init
spans-init c = subst (λ revs. AreFound c.args.repo.now c.args.path.now c.args.lo c.args.hi revs (Some c.args.hi)) (sym c.new-revs.ensures.items)
    (AreFound-start c.args.repo.now c.args.path.now c.args.lo c.args.hi c.requires.known)

pub newest_with-requires : goal.newest_with-requires
newest_with-requires c =
    let found = subst (AreFound c.args.repo.now c.args.path.now c.args.lo c.args.hi c.spans.revs.items) c.in-Some.is c.spans.invariant in
    IsKnownPath-left c.args.repo.now c.args.path.now c.args.lo c.args.hi c.spans.revs.items c.in-Some.rev found

pub push_span-requires-clause-there : goal.push_span-requires-clause-there
push_span-requires-clause-there c =
    let found = subst (AreFound c.args.repo.now c.args.path.now c.args.lo c.args.hi c.spans.revs.items) c.in-Some.is c.spans.invariant in
    IsThereIn-newest c.args.repo.now c.args.path.now c.args.lo c.args.hi c.spans.revs.items c.in-Some.rev found c.in-Some-2.last
    (rw c.in-Some-2.is at c.in_ok-last.ensures).1

pub spans-preserved : goal.spans-preserved
spans-preserved c =
    let found = subst (AreFound c.args.repo.now c.args.path.now c.args.lo c.args.hi c.spans.revs.items) c.in-Some.is c.spans.invariant in
    AreFound-more c.args.repo.now c.args.path.now c.args.lo c.args.hi c.spans.revs.items c.in-Some.rev found c.in-Some-2.last c.in_ok-first.first
    c.push_span.new.revs.items c.checked_sub-from.result (rw c.in-Some-2.is at c.in_ok-last.ensures).1 c.in_ok-first.ensures
    (bound-before c.in_ok-first.first c.checked_sub-from.result c.checked_sub-from.ensures)

pub returns : goal.returns
returns c = elim c.match-from.branch [
  | in-Some+in_ok-last+in_default-2 w ↦
      AreFound-gone c.args.repo.now c.args.path.now c.args.lo c.args.hi c.spans.revs.items w.in-Some.rev
      (subst (AreFound c.args.repo.now c.args.path.now c.args.lo c.args.hi c.spans.revs.items) w.in-Some.is c.spans.invariant) (rw w.in_default-2.is at w.in_ok-last.ensures)
  | in_default w ↦
      AreFound-none c.args.repo.now c.args.path.now c.args.lo c.args.hi c.spans.revs.items
      (subst (AreFound c.args.repo.now c.args.path.now c.args.lo c.args.hi c.spans.revs.items) w.in_default.is c.spans.invariant)
]
