use Rattle.std.proofs.Common.{◌≡◌, ◌∙◌, ◌≤◌, arith, false, inl, inr, subst, sym}
use Rattle.std.proofs.lemmas.Bool.{cases_lt}
use Rattle.branch_answer.specs.Presence.{is_present}
use Rattle.branch_answer.proofs.Keeping.{before_without, keeps_later}
use Rattle.branch_answer.proofs.Revisions.{gone_through, stays_gone}
use Rattle.branch_answer.proofs.presence.newest_with.Goals as goal

pub last_with-requires : goal.last_with-requires
last_with-requires c =
    let dump = c.args.repo.now in
    let path = c.args.path.now in
    let set = c.max-set.result in
    let at = c.revisions.at in
    let low : set ≤ at = omega (arith, c.max-set.ensures, c.last_set.ensures.exact.within, c.revisions-test.true) in
    let there = sym c.in_ok-is_there-2.ensures ∙ c.if-branch-2.true in
    let none = sym c.in_ok-is_there.ensures ∙ c.if-branch.false in
    record {
      known = record { kept = c.requires.kept; of_names = c.requires.of_names; within = omega (arith, c.revisions.invariant.within, c.requires.within) };
      ordered = before_without dump path set at low there none;
      there = there;
      not_there = none;
      keeps = keeps_later dump path c.last_set.result set at (omega (arith, c.max-set.ensures)) c.last_set.ensures.kept;
    }

pub returns-then-branch-2 : goal.returns-then-branch-2
returns-then-branch-2 c =
    let found = c.in_ok-last_with.ensures in
    let so = c.revisions.invariant in (
      omega (arith, found.within, c.max-set.ensures),
      record {
        within = omega (arith, found.newest.within, so.within);
        there = found.newest.there;
        gone = gone_through c.args.repo.now c.args.path.now c.in_ok-last_with.field-0 c.revisions.at c.args.rev found.newest.gone so.gone;
      },
    )

pub returns-then-set-eq0 : goal.returns-then-set-eq0
returns-then-set-eq0 c each low below =
    let dump = c.args.repo.now in
    let path = c.args.path.now in
    let set = c.max-set.result in
    let none = sym c.in_ok-is_there-2.ensures ∙ c.if-branch-2.false in
    let keeps = keeps_later dump path c.last_set.result set c.revisions.at (omega (arith, c.max-set.ensures)) c.last_set.ensures.kept in
    let gone = gone_through dump path set c.revisions.at c.args.rev (stays_gone dump path set c.revisions.at keeps set (omega arith) none) c.revisions.invariant.gone in
    elim (cases_lt set each) [
      | inl later ↦ gone each later below
      | inr early ↦ let same : set ≡ each = omega (arith, early, c.if-set-eq0.true) in subst (λ rev. is_present dump path rev ≡ false) same none
    ]

pub revisions-preserved : goal.revisions-preserved
revisions-preserved c =
    let dump = c.args.repo.now in
    let path = c.args.path.now in
    let set = c.max-set.result in
    let none = sym c.in_ok-is_there-2.ensures ∙ c.if-branch-2.false in
    let keeps = keeps_later dump path c.last_set.result set c.revisions.at (omega (arith, c.max-set.ensures)) c.last_set.ensures.kept in
    let gone = gone_through dump path set c.revisions.at c.args.rev (stays_gone dump path set c.revisions.at keeps set (omega arith) none) c.revisions.invariant.gone in
    record {
      within = omega (arith, c.max-set.ensures, c.last_set.ensures.exact.within, c.revisions-test.true, c.revisions.invariant.within);
      gone = λ each after below. elim (cases_lt set each) [
        | inl later ↦ gone each later below
        | inr early ↦ let same : set ≡ each = omega (arith, early, after) in subst (λ rev. is_present dump path rev ≡ false) same none
      ];
    }

pub returns : goal.returns
returns c each low below = c.revisions.invariant.gone each (omega (arith, low, c.revisions-test.false)) below
