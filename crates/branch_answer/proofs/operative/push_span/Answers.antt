use Rattle.std.proofs.Common.{◌∙◌, append-nil, arith, false, sym, true}
use Rattle.branch_answer.proofs.OperativeFound.{AddsFrom-set, IsThereIn-set}
use Rattle.branch_answer.proofs.operative.push_span.Goals as goal

pub is_operative_at-requires : goal.is_operative_at-requires
is_operative_at-requires c =
    IsThereIn-set c.args.repo.now c.args.path.now c.last_set-set.result c.args.last
    (record { there = c.requires.there; keeps = c.last_set-set.ensures.kept }) c.last_set-set.ensures.exact.within

pub returns-in_ok-push : goal.returns-in_ok-push
returns-in_ok-push c =
    AddsFrom-set c.args.repo.now c.args.path.now c.args.lo c.last_set-set.result c.args.last c.args.revs.now.items c.push_named-2.new.revs.items
    c.push.new.self.items true (omega (arith, c.if-set-lo.false)) c.last_set-set.ensures.exact.within c.in_ok-push_named-2.ensures
    (sym c.if-branch.true ∙ c.in_ok-is_operative_at.ensures) c.in_ok-push.ensures.items

pub returns-else-branch : goal.returns-else-branch
returns-else-branch c =
    AddsFrom-set c.args.repo.now c.args.path.now c.args.lo c.last_set-set.result c.args.last c.args.revs.now.items c.push_named-2.new.revs.items
    c.push_named-2.new.revs.items false (omega (arith, c.if-set-lo.false)) c.last_set-set.ensures.exact.within c.in_ok-push_named-2.ensures
    (sym c.if-branch.false ∙ c.in_ok-is_operative_at.ensures) (sym (append-nil c.push_named-2.new.revs.items))
