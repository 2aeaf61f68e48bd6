use Rattle.std.proofs.Common.{Some, refl, subst}
use Rattle.std.specs.BTreeMap as map
use Rattle.std.specs.Cmp.Lexicographic.{slice_cmp}
use Rattle.svn_path.specs.PathOrder.{name_cmp}
use Rattle.branch_answer.proofs.OperativesKept.{AreOperativesOf-insert}
use Rattle.branch_answer.proofs.operatives.Operatives.look_up.Goals as goal

pub returns-in_ok-insert-clause-kept : goal.returns-in_ok-insert-clause-kept
returns-in_ok-insert-clause-kept c =
    let old = c.args.self.now in
    let revs = c.in_ok-revs.revs in
    AreOperativesOf-insert c.args.repo.now old (record { range = old.range; by_path = c.insert.new.self }) refl c.args.path.now revs c.requires.kept
    (subst (λ path. map.Updates (slice_cmp name_cmp) old.by_path c.insert.new.self path (Some revs)) c.in_ok-dup.ensures c.in_ok-insert.ensures.updates)
    c.in_ok-revs.ensures
