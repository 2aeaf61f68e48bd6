use Rattle.std.proofs.Common.{sym, subst}
use Rattle.svn_path.specs.Components.{parts_of}
use Rattle.svn_path.proofs.Reading.{IsRead, IsRead-more}
use Rattle.svn_path.proofs.path.Path.look_up.Goals as goal

pub loop-part-preserved : goal.loop-part-preserved
loop-part-preserved c =
    subst (λ path. IsRead c.args.names.now (parts_of c.args.bytes.now) path (parts_of c.in-Some.more.now)) (sym c.in_ok-push-in-Some-find.ensures.ok)
    (IsRead-more c.loop-part.invariant c.in-Some.ensures.part c.in-Some-find.id c.in-Some-find.ensures.number)
