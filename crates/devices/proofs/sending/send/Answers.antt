use Rattle.std.proofs.Common.{arith}
use Rattle.std.proofs.lemmas.List.{take_rest}
use Rattle.std.proofs.KnownBytes.{Appends-trans}
use lib.Seq.{take-add}
use Rattle.devices.proofs.sending.send.Goals as goal

pub loop-sent-preserved : goal.loop-sent-preserved
loop-sent-preserved g c = record {
  within = omega (arith, c.in-Ok.ensures.bound);
  gone = rw (take-add c.loop-sent.sent c.in-Ok.n c.args.bytes.now) (Appends-trans _ _ _ _ _ c.loop-sent.invariant.gone (rw take_rest at c.in-Ok.ensures.bytes));
  called = omega (arith, c.in-Ok.ensures.counted);
  failures = omega (arith, c.in-Ok.ensures.failures);
}
