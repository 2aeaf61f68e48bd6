use Rattle.svn_report.proofs.Common.{rules, err_from_is_err_and}
use Rattle.svn_report.proofs.Fronts.{Consumes-piece, IsDumpErrorFrom-piece, IsFrontRead-more}
use Rattle.svn_report.proofs.pieces.feed_from.Goals as goal

pub returns-in_err-feed-in-Ok-clause-error : goal.returns-in_err-feed-in-Ok-clause-error
returns-in_err-feed-in-Ok-clause-error g c =
    let told = err_from_is_err_and c.from_residual-in_err-feed-in-Ok.result c.from_residual-in_err-feed-in-Ok.ensures.1 in
    rw (told.1, told.2) (IsDumpErrorFrom-piece (g.P.Pull.state c.args.input.now) (g.P.Pull.state c.loop.input) (g.P.Pull.state c.pull.new.self)
    c.loop.feed c.loop.invariant.front _
    (rw (c.deref.ensures.value) (Consumes-piece _ _ c.in-Ok.n c.loop.piece.len c.pull.new.slice _ c.in-Ok.ensures.bound (search rules) c.in-Ok.ensures.bytes.0))
    _ c.in_err-feed-in-Ok.ensures.decided (search rules) (search rules) (search rules))

pub loop-preserved : goal.loop-preserved
loop-preserved g c = record {
  front = IsFrontRead-more (g.P.Pull.state c.args.input.now) (g.P.Pull.state c.loop.input) (g.P.Pull.state c.pull.new.self)
      c.loop.feed c.loop.invariant.front _
      (rw (c.deref.ensures.value) (Consumes-piece _ _ c.in-Ok.n c.loop.piece.len c.pull.new.slice _ c.in-Ok.ensures.bound (search rules) c.in-Ok.ensures.bytes.0))
      c.feed-in-Ok.new.self c.feed-in-Ok.ensures.read c.in_ok-feed-in-Ok.ensures.undecided;
  calls = search rules;
  failures = search rules;
  ends = search rules;
  count = search rules;
  going = c.in_ok-feed-in-Ok.ensures.ok;
  room = search rules;
}

pub returns-in-Ok-eq0-clause-ok : goal.returns-in-Ok-eq0-clause-ok
returns-in-Ok-eq0-clause-ok g c =
    let read = c.loop.invariant.front in
    record {
      bytes = read.front;
      all = search (rules, read.given, c.loop.invariant.ends, c.in-Ok-eq0.ensures.bytes, c.in-Ok-eq0.ensures.ends, c.in-Ok-eq0.ensures.failed);
      read = read.read;
      undecided = read.undecided;
      going = c.loop.invariant.going;
      few = search rules;
    }
