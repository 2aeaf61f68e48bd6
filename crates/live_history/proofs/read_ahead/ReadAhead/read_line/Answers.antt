use Rattle.live_history.proofs.Common.{arith, inl, refl, rules, stream}
use Rattle.live_history.proofs.Streams.{AreLast-more}
use Rattle.live_history.proofs.Waiting.{IsRepliedUpTo-same}
use Rattle.live_history.proofs.read_ahead.ReadAhead.read_line.Goals as goal

pub read-requires-clause-replied : goal.read-requires-clause-replied
read-requires-clause-replied g c =
    let kept = c.reads.invariant in
    record {
      part = c.reads.self.unread;
      part_is = inl (search (rules, c.line.ensures.none));
      replied = rw (kept.output, kept.first) (IsRepliedUpTo-same c.requires.replied (stream c.reads.self (g.C.Client.input c.reads.client)).come kept.taken.bytes);
    }

pub returns-else-is_empty-clause-error : goal.returns-else-is_empty-clause-error
returns-else-is_empty-clause-error g c =
    let all = AreLast-more c.reads.invariant.taken (c.in_ok-read.ensures.end (search (rules, c.if-branch-eq0.true))) in
    record {
      rest = c.read.new.self.unread;
      read = record { bytes = all.bytes; once = omega (arith, all.ended.ends, all.ended.failures); ends = omega (arith, all.ended.ends); failures = omega (arith, all.ended.failures); few = all.ended.few };
      why = inl (record { is = refl; ended = all.ended; some = search (rules, c.unread.ensures, c.is_empty.ensures, c.if-is_empty.false, c.if-is_empty.ensures); line = rw (c.in_ok-read.ensures.kept (search (rules, c.if-branch-eq0.true))) (search (rules, c.in_default.ensures.none)) });
    }
