use Rattle.query_answer.proofs.Common.{refl, peg_view, trees_in_bytes, history_in_bytes}
use Rattle.query_answer.specs.declared.status.Status.TheVariants as status
use Rattle.query_answer.proofs.AnswerTexts.{IsAnswer-Refused, answer_of-bad, answer_of-locate, answer_of-segments, answer_of-log, answer_of-mergeinfo, answer_of-merged, answer_of-eligible}
use Rattle.query_answer.proofs.WorkersSeen.{Reads-nothing, Reads-refused}
use Rattle.query_answer.proofs.verbs.answer_verb.Goals as goal

pub returns-in-Bad : goal.returns-in-Bad
returns-in-Bad c =
    let dump = c.args.repo.now in
    record {
      answer = rw c.in-Bad.is (IsAnswer-Refused dump.names _ status.BadQuery (answer_of-bad (history_in_bytes dump) (trees_in_bytes dump)));
      worker = Reads-refused dump c.args.memo.now _ c.args.seen.now c.requires.seen status.BadQuery refl;
    }

pub returns-in-Locate : goal.returns-in-Locate
returns-in-Locate c =
    let dump = c.args.repo.now in
    record {
      answer = rw (c.in-Locate.is, answer_of-locate (history_in_bytes dump) (trees_in_bytes dump) (peg_view c.in-Locate.of) c.in-Locate.rev) c.answer_locate.ensures;
      worker = rw c.in-Locate.is (Reads-nothing dump c.args.memo.now _ c.args.seen.now c.requires.seen c.answer_locate.result refl);
    }

pub returns-in-Segments : goal.returns-in-Segments
returns-in-Segments c =
    let dump = c.args.repo.now in
    record {
      answer = rw (c.in-Segments.is, answer_of-segments (history_in_bytes dump) (trees_in_bytes dump) (peg_view c.in-Segments.of)) c.answer_segments.ensures;
      worker = rw c.in-Segments.is (Reads-nothing dump c.args.memo.now _ c.args.seen.now c.requires.seen c.answer_segments.result refl);
    }

pub returns-in-Log : goal.returns-in-Log
returns-in-Log c =
    let dump = c.args.repo.now in
    record {
      answer = rw (c.in-Log.is, answer_of-log (history_in_bytes dump) (trees_in_bytes dump) (peg_view c.in-Log.of) c.in-Log.range) c.answer_log.ensures;
      worker = rw c.in-Log.is (Reads-nothing dump c.args.memo.now _ c.args.seen.now c.requires.seen c.answer_log.result refl);
    }

pub returns-in-Mergeinfo : goal.returns-in-Mergeinfo
returns-in-Mergeinfo c =
    let dump = c.args.repo.now in
    rw (c.in-Mergeinfo.is, answer_of-mergeinfo (history_in_bytes dump) (trees_in_bytes dump) (peg_view c.in-Mergeinfo.of)) c.answer_mergeinfo.ensures

pub returns-in-Merged : goal.returns-in-Merged
returns-in-Merged c =
    let dump = c.args.repo.now in
    rw (c.in-Merged.is, answer_of-merged (history_in_bytes dump) (trees_in_bytes dump) (peg_view c.in-Merged.of) (peg_view c.in-Merged.target) c.in-Merged.range) c.answer_pair.ensures

pub returns-in-Eligible : goal.returns-in-Eligible
returns-in-Eligible c =
    let dump = c.args.repo.now in
    rw (c.in-Eligible.is, answer_of-eligible (history_in_bytes dump) (trees_in_bytes dump) (peg_view c.in-Eligible.of) (peg_view c.in-Eligible.target) c.in-Eligible.range) c.answer_pair-in-Eligible.ensures
