use Rattle.live_history.proofs.Common.{◌++◌, sym, subst, err_from_is_err_and, IsWholeHistory, history_in_bytes, IsPausedAt, IsLawfulDump}
use Rattle.live_history.proofs.Histories.{IsPieceEnd-load, IsPieceEnd-refused}
use Rattle.live_history.proofs.history.History.grow.Goals as goal

pub resume-feed-requires : goal.resume-feed-requires
resume-feed-requires g c = subst IsWholeHistory (sym c.into_parts-dump.ensures.dump) c.requires.whole

pub returns-in_err-feed_piece-clause-error : goal.returns-in_err-feed_piece-clause-error
returns-in_err-feed_piece-clause-error g c =
    let told = err_from_is_err_and c.from_residual.result c.from_residual.ensures.1 in
    rw (told.1, told.2) (λ before is. c.in_err-feed_piece.ensures.error before
    (c.resume-feed.ensures.read before (subst (λ dump. IsPausedAt c.args.self.paused dump before) (sym c.into_parts-dump.ensures.dump) is.paused)))

pub returns-in_err-dump-clause-error : goal.returns-in_err-dump-clause-error
returns-in_err-dump-clause-error g c =
    let told = err_from_is_err_and c.from_residual-in_err-dump.result c.from_residual-in_err-dump.ensures.1 in
    let fed = c.in_ok-feed_piece.ensures.ok in
    rw (told.1, told.2) (λ before is.
    let read = c.resume-feed.ensures.read before (subst (λ dump. IsPausedAt c.args.self.paused dump before) (sym c.into_parts-dump.ensures.dump) is.paused) in
    IsPieceEnd-refused c.feed_piece.new.ahead (g.C.Client.input c.feed_piece.new.client) fed c.in_ok-feed_piece.ensures.near before c.in_err-dump.field-0.0 read (c.in_err-dump.ensures.refused (before ++ fed.bytes) (fed.read before read)))

pub returns-in_err-repo-clause-error : goal.returns-in_err-repo-clause-error
returns-in_err-repo-clause-error g c =
    let told = err_from_is_err_and c.from_residual-in_err-repo.result c.from_residual-in_err-repo.ensures.1 in
    let fed = c.in_ok-feed_piece.ensures.ok in
    rw (told.1, told.2) (λ before is.
    let read = c.resume-feed.ensures.read before (subst (λ dump. IsPausedAt c.args.self.paused dump before) (sym c.into_parts-dump.ensures.dump) is.paused) in
    IsPieceEnd-load c.feed_piece.new.ahead (g.C.Client.input c.feed_piece.new.client) fed c.in_ok-feed_piece.ensures.near before c.in_ok-dump.dump c.in_err-repo.field-0.0
    (c.in_ok-dump.ensures.ok (before ++ fed.bytes) (fed.read before read)) c.in_err-repo.ensures.faulty)

pub returns-clause-ok : goal.returns-clause-ok
returns-clause-ok g c = λ before is.
    let fed = c.in_ok-feed_piece.ensures.ok in
    let read = c.resume-feed.ensures.read before (subst (λ dump. IsPausedAt c.args.self.paused dump before) (sym c.into_parts-dump.ensures.dump) is.paused) in
    let all = before ++ fed.bytes in
    let same = sym c.in_ok-repo.ensures.repo in
    record {
      bytes = fed.bytes;
      all = fed.all;
      taken = fed.taken;
      is = record {
        dump = subst (λ repo. IsLawfulDump all (history_in_bytes repo)) same (record { read = c.in_ok-dump.ensures.ok all (fed.read before read); lawful = c.in_ok-repo.ensures.lawful });
        paused = subst (λ repo. IsPausedAt c.in_ok-dump.paused repo all) same (c.in_ok-dump.ensures.paused all (fed.read before read));
      };
    }
