use Rattle.live_history.proofs.Common.{sym, subst, err_from_is_err_and, history_in_bytes, IsPausedAt, IsLawfulDump}
use Rattle.svn_report.proofs.Fronts.{IsDumpErrorFrom-end}
use Rattle.live_history.proofs.Histories.{IsNoHistory-dump, IsNoHistory-load}
use Rattle.live_history.proofs.history.History.read.Goals as goal

pub returns-in_err-feed-clause-error : goal.returns-in_err-feed-clause-error
returns-in_err-feed-clause-error g c =
    let told = err_from_is_err_and c.from_residual.result c.from_residual.ensures.1 in
    rw (told.1, told.2) (IsNoHistory-dump (g.D.Pull.state c.args.dump.now) (g.D.Pull.state c.feed_from.new.input) _ c.in_err-feed.ensures.error)

pub returns-in_err-dump-clause-error : goal.returns-in_err-dump-clause-error
returns-in_err-dump-clause-error g c =
    let told = err_from_is_err_and c.from_residual-in_err-dump.result c.from_residual-in_err-dump.ensures.1 in
    let read = c.in_ok-feed.ensures.ok in
    let old = g.D.Pull.state c.args.dump.now in
    let new = g.D.Pull.state c.feed_from.new.input in
    rw (told.1, told.2) (IsNoHistory-dump old new _ (IsDumpErrorFrom-end old new read.bytes c.in_err-dump.field-0.0 read.all read.undecided (c.in_err-dump.ensures.refused read.bytes read.read)))

pub returns-in_err-repo-clause-error : goal.returns-in_err-repo-clause-error
returns-in_err-repo-clause-error g c =
    let told = err_from_is_err_and c.from_residual-in_err-repo.result c.from_residual-in_err-repo.ensures.1 in
    let read = c.in_ok-feed.ensures.ok in
    rw (told.1, told.2) (IsNoHistory-load (g.D.Pull.state c.args.dump.now) (g.D.Pull.state c.feed_from.new.input) read.bytes c.in_ok-dump.dump c.in_err-repo.field-0.0
    read.all (c.in_ok-dump.ensures.ok read.bytes read.read) c.in_err-repo.ensures.faulty)

pub returns-clause-ok : goal.returns-clause-ok
returns-clause-ok g c =
    let read = c.in_ok-feed.ensures.ok in
    let same = sym c.in_ok-repo.ensures.repo in
    record {
      bytes = read.bytes;
      all = read.all;
      is = record {
        dump = subst (λ repo. IsLawfulDump read.bytes (history_in_bytes repo)) same (record { read = c.in_ok-dump.ensures.ok read.bytes read.read; lawful = c.in_ok-repo.ensures.lawful });
        paused = subst (λ repo. IsPausedAt c.in_ok-dump.paused repo read.bytes) same (c.in_ok-dump.ensures.paused read.bytes read.read);
      };
    }
