-- A history that was read, or that has grown by a piece, and why there is none.
use Rattle.live_history.proofs.Common.{ℕ, ◌≤◌, inl, inr, List, [], ◌++◌, length, refl, sym, ap, append-nil, arith, PullState, DumpValue, history_in_bytes, FeedValue, HasRead, IsDumpErrorFrom, most_bytes, IsFed, IsPieceEnd, ReadAheadValue, stream, IsReadUpTo, Stream, IsNoHistory, Run}
use Rattle.svn_dump.specs.DumpError.{IsRefusal}
use Rattle.svn_dump.specs.DumpText.{IsDumpText}
use Rattle.svn_dump.specs.declared.error.DumpError.{DumpError}
use Rattle.svn_dump.specs.declared.error.DumpError.TheVariants as refusal
use Rattle.svn_report.specs.Load.{IsReadWhole}
use Rattle.svn_report.specs.LoadRepo.{IsLoadError}
use Rattle.svn_report.specs.ReportError.{run_error_of_dump, run_error_of_load}
use Rattle.svn_report.specs.declared.repository.LoadError.{LoadError}
use Rattle.svn_report.specs.declared.repository.LoadError.TheVariants as load
use Rattle.svn_report.specs.declared.run_error.RunError.{RunError}
use Rattle.svn_report.specs.declared.run_error.RunError.TheVariants as run
use Rattle.live_history.proofs.FedPieces.{IsFed-undecided}
use Rattle.live_history.proofs.ReadAheads.{Consumes-unread}
use Rattle.live_history.proofs.Streams.{IsReadUpTo-more}

-- ---- the dump of an input

pub IsNoHistory-dump : (old new : PullState) (error : RunError) → IsDumpErrorFrom old new error → IsNoHistory old new error
IsNoHistory-dump old new run.TooMany why = why
IsNoHistory-dump old new (run.Dump refused) why = why
IsNoHistory-dump old new (run.Fault fault) why = absurd why
IsNoHistory-dump old new (run.Read which) why = why
IsNoHistory-dump old new run.Memory why = tt

pub IsNoHistory-load : (old new : PullState) (bytes : List ℕ) (dump : DumpValue) (error : LoadError) → IsReadWhole old new bytes → IsDumpText bytes (history_in_bytes dump) → IsLoadError dump error
    → IsNoHistory old new (run_error_of_load error)
IsNoHistory-load old new bytes dump (load.Fault fault) all read first = record { dump = bytes; all = all; first = record { history = history_in_bytes dump; read = read; first = first } }
IsNoHistory-load old new bytes dump load.Memory all read first = tt

-- ---- a piece of which all bytes have come

module _ {feed fed : FeedValue} {size : ℕ} {old : Stream} (ahead : ReadAheadValue) (after : PullState) (first : IsFed feed size old (stream ahead after) fed) (near : length ahead.unread ≤ most_bytes) (before : List ℕ) where
  rest_read : IsReadUpTo old after (first.bytes ++ ahead.unread)
  rest_read = IsReadUpTo-more first.taken (record { bytes = Consumes-unread ahead.unread after.left; once = omega arith; ends = omega arith; failures = omega arith; few = omega arith })

  -- its end shows a refusal
  pub IsPieceEnd-refused : (error : DumpError) → HasRead feed before → IsRefusal (before ++ first.bytes) error → IsPieceEnd before size old after (Run (run_error_of_dump error))
  IsPieceEnd-refused (refusal.Refused number at) has refused = record {
    rest = first.bytes ++ ahead.unread;
    read = rest_read;
    why = inl (record {
      front = first.bytes;
      last = [];
      more = ahead.unread;
      number = number;
      at = at;
      is = refl;
      whole = ap (λ front. front ++ ahead.unread) (sym (append-nil first.bytes));
      within = omega (arith, first.all);
      near = omega (arith, near);
      before = IsFed-undecided first before has;
      why = inr (refl, first.all, refused);
    });
  }
  IsPieceEnd-refused refusal.Memory has refused = record { rest = first.bytes ++ ahead.unread; read = rest_read; why = inr (inr (inr (inr refl))) }

  -- it has a faulty record
  pub IsPieceEnd-load : (dump : DumpValue) (error : LoadError) → IsDumpText (before ++ first.bytes) (history_in_bytes dump) → IsLoadError dump error → IsPieceEnd before size old after (Run (run_error_of_load error))
  IsPieceEnd-load dump (load.Fault fault) read faulty = record {
    rest = first.bytes ++ ahead.unread;
    read = rest_read;
    why = inr (inl (record {
      bytes = first.bytes;
      more = ahead.unread;
      fault = fault;
      is = refl;
      whole = refl;
      all = first.all;
      near = near;
      first = record { history = history_in_bytes dump; read = read; first = faulty };
    }));
  }
  IsPieceEnd-load dump load.Memory read faulty = record { rest = first.bytes ++ ahead.unread; read = rest_read; why = inr (inr (inr (inr refl))) }
