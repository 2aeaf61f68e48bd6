-- Bytes of a piece that come to the reader of a dump, after others.
use Rattle.live_history.proofs.Common.{◌≡◌, ◌⊎◌, ℕ, ◌+◌, ◌<◌, ◌≤◌, None, inl, inr, List, [], ◌++◌, length, take, drop, refl, sym, ap, subst, ◌∙◌, append_assoc, append-nil, arith, length-append, take-append-drop, length-take-le, PullState, FeedValue, HasRead, most_bytes, IsFed, IsPieceEnd, IsReadEnd, IsReadNoMore, ReadAheadValue, stream, AreLast, AreTaken, IsReadUpTo, Stream, IsPartOfPiece, IsPieceReason, TalkError, Cut, Run}
use Rattle.svn_dump.specs.Decided.{IsDecidedError, IsUndecided}
use Rattle.svn_dump.specs.Growth.{GrowsTo}
use Rattle.svn_dump.specs.declared.error.DumpError.{DumpError}
use Rattle.svn_dump.specs.declared.error.DumpError.TheVariants as refusal
use Rattle.svn_dump.proofs.Growth.{GrowsTo-twice, GrowsTo_same}
use Rattle.svn_report.specs.ReportError.{run_error_of_dump}
use Rattle.svn_report.specs.declared.run_error.RunError.TheVariants as run
use Rattle.live_history.proofs.ReadAheads.{Consumes-taken, Consumes-unread}
use Rattle.live_history.proofs.Streams.{AreLast-more, AreTaken-more, AreTaken-none, IsReadUpTo-more, IsUnread-more}

-- nothing has come yet
pub IsFed-none : (feed : FeedValue) (none : ℕ) (old : Stream) → none ≡ 0 → feed.error ≡ None → IsFed feed none old old feed
IsFed-none feed none old nothing going = record {
  bytes = [];
  all = sym nothing;
  taken = AreTaken-none old;
  read = λ before has. subst (HasRead feed) (sym (append-nil before)) has;
  undecided = inl refl;
  grows = GrowsTo_same feed.reader.draft;
  going = going;
}

module _ {feed fed : FeedValue} {done : ℕ} {old mid : Stream} (first : IsFed feed done old mid fed) where
  -- more was read, and nothing taken
  pub IsFed-read : {new : Stream} → AreTaken mid new [] → IsFed feed done old new fed
  IsFed-read {new} read = record {
    bytes = first.bytes;
    all = first.all;
    taken = subst (AreTaken old new) (append-nil first.bytes) (AreTaken-more first.taken read);
    read = first.read;
    undecided = first.undecided;
    grows = first.grows;
    going = first.going;
  }

  -- some more have
  pub IsFed-more : {next : FeedValue} {new : Stream} (all : ℕ) (bytes : List ℕ) → all ≡ done + length bytes → AreTaken mid new bytes → ((before : List ℕ) → HasRead fed before → HasRead next (before ++ bytes))
      → ((before : List ℕ) → HasRead fed before → IsUndecided (before ++ bytes)) → GrowsTo fed.reader.draft next.reader.draft → next.error ≡ None → IsFed feed all old new next
  IsFed-more {next} {new} all bytes whole taken read undecided grows going = record {
    bytes = first.bytes ++ bytes;
    all = omega (arith, whole, first.all, length-append first.bytes bytes);
    taken = AreTaken-more first.taken taken;
    read = λ before has. subst (HasRead next) (append_assoc before first.bytes bytes) (read (before ++ first.bytes) (first.read before has));
    undecided = inr (λ before has. subst IsUndecided (append_assoc before first.bytes bytes) (undecided (before ++ first.bytes) (first.read before has)));
    grows = GrowsTo-twice first.grows grows;
    going = going;
  }

  pub IsFed-undecided : (before : List ℕ) → HasRead feed before → (first.bytes ≡ []) ⊎ IsUndecided (before ++ first.bytes)
  IsFed-undecided before has = by first.undecided
    where
      by : (first.bytes ≡ []) ⊎ ((each : List ℕ) → HasRead feed each → IsUndecided (each ++ first.bytes)) → (first.bytes ≡ []) ⊎ IsUndecided (before ++ first.bytes)
      by (inl nothing) = inl nothing
      by (inr undecided) = inr (undecided before has)

  -- those that have come decide nothing
  IsPartOfPiece-fed : (before : List ℕ) (size : ℕ) (rest : List ℕ) → HasRead feed before → done < size → rest ≡ [] → IsPartOfPiece before size (first.bytes ++ rest)
  IsPartOfPiece-fed before size rest has short none =
      let all : first.bytes ++ rest ≡ first.bytes = ap (λ more. first.bytes ++ more) none ∙ append-nil first.bytes in
      rw all (record { short = omega (arith, short, first.all); undecided = IsFed-undecided before has })

  -- no more can be read
  pub IsPieceEnd-unread : (before : List ℕ) (size : ℕ) (after : PullState) (error : TalkError) → HasRead feed before → done < size → IsReadEnd mid after error [] → IsPieceEnd before size old after error
  IsPieceEnd-unread before size after error has short end = record {
    rest = first.bytes ++ end.rest;
    read = IsReadUpTo-more first.taken end.read;
    why = by end.why;
  }
    where
      by : IsReadNoMore mid after error end.rest [] ⊎ (error ≡ Run run.Memory) → IsPieceReason before size old after (first.bytes ++ end.rest) error
      by (inl no_more) = inr (inr (inr (inl (record {
        is = no_more.is;
        unread = IsUnread-more first.taken no_more.unread_is;
        part = IsPartOfPiece-fed before size end.rest has short no_more.all;
      }))))
      by (inr memory) = inr (inr (inr (inr memory)))

  -- there are no more
  pub IsPieceEnd-cut : (before : List ℕ) (size : ℕ) (after : PullState) → HasRead feed before → done < size → AreLast mid after [] → IsPieceEnd before size old after Cut
  IsPieceEnd-cut before size after has short last =
      let all = AreLast-more first.taken last in
      record {
        rest = first.bytes ++ [];
        read = record { bytes = all.bytes; once = omega (arith, all.ended.ends, all.ended.failures); ends = omega (arith, all.ended.ends); failures = omega (arith, all.ended.failures); few = all.ended.few };
        why = inr (inr (inl (record { is = refl; ended = all.ended; part = IsPartOfPiece-fed before size [] has short refl })));
      }

  -- the next bytes decide a refusal
  pub IsPieceEnd-decided : (before : List ℕ) (size : ℕ) (ahead : ReadAheadValue) (after : PullState) (count : ℕ) (error : DumpError) → mid ≡ stream ahead after → count ≤ length ahead.unread → done + count ≤ size → length ahead.unread ≤ most_bytes
      → HasRead feed before → ((bytes : List ℕ) → HasRead fed bytes → IsDecidedError (bytes ++ take count ahead.unread) error) → IsPieceEnd before size old after (Run (run_error_of_dump error))
  IsPieceEnd-decided before size ahead after count error here inside within near has decided =
      let left : IsReadUpTo mid after ahead.unread = rw here (record { bytes = Consumes-unread ahead.unread after.left; once = omega arith; ends = omega arith; failures = omega arith; few = omega arith }) in
      let read = IsReadUpTo-more first.taken left in
      by error (decided (before ++ first.bytes) (first.read before has)) read
    where
      by : (each : DumpError) → IsDecidedError ((before ++ first.bytes) ++ take count ahead.unread) each → IsReadUpTo old after (first.bytes ++ ahead.unread) → IsPieceEnd before size old after (Run (run_error_of_dump each))
      by refusal.Memory first_line read = record { rest = first.bytes ++ ahead.unread; read = read; why = inr (inr (inr (inr refl))) }
      by (refusal.Refused number at) decides read = record {
        rest = first.bytes ++ ahead.unread;
        read = read;
        why = inl (record {
          front = first.bytes;
          last = take count ahead.unread;
          more = drop count ahead.unread;
          number = number;
          at = at;
          is = refl;
          whole = ap (λ rest. first.bytes ++ rest) (sym (take-append-drop count ahead.unread)) ∙ sym (append_assoc first.bytes (take count ahead.unread) (drop count ahead.unread));
          within = omega (arith, within, first.all, length-take-le count ahead.unread inside);
          near = omega (arith, near, ap length (take-append-drop count ahead.unread), length-append (take count ahead.unread) (drop count ahead.unread));
          before = IsFed-undecided before has;
          why = inl decides;
        });
      }

-- the first unread bytes are taken
pub AreTaken-front : (ahead later : ReadAheadValue) (input : PullState) (count : ℕ) → later.unread ≡ drop count ahead.unread → later.reads ≡ ahead.reads → AreTaken (stream ahead input) (stream later input) (take count ahead.unread)
AreTaken-front ahead later input count rest reads = record {
  bytes = Consumes-taken ahead.unread (take count ahead.unread) later.unread input.left (sym (take-append-drop count ahead.unread) ∙ ap (λ more. take count ahead.unread ++ more) (sym rest));
  limit = ap (λ n. input.calls + n) reads;
  ends = refl;
  failures = refl;
}
