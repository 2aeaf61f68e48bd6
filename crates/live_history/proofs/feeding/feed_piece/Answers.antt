use Rattle.live_history.proofs.Common.{◌≡◌, ◌-◌, ◌≤◌, ◌++◌, length, take, refl, sym, ap, subst, ◌∙◌, arith, length-drop, length-take-le, err_from_is_err_and, IsFed, stream, AreTaken}
use Rattle.svn_dump.specs.Decided.{IsDecidedError}
use Rattle.live_history.proofs.FedPieces.{AreTaken-front, IsFed-more, IsFed-none, IsFed-read, IsPieceEnd-cut, IsPieceEnd-decided, IsPieceEnd-unread}
use Rattle.live_history.proofs.Waiting.{IsInPiece-taken}
use Rattle.live_history.proofs.feeding.feed_piece.Goals as goal

pub bytes-init : goal.bytes-init
bytes-init g c = record {
  fed = IsFed-none c.args.feed.now (c.args.size - c.args.size) (stream c.args.ahead.now (g.C.Client.input c.args.client.now)) (omega arith) c.requires.going;
  within = omega arith;
  few = omega arith;
  less = omega arith;
  near = c.requires.near;
  unfailed = refl;
  unended = refl;
  output = refl;
  first = refl;
}

pub read_some-requires : goal.read_some-requires
read_some-requires g c =
    let kept = c.bytes.invariant in
    record {
      piece = rw (kept.output, kept.first) (IsInPiece-taken c.requires.piece (stream c.bytes.ahead (g.C.Client.input c.bytes.client)).come kept.fed.bytes
          (omega (arith, kept.fed.all, kept.within, c.bytes-test.true)) kept.fed.taken.bytes);
    }

pub returns-in_err-read_some-clause-error : goal.returns-in_err-read_some-clause-error
returns-in_err-read_some-clause-error g c =
    let told = err_from_is_err_and c.from_residual.result c.from_residual.ensures.1 in
    rw (told.1, told.2) (λ before has.
    IsPieceEnd-unread c.bytes.invariant.fed before c.args.size (g.C.Client.input c.read_some.new.client) _ has (omega (arith, c.bytes.invariant.within, c.bytes-test.true))
    c.in_err-read_some.ensures.error)

pub returns-then-not-branch-clause-error : goal.returns-then-not-branch-clause-error
returns-then-not-branch-clause-error g c = λ before has.
    IsPieceEnd-cut c.bytes.invariant.fed before c.args.size (g.C.Client.input c.read_some.new.client) has (omega (arith, c.bytes.invariant.within, c.bytes-test.true))
    (c.in_ok-read_some.ensures.end c.if-not-branch.true)

pub returns-in_err-feed-clause-error : goal.returns-in_err-feed-clause-error
returns-in_err-feed-clause-error g c =
    let told = err_from_is_err_and c.from_residual-in_err-feed.result c.from_residual-in_err-feed.ensures.1 in
    let ahead = c.read_some.new.self in
    let count = c.min-len.result in
    let fed = IsFed-read c.bytes.invariant.fed (c.in_ok-read_some.ensures.taken c.if-not-branch.false) in
    rw (told.1, told.2) (λ before has. IsPieceEnd-decided fed before c.args.size ahead (g.C.Client.input c.read_some.new.client) count _ refl
    (omega (arith, c.min-len.ensures, ap length c.unread.ensures)) (omega (arith, c.min-len.ensures, c.bytes.invariant.within)) (c.in_ok-read_some.ensures.near c.bytes.invariant.near) has
    (λ bytes read. subst (λ all. IsDecidedError (bytes ++ take count all) c.in_err-feed.field-0.0) c.unread-in-bytes.ensures (c.in_err-feed.ensures.decided bytes read)))

pub bytes-preserved : goal.bytes-preserved
bytes-preserved g c =
    let ahead = c.read_some.new.self in
    let input = g.C.Client.input c.read_some.new.client in
    let count = c.min-len.result in
    let piece = take count c.unread-in-bytes.result.now in
    let same : take count ahead.unread ≡ piece = ap (take count) (sym c.unread-in-bytes.ensures) in
    let inside : count ≤ length c.unread-in-bytes.result.now = omega (arith, c.min-len.ensures, ap length c.unread.ensures, ap length c.unread-in-bytes.ensures) in
    let long = length-take-le count c.unread-in-bytes.result.now inside in
    let taken = subst (AreTaken (stream ahead input) (stream c.take.new.self input)) same (AreTaken-front ahead c.take.new.self input count c.take.ensures.unread c.take.ensures.reads) in
    let fed = IsFed-read c.bytes.invariant.fed (c.in_ok-read_some.ensures.taken c.if-not-branch.false) in
    let left = ap length c.take.ensures.unread in
    record {
      fed = IsFed-more fed (c.args.size - (c.bytes.left - count)) piece (omega (arith, long, c.bytes.invariant.within, c.min-len.ensures)) taken c.in_ok-feed.ensures.read c.in_ok-feed.ensures.undecided c.in_ok-feed.ensures.grows c.in_ok-feed.ensures.ok;
      within = omega (arith, c.bytes.invariant.within);
      few = omega (arith, c.bytes.invariant.few, c.in_ok-feed.ensures.count, long, left, length-drop count ahead.unread, c.take.ensures.reads, c.in_ok-read_some.ensures.room, inside, ap length c.unread-in-bytes.ensures);
      less = omega (arith, c.bytes.invariant.less, left, length-drop count ahead.unread, c.take.ensures.reads, c.in_ok-read_some.ensures.room);
      near = omega (arith, left, length-drop count ahead.unread, c.in_ok-read_some.ensures.near c.bytes.invariant.near);
      unfailed = c.in_ok-read_some.ensures.unfailed ∙ c.bytes.invariant.unfailed;
      unended = c.in_ok-read_some.ensures.unended c.if-not-branch.false ∙ c.bytes.invariant.unended;
      output = c.in_ok-read_some.ensures.output ∙ c.bytes.invariant.output;
      first = c.in_ok-read_some.ensures.first ∙ c.bytes.invariant.first;
    }

pub returns-clause-ok : goal.returns-clause-ok
returns-clause-ok g c =
    let left : c.args.size - c.bytes.left ≡ c.args.size = omega (arith, c.bytes-test.false, c.bytes.invariant.within) in
    subst (λ size. IsFed c.args.feed.now size (stream c.args.ahead.now (g.C.Client.input c.args.client.now)) (stream c.bytes.ahead (g.C.Client.input c.bytes.client)) c.bytes.feed) left c.bytes.invariant.fed
