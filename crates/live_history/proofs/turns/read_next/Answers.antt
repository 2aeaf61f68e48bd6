use Rattle.live_history.proofs.Common.{◌≡◌, ◌+◌, [], ap, sym, subst, ◌∙◌, take, IfSome, line_text, AreNear, HasLine, stream, AreTaken, IsPieceLine}
use Rattle.live_history.proofs.FedPieces.{AreTaken-front}
use Rattle.live_history.proofs.ReadAheads.{HasLine-take, HasLine-taken, near-left}
use Rattle.live_history.proofs.Streams.{AreTaken-more}
use Rattle.live_history.proofs.turns.read_next.Goals as goal

pub returns-in-None-clause-next : goal.returns-in-None-clause-next
returns-in-None-clause-next g c =
    let found = subst (λ len. IfSome len (HasLine c.read_line.new.self.unread)) c.in-Some.is c.in_ok-len.ensures.line in
    let line : take c.in-Some.len c.unread.result.now ≡ found.line = ap (take c.in-Some.len) c.unread.ensures ∙ HasLine-take c.read_line.new.self.unread c.in-Some.len found in (
      (
        found.line,
        found.rest,
        record {
          whole = found.whole;
          is = (found.first, λ size piece. c.in-None.ensures.none size (subst (λ each. IsPieceLine each size) (sym line) piece));
        },
      ),
      subst (λ len. IfSome len (λ _. AreNear c.read_line.new.self.unread)) c.in-Some.is c.in_ok-len.ensures.near,
      subst (λ len. IfSome len (λ _. AreTaken (stream c.args.ahead.now (g.C.Client.input c.args.client.now)) (stream c.read_line.new.self (g.C.Client.input c.read_line.new.client)) [])) c.in-Some.is c.in_ok-len.ensures.taken,
    )

pub returns-in-Some-piece_size-clause-next : goal.returns-in-Some-piece_size-clause-next
returns-in-Some-piece_size-clause-next g c =
    let ahead = c.read_line.new.self in
    let input = g.C.Client.input c.read_line.new.client in
    let old = stream c.args.ahead.now (g.C.Client.input c.args.client.now) in
    let found = subst (λ len. IfSome len (HasLine ahead.unread)) c.in-Some.is c.in_ok-len.ensures.line in
    let line : take c.in-Some.len c.unread.result.now ≡ found.line = ap (take c.in-Some.len) c.unread.ensures ∙ HasLine-take ahead.unread c.in-Some.len found in
    let piece = subst (λ each. IsPieceLine each c.in-Some-piece_size.size) line c.in-Some-piece_size.ensures.piece in
    let read = subst (λ len. IfSome len (λ _. AreTaken old (stream ahead input) [])) c.in-Some.is c.in_ok-len.ensures.taken in
    let taken = AreTaken-more read (AreTaken-front ahead c.take.new.self input (c.in-Some.len + 1) c.take.ensures.unread c.take.ensures.reads) in
    record {
      digits = piece.digits;
      number = piece.number;
      taken = subst (AreTaken old (stream c.take.new.self input)) (HasLine-taken ahead.unread c.in-Some.len found ∙ ap line_text piece.whole) taken;
    }

pub returns-in-Some-piece_size-clause-near : goal.returns-in-Some-piece_size-clause-near
returns-in-Some-piece_size-clause-near g c =
    let ahead = c.read_line.new.self in
    let found = subst (λ len. IfSome len (HasLine ahead.unread)) c.in-Some.is c.in_ok-len.ensures.line in
    near-left ahead.unread c.take.new.self.unread c.in-Some.len found (subst (λ len. IfSome len (λ _. AreNear ahead.unread)) c.in-Some.is c.in_ok-len.ensures.near) c.take.ensures.unread
