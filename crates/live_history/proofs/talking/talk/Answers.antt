use Rattle.live_history.proofs.Common.{Result, Ok, Err, refl, subst, IfErr, OnOk, prepend_known, history_in_bytes, IsHistoryOf, start_of, IsTalkError, IsWholeTalk}
use Rattle.live_history.proofs.Waiting.{Consumes-none, IsCaughtUp-ready}
use Rattle.live_history.proofs.WholeTalks.{IsTalkError-said, IsTalkError-unsaid, IsWholeTalk-said}
use Rattle.live_history.proofs.talking.talk.Goals as goal

-- what follows from three clauses of a success, and from two of an error
on_ok : {T E P Q R S : Type 0} (result : Result T E) → (P → Q → R → S) → OnOk result P → OnOk result Q → OnOk result R → OnOk result S
on_ok (Ok done) follows p q r = follows p q r
on_ok (Err error) follows p q r = tt

if_err : {T E : Type 0} {P Q R : E → Type 0} (result : Result T E) → ((error : E) → P error → Q error → R error) → IfErr result P → IfErr result Q → IfErr result R
if_err (Ok done) follows p q = tt
if_err (Err error) follows p q = follows error p q

pub take_turns-requires-clause-replied : goal.take_turns-requires-clause-replied
take_turns-requires-clause-replied g c κs within =
    let from = c.in_ok-history.ensures.ok in
    let history = c.in_ok-history.history in
    let input = g.C.Client.input c.args.client.now in
    let output = g.C.Client.output c.args.client.now in
    let ahead = c.in_ok-ahead in
    rw (c.say_ready.ensures.first, c.requires.new, c.say_ready.ensures.input)
    (IsCaughtUp-ready (record { input = input; output = output }) (g.C.Client.output c.say_ready.new.client) (prepend_known ahead.ahead.unread input.left) from.bytes (history_in_bytes history.repo) (λ dump. IsHistoryOf dump history) from.is.dump from.is
    (Consumes-none ahead.ahead.unread input.left ahead.ensures.unread) c.in-Ok.ensures.said c.in-Ok.ensures.flushed)

pub returns-in-Ok-clause-ok : goal.returns-in-Ok-clause-ok
returns-in-Ok-clause-ok g c =
    let from = c.in_ok-history.ensures.ok in
    let ahead = c.in_ok-ahead in
    on_ok c.take_turns.result
    (λ talk flushed sound.
    subst (λ input. IsWholeTalk (g.D.Pull.state c.args.dump.now) (g.D.Pull.state c.read.new.dump) input (g.C.Client.input c.take_turns.new.client) (g.C.Client.output c.args.client.now) (g.C.Client.output c.take_turns.new.client)) c.say_ready.ensures.input
    (IsWholeTalk-said (g.D.Pull.state c.args.dump.now) (g.D.Pull.state c.read.new.dump) (g.C.Client.input c.say_ready.new.client) (g.C.Client.output c.args.client.now) c.in_ok-history.history from
    (g.C.Client.output c.say_ready.new.client) c.in-Ok.ensures.said ahead.ahead ahead.ensures.unread ahead.ensures.reads (g.C.Client.input c.take_turns.new.client) (g.C.Client.output c.take_turns.new.client)
    (talk (start_of from.bytes) from.is refl) (flushed c.in-Ok.ensures.flushed) (sound c.in-Ok.ensures.sound)))
    c.take_turns.ensures.ok c.take_turns.ensures.flushed c.take_turns.ensures.sound

pub returns-in-Ok-clause-error : goal.returns-in-Ok-clause-error
returns-in-Ok-clause-error g c =
    let from = c.in_ok-history.ensures.ok in
    let ahead = c.in_ok-ahead in
    if_err c.take_turns.result
    (λ error talk kept.
    subst (λ input. IsTalkError (g.D.Pull.state c.args.dump.now) (g.D.Pull.state c.read.new.dump) input (g.C.Client.input c.take_turns.new.client) (g.C.Client.output c.args.client.now) (g.C.Client.output c.take_turns.new.client) error) c.say_ready.ensures.input
    (IsTalkError-said (g.D.Pull.state c.args.dump.now) (g.D.Pull.state c.read.new.dump) (g.C.Client.input c.say_ready.new.client) (g.C.Client.output c.args.client.now) c.in_ok-history.history from
    (g.C.Client.output c.say_ready.new.client) c.in-Ok.ensures.said ahead.ahead ahead.ensures.unread ahead.ensures.reads (g.C.Client.input c.take_turns.new.client) (g.C.Client.output c.take_turns.new.client)
    error (talk (start_of from.bytes) from.is refl) (kept c.in-Ok.ensures.flushed c.in-Ok.ensures.sound)))
    c.take_turns.ensures.error c.take_turns.ensures.kept

pub returns-clause-error : goal.returns-clause-error
returns-clause-error g c =
    rw c.say_ready.ensures.input (IsTalkError-unsaid (g.D.Pull.state c.args.dump.now) (g.D.Pull.state c.read.new.dump) (g.C.Client.input c.args.client.now) (g.C.Client.output c.args.client.now) c.in_ok-history.history c.in_ok-history.ensures.ok
    (g.C.Client.output c.say_ready.new.client) c.in-Err.e c.in-Err.ensures.error)
