-- Talks about a dump that was read, from the first word on.
use Rattle.live_history.proofs.Common.{◌≡◌, ◌+◌, inl, inr, List, ℕ, [], ◌++◌, None, Option, Some, refl, ap, subst, ◌∙◌, IsFalse, IsTrue, Appends, append_known, prepend_known-nil, PullState, PushState, history_in_bytes, IsHistoryFrom, ReadAheadValue, stream, stream_of, ready_text, start_of, AreAllReplied, IsEndEarly, IsNoHistory, IsOutputKept, IsTalkError, IsWholeTalk, IsUnsaid, History, TalkError, Run}
use Rattle.svn_report.specs.Load.{most_reads}
use Rattle.svn_report.specs.declared.run_error.RunError.{RunError}
use Rattle.svn_report.specs.declared.run_error.RunError.TheVariants as run

-- what goes out after a first text
Appends-after : (gone mid new : Option (List ℕ)) (text said : List ℕ) → Appends gone mid text → Appends mid new said → Appends (append_known gone text) new said
Appends-after None mid new text said first next = tt
Appends-after (Some old) None new text said first next = absurd first
Appends-after (Some old) (Some more) None text said first next = absurd next
Appends-after (Some old) (Some more) (Some all) text said first next = next ∙ ap (λ front. front ++ said) first

-- before anything was read ahead, all of the input is to come
stream-start : (ahead : ReadAheadValue) (input : PullState) → ahead.unread ≡ [] → ahead.reads ≡ most_reads → stream ahead input ≡ stream_of most_reads input
stream-start ahead input nothing all =
    ap (λ (each : ReadAheadValue). stream each input) same ∙ ap (λ left. record { come = left; limit = input.calls + most_reads; ends = input.ends; failures = input.failures }) (prepend_known-nil input.left)
  where
    same : ahead ≡ record { unread = []; reads = most_reads }
    same = ap (λ unread. record { unread = unread; reads = ahead.reads }) nothing ∙ ap (λ reads. record { unread = []; reads = reads }) all

-- why there is no talk
pub IsTalkError-none : (dump read input : PullState) (output : PushState) (reason : RunError) → IsNoHistory dump read reason → IsTalkError dump read input input output output (Run reason)
IsTalkError-none dump read input output reason why = inl (record { reason = reason; is = refl; why = why; unread = refl; unsent = refl })

module _ (dump read input : PullState) (output : PushState) (history : History) (from : IsHistoryFrom dump read history) where
  abbrev ready : List ℕ
  ready = ready_text (history_in_bytes history.repo)

  -- not all of the first word went out
  pub IsTalkError-unsaid : (sent : PushState) (error : TalkError) → IsUnsaid ready output sent error → IsTalkError dump read input input output sent error
  IsTalkError-unsaid sent error (inl (memory, same)) = rw (memory, same) (IsTalkError-none dump read input output run.Memory tt)
  IsTalkError-unsaid sent error (inr part) = inr (inl (record {
    history = history_in_bytes history.repo;
    bytes = from.bytes;
    opened = record { all = from.all; is = from.is.dump };
    cause = part.cause;
    is = part.is;
    within = part.within;
    part = part.part;
    failed = part.failed;
    unread = refl;
  }))

  module _ (mid : PushState) (first : Appends output.gone mid.gone ready) (ahead : ReadAheadValue) (nothing : ahead.unread ≡ []) (all : ahead.reads ≡ most_reads) (after : PullState) (sent : PushState) where
    pub IsWholeTalk-said : AreAllReplied (start_of from.bytes) (stream ahead input) mid.gone after sent → IsTrue sent.is_flushed → IsFalse sent.has_failed → IsWholeTalk dump read input after output sent
    IsWholeTalk-said talk flushed sound = record {
      history = history_in_bytes history.repo;
      bytes = from.bytes;
      opened = record { all = from.all; is = from.is.dump };
      talk = subst (λ old. AreAllReplied (start_of from.bytes) old (append_known output.gone ready) after sent) (stream-start ahead input nothing all) (record {
        turns = talk.turns;
        are = talk.are;
        few = talk.few;
        last = talk.last;
        said = talk.said;
        talk = talk.talk;
        sent_is = Appends-after output.gone mid.gone sent.gone ready talk.said first talk.sent_is;
      });
      flushed = flushed;
      sound = sound;
    }

    pub IsTalkError-said : (error : TalkError) → IsEndEarly (start_of from.bytes) (stream ahead input) mid.gone after sent error → IsOutputKept sent error → IsTalkError dump read input after output sent error
    IsTalkError-said error talk kept = inr (inr (record {
      history = history_in_bytes history.repo;
      bytes = from.bytes;
      opened = record { all = from.all; is = from.is.dump };
      talk = subst (λ old. IsEndEarly (start_of from.bytes) old (append_known output.gone ready) after sent error) (stream-start ahead input nothing all) (record {
        turns = talk.turns;
        rest = talk.rest;
        are = talk.are;
        few = talk.few;
        read = talk.read;
        said = talk.said;
        part = talk.part;
        talk = talk.talk;
        sent_is = Appends-after output.gone mid.gone sent.gone ready (talk.said ++ talk.part) first talk.sent_is;
        why = talk.why;
      });
      kept = kept;
    }))
