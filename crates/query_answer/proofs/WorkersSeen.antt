-- What a worker knows at first, and once a reading that borrows from it has ended.
use Rattle.query_answer.proofs.Common.{◌≡◌, ℕ, ◌≤◌, List, Option, Some, None, IsFalse, length, slice_get, inl, inr, refl, sym, subst, ◌∙◌, both_ways, Result, Ok, Err, MatchResult, OnOk, needs_mergeinfo, PegValue, IsPairRefused, IsPegRefused, given, Memory, Refused, DumpValue}
use Rattle.value_memo.specs.SeenValue.{IsAnswered, SeenValue, nothing_seen}
use Rattle.value_memo.proofs.Callers.{AsksOnly-answered, AsksOnly-nothing_seen}
use Rattle.query_answer.specs.Worker.{IsSeenOf, IsUnreadWhereRefused, Knows, KnowsWhatWasRead, LooksAtMergeinfo, MayLearn, Reads}
use Rattle.query_answer.specs.declared.status.Status.{Status}
use Rattle.query_answer.specs.declared.unanswered.Unanswered.{Unanswered}
use Rattle.query_answer.specs.declared.answers.Answer.{Answer as KeptAnswer}
use Rattle.std.specs.declared.alloc.AllocError.{AllocError}

module _ (texts : List (List ℕ)) (memo : List ℕ) (old : SeenValue) (is : IsSeenOf texts memo old) (id : ℕ) (text : List ℕ) (of_id : slice_get texts id ≡ Some text) where
  -- it has learnt no more than the one text, which it knows from then on
  pub MayLearn-after : (read : Option (List ℕ)) → read ≡ Some text → {T E : Type 0} (result : Result T E) (new : SeenValue)
      → MatchResult result (λ _. IsAnswered old id text new) (λ _. new ≡ old) → MayLearn texts memo read old new × OnOk result (Knows read new)
  MayLearn-after read read_is (Ok value) new answered = (
    record {
      seen = record { cells = is.cells; of_memo = answered.memo ∙ is.of_memo; asks = AsksOnly-answered texts old id text new is.asks of_id answered };
      learns = inr (record { id = id; text = text; read_is = read_is; of_id = of_id; answered = answered });
    },
    rw read_is (id, answered.known),
  )
  MayLearn-after read read_is (Err e) new same =
      (record { seen = subst (IsSeenOf texts memo) (sym same) is; learns = inl same }, tt)

-- a new worker asked for nothing yet
pub IsSeenOf-nothing_seen : (texts : List (List ℕ)) (memo : List ℕ) (seen : SeenValue) → length texts ≤ length memo → seen ≡ nothing_seen memo → IsSeenOf texts memo seen
IsSeenOf-nothing_seen texts memo seen cells is = rw is (record { cells = cells; of_memo = refl; asks = AsksOnly-nothing_seen texts memo })

-- a fact holds on a value too
pub OnOk-from : {T E P : Type 0} (result : Result T E) → P → OnOk result P
OnOk-from (Ok value) fact = fact
OnOk-from (Err e) fact = tt

KnowsWhatWasRead-from : (result : Result KeptAnswer AllocError) (read : Option (List ℕ)) (seen : SeenValue) → Knows read seen → KnowsWhatWasRead result read seen
KnowsWhatWasRead-from (Ok answer) read seen knows = λ needed. knows
KnowsWhatWasRead-from (Err e) read seen knows = tt

IsUnreadWhereRefused-same : (result : Result KeptAnswer AllocError) (seen : SeenValue) → IsUnreadWhereRefused result seen seen
IsUnreadWhereRefused-same (Ok answer) seen = λ refused. refl
IsUnreadWhereRefused-same (Err e) seen = tt

module _ (dump : DumpValue) (memo : List ℕ) (read : Option (List ℕ)) (old : SeenValue) where
  module _ (new : SeenValue) (learnt : MayLearn dump.values memo read old new) where
    -- memory ran out
    pub Reads-memory : Reads dump memo read (Err Memory) old new
    Reads-memory = record { learnt = learnt; knows = tt; unread = tt }

    -- the pegs are there
    pub Reads-known : (result : Result KeptAnswer Unanswered) → LooksAtMergeinfo result → Knows read new → Reads dump memo read result old new
    Reads-known (Ok answer) found knows = record { learnt = learnt; knows = λ needed. knows; unread = λ refused. absurd (both_ways _ refused found) }
    Reads-known (Err (Refused status)) found knows = record { learnt = learnt; knows = λ needed. knows; unread = λ refused. absurd (both_ways _ refused found) }
    Reads-known (Err Memory) found knows = Reads-memory

  module _ (seen : IsSeenOf dump.values memo old) where
    learns_nothing : MayLearn dump.values memo read old old
    learns_nothing = record { seen = seen; learns = inl refl }

    -- nothing was to be read
    pub Reads-nothing : (result : Result KeptAnswer Unanswered) → read ≡ None → Reads dump memo read result old old
    Reads-nothing result none = record {
      learnt = learns_nothing;
      knows = KnowsWhatWasRead-from (given result) read old (rw none tt);
      unread = IsUnreadWhereRefused-same (given result) old;
    }

    -- a peg is refused
    pub Reads-refused : (status : Status) → IsFalse (needs_mergeinfo status) → Reads dump memo read (Err (Refused status)) old old
    Reads-refused status unread = record { learnt = learns_nothing; knows = λ needed. absurd (both_ways _ unread needed); unread = λ _. refl }

    pub Reads-peg_refused : (peg : PegValue) (e : Unanswered) → IsPegRefused dump peg e → Reads dump memo read (Err e) old old
    Reads-peg_refused peg (Refused status) refused = Reads-refused status refused.1
    Reads-peg_refused peg Memory refused = Reads-memory old learns_nothing

    pub Reads-pair_refused : (source target : PegValue) (e : Unanswered) → IsPairRefused dump source target e → Reads dump memo read (Err e) old old
    Reads-pair_refused source target (Refused status) refused = Reads-refused status refused.1
    Reads-pair_refused source target Memory refused = Reads-memory old learns_nothing
