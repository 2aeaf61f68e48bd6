-- What a worker may know of the mergeinfo texts of a dump, and what it learns by an answer.
use Rattle.std.specs.Prelude.{◌≡◌, ℕ, ◌≤◌, List, Option, Some, IfOk, IfSome, IsFalse, IsTrue, Result, Ok, Err, ◌⊎◌, length, slice_get}
use Rattle.std.specs.declared.alloc.AllocError.{AllocError}
use Rattle.svn_dump.specs.Dump.{DumpValue}
use Rattle.query_answer.specs.Answer.{kept_status, needs_mergeinfo}
use Rattle.query_answer.specs.Unanswered.{given}
use Rattle.query_answer.specs.declared.answers.Answer.{Answer as KeptAnswer}
use Rattle.query_answer.specs.declared.unanswered.Unanswered.{Unanswered}
use Rattle.value_memo.specs.SeenValue.{AsksOnly, IsAnswered, SeenValue, text_at}

-- the memo has a cell for each text, and the worker was answered for these texts alone
pub record IsSeenOf (texts : List (List ℕ)) (memo : List ℕ) (seen : SeenValue) : Type 0 where
  pub cells : length texts ≤ length memo
  pub of_memo : seen.memo ≡ memo
  pub asks : AsksOnly texts seen

-- there is a text to read, and the worker was answered for it, under its number in the dump
pub record HasLearnt (texts : List (List ℕ)) (read : Option (List ℕ)) (old new : SeenValue) : Type 0 where
  pub id : ℕ
  pub text : List ℕ
  pub read_is : read ≡ Some text
  pub of_id : slice_get texts id ≡ Some text
  pub answered : IsAnswered old id text new

-- the worker is as before, or was answered for the text to read
abbrev pub Learns : List (List ℕ) → Option (List ℕ) → SeenValue → SeenValue → Type 0
Learns texts read old new = (new ≡ old) ⊎ HasLearnt texts read old new

-- the worker has learnt no more than the text to read
pub record MayLearn (texts : List (List ℕ)) (memo : List ℕ) (read : Option (List ℕ)) (old new : SeenValue) : Type 0 where
  pub seen : IsSeenOf texts memo new
  pub learns : Learns texts read old new

-- the worker was answered for the text to read, if there is one, now or before
abbrev pub Knows : Option (List ℕ) → SeenValue → Type 0
Knows read seen = IfSome read (λ text. (id : ℕ) × (text_at seen id ≡ Some text))

-- where the answer looks at mergeinfo, the worker knows the text
abbrev pub KnowsWhatWasRead : Result KeptAnswer AllocError → Option (List ℕ) → SeenValue → Type 0
KnowsWhatWasRead (Ok answer) read seen = IsTrue (needs_mergeinfo (kept_status answer)) → Knows read seen
KnowsWhatWasRead (Err e) read seen = Unit {0}

-- where the query or a peg is refused, the worker is as before
abbrev pub IsUnreadWhereRefused : Result KeptAnswer AllocError → SeenValue → SeenValue → Type 0
IsUnreadWhereRefused (Ok answer) old new = IsFalse (needs_mergeinfo (kept_status answer)) → new ≡ old
IsUnreadWhereRefused (Err e) old new = Unit {0}

-- ---- of a verb

-- the pegs are there, or memory ran out
abbrev pub LooksAtMergeinfo : Result KeptAnswer Unanswered → Type 0
LooksAtMergeinfo result = IfOk (given result) (λ answer. IsTrue (needs_mergeinfo (kept_status answer)))

-- the worker may have learnt one text of the dump, and has read it exactly where the pegs are there
pub record Reads (dump : DumpValue) (memo : List ℕ) (read : Option (List ℕ)) (result : Result KeptAnswer Unanswered) (old new : SeenValue) : Type 0 where
  pub learnt : MayLearn dump.values memo read old new
  pub knows : KnowsWhatWasRead (given result) read new
  pub unread : IsUnreadWhereRefused (given result) old new
