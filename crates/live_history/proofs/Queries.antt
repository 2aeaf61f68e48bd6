-- Replies to queries, after other turns.
use Rattle.live_history.proofs.Common.{◌≡◌, ◌⊎◌, ℕ, ◌+◌, ◌-◌, ◌<◌, ◌≤◌, inl, inr, All, List, [], ◌∷◌, ◌++◌, Option, length, map, take, drop, refl, sym, ap, subst, ◌∙◌, append_assoc, append-nil, arith, length-append, Appends, flat_map, IsTrue, length-map, All-head, All-map, All-nil, PullState, PushState, line_text, DumpValue, history_in_bytes, most_bytes, AreNear, IsLineEnd, ReadAheadValue, stream, AreRepliedTo, replies, AreLast, AreTaken, IsCutLine, IsReadUpTo, IsUnreadLine, Stream, IsLawfulDump, IsTalk, TalkState, after_turns, AreAllReplied, IsEndEarly, most_answered, IsTurn, query, turn_bytes, turns_bytes, AreQueries, HasQuery, TalkError, Run, TooMany, Unsent}
use Rattle.std.proofs.Math.Seq.{take-append_seam}
use Rattle.devices.specs.declared.sending.SendError.{SendError}
use Rattle.svn_report.specs.declared.run_error.RunError.TheVariants as run
use Rattle.live_history.proofs.Ends.{AreReplied-more, AreReplied-none, IsEndEarly-more, IsEndEarly-now}
use Rattle.live_history.proofs.FedPieces.{AreTaken-front}
use Rattle.live_history.proofs.ReadAheads.{AreNear-line, Consumes-unread}
use Rattle.live_history.proofs.Streams.{AreLast-more, AreTaken-more}
use Rattle.live_history.proofs.Talks.{IsTalk-none, IsTalk-queries, after_turns-append, after_turns-queries}

-- lists that are mapped and joined
pub flat_map-mapped : {X Y Z : Type 0} (f : Y → List Z) (g : X → Y) (xs : List X) → flat_map (λ x. f (g x)) xs ≡ flat_map f (map g xs)
flat_map-mapped f g [] = refl
flat_map-mapped f g (x ∷ xs) = ap (λ rest. f (g x) ++ rest) (flat_map-mapped f g xs)

-- queries as they are written
pub turns_bytes-queries : (lines : List (List ℕ)) → turns_bytes (map query lines) ≡ flat_map line_text lines
turns_bytes-queries lines = sym (flat_map-mapped turn_bytes query lines)

-- what was read ahead and not taken
pub unread-read : (ahead : ReadAheadValue) (input : PullState) → IsReadUpTo (stream ahead input) input ahead.unread
unread-read ahead input = record { bytes = Consumes-unread ahead.unread input.left; once = omega arith; ends = omega arith; failures = omega arith; few = omega arith }

-- ---- turns that were replied to

pub AreRepliedTo-none : (state : TalkState) (old : Stream) (sent : PushState) (answered : ℕ) → state.answered ≡ answered → AreRepliedTo state old sent.gone old sent answered
AreRepliedTo-none state old sent answered same = record {
  turns = [];
  replied = AreReplied-none state old sent;
  after_is = ap (λ n. record { dump = state.dump; answered = n }) same;
}

module _ {state : TalkState} {old mid : Stream} {gone : Option (List ℕ)} {between : PushState} {answered : ℕ} (first : AreRepliedTo state old gone mid between answered) where
  abbrev pub now : TalkState
  now = record { dump = state.dump; answered = answered }

  -- more was read, and nothing taken
  pub AreRepliedTo-read : {new : Stream} → AreTaken mid new [] → AreRepliedTo state old gone new between answered
  AreRepliedTo-read {new} read = record {
    turns = first.turns;
    replied = record {
      are = first.replied.are;
      taken = subst (AreTaken old new) (append-nil (turns_bytes first.turns)) (AreTaken-more first.replied.taken read);
      said = first.replied.said;
      talk = first.replied.talk;
      sent_is = first.replied.sent_is;
    };
    after_is = first.after_is;
  }

  -- further ones were replied to
  pub AreRepliedTo-more : {new : Stream} {sent : PushState} {later : ℕ} → AreRepliedTo now mid between.gone new sent later → AreRepliedTo state old gone new sent later
  AreRepliedTo-more {new} {sent} {later} next = record {
    turns = first.turns ++ next.turns;
    replied = AreReplied-more first.replied (rw first.after_is next.replied);
    after_is = after_turns-append state first.turns next.turns ∙ ap (λ each. after_turns each next.turns) first.after_is ∙ next.after_is;
  }

  -- the talk ended then
  pub IsEndEarly-then : (after : PullState) (sent : PushState) (error : TalkError) → IsEndEarly now mid between.gone after sent error → IsEndEarly state old gone after sent error
  IsEndEarly-then after sent error next = IsEndEarly-more first.replied (subst (λ later. IsEndEarly later mid between.gone after sent error) (sym first.after_is) next)

  pub IsEndEarly-line : (after : PullState) (error : TalkError) → answered ≤ most_answered → IsLineEnd mid after error → IsEndEarly state old gone after between error
  IsEndEarly-line after error few end = IsEndEarly-then after between error (by end.why)
    where
      by : IsCutLine mid after end.rest error ⊎ IsUnreadLine mid after end.rest error ⊎ (error ≡ Run run.Memory) → IsEndEarly now mid between.gone after between error
      by (inl cut) = IsEndEarly-now now mid between.gone after between error end.rest few refl end.read (inl (refl, inl cut))
      by (inr lost) = IsEndEarly-now now mid between.gone after between error end.rest few refl end.read (inl (refl, inr (inr (inr lost))))

  -- the input ended then
  pub AreAllReplied-then : (after : PullState) → answered ≤ most_answered → AreLast mid after [] → AreAllReplied state old gone after between
  AreAllReplied-then after few last = record {
    turns = first.turns;
    are = first.replied.are;
    few = subst (λ later. later.answered ≤ most_answered) (sym first.after_is) few;
    last = subst (AreLast old after) (append-nil (turns_bytes first.turns)) (AreLast-more first.replied.taken last);
    said = first.replied.said;
    talk = first.replied.talk;
    sent_is = first.replied.sent_is;
  }

-- ---- queries that were read ahead

-- what follows them is near
pub AreNear-queries : (bytes rest : List ℕ) (lines : List (List ℕ)) → AreQueries bytes lines rest → 0 < length lines → AreNear bytes → length rest ≤ most_bytes
AreNear-queries bytes rest [] are some near = absurd (omega (arith, some))
AreNear-queries bytes rest (line ∷ lines) are some near =
    let more = flat_map line_text lines ++ rest in
    let whole : bytes ≡ line_text line ++ more = are.whole ∙ append_assoc (line_text line) (flat_map line_text lines) rest in
    let first = All-head (λ each. IsTurn (query each)) line lines are.are in
    omega (arith, AreNear-line bytes line more near whole first.0, length-append (flat_map line_text lines) rest)

module _ (state : TalkState) (few : state.answered ≤ most_answered) (ahead : ReadAheadValue) (input : PullState) (sent : PushState) where
  -- there is no memory
  pub IsEndEarly-memory : IsEndEarly state (stream ahead input) sent.gone input sent (Run run.Memory)
  IsEndEarly-memory =
      IsEndEarly-now state (stream ahead input) sent.gone input sent (Run run.Memory) ahead.unread few refl (unread-read ahead input) (inl (refl, inr (inr (inr (inr refl)))))

  -- as many were answered as may be
  pub IsEndEarly-many : HasQuery ahead.unread → AreNear ahead.unread → state.answered ≡ most_answered → IsEndEarly state (stream ahead input) sent.gone input sent TooMany
  IsEndEarly-many (line, rest, first) near all =
      IsEndEarly-now state (stream ahead input) sent.gone input sent TooMany ahead.unread few refl (unread-read ahead input)
      (inl (refl, inr (inr (inl (record { is = refl; all = all; line = line; more = rest; query_is = first.is; whole = first.whole; near = AreNear-line ahead.unread line rest near first.whole first.is.0 })))))

module _ (dump : DumpValue) (state : TalkState) (is : IsLawfulDump state.dump (history_in_bytes dump)) (ahead : ReadAheadValue) (input : PullState) (lines : List (List ℕ)) (rest : List ℕ) (are : AreQueries ahead.unread lines rest) where
  abbrev text : List ℕ
  text = replies dump state.answered lines

  are_turns : All IsTurn (map query lines)
  are_turns = All-map IsTurn query lines are.are

  talk : IsTalk state (map query lines) text
  talk = IsTalk-queries (history_in_bytes dump) state lines is

  -- a front of the replies to them went out
  pub IsEndEarly-part : (gone : Option (List ℕ)) (sent : PushState) (cause : SendError) → state.answered + length lines ≤ most_answered → 0 < length lines → AreNear ahead.unread → cause.sent ≤ length text → Appends gone sent.gone (take cause.sent text) → IsTrue sent.has_failed
      → IsEndEarly state (stream ahead input) gone input sent (Unsent cause)
  IsEndEarly-part gone sent cause few some near within part failed = record {
    turns = [];
    rest = ahead.unread;
    are = All-nil IsTurn;
    few = omega (arith, few);
    read = unread-read ahead input;
    said = [];
    part = take cause.sent text;
    talk = IsTalk-none state;
    sent_is = part;
    why = inr (record {
      cause = cause;
      is = refl;
      turns = map query lines;
      more = rest;
      are = are_turns;
      some = omega (arith, some, length-map lines query);
      few = subst (λ later. later.answered ≤ most_answered) (sym (after_turns-queries state lines)) few;
      whole = are.whole ∙ ap (λ front. front ++ rest) (sym (turns_bytes-queries lines));
      near = AreNear-queries ahead.unread rest lines are some near;
      said = text;
      talk = talk;
      within = within;
      part_is = refl;
      failed = failed;
    });
  }

  -- they went out
  pub AreRepliedTo-queries : (later : ReadAheadValue) (gone : Option (List ℕ)) (sent : PushState) (answered : ℕ) → later.unread ≡ drop (length ahead.unread - length rest) ahead.unread → later.reads ≡ ahead.reads
      → Appends gone sent.gone text → answered ≡ state.answered + length lines → AreRepliedTo state (stream ahead input) gone (stream later input) sent answered
  AreRepliedTo-queries later gone sent answered left reads all counted =
      let front = flat_map line_text lines in
      let count : length ahead.unread - length rest ≡ length front = omega (arith, ap length are.whole, length-append front rest) in
      let taken : take (length ahead.unread - length rest) ahead.unread ≡ turns_bytes (map query lines) =
      ap (λ n. take n ahead.unread) count ∙ ap (take (length front)) are.whole ∙ take-append_seam front rest ∙ sym (turns_bytes-queries lines) in
      record {
        turns = map query lines;
        replied = record {
          are = are_turns;
          taken = subst (AreTaken (stream ahead input) (stream later input)) taken (AreTaken-front ahead later input (length ahead.unread - length rest) left reads);
          said = text;
          talk = talk;
          sent_is = all;
        };
        after_is = after_turns-queries state lines ∙ ap (λ n. record { dump = state.dump; answered = n }) (sym counted);
      }

-- queries are not empty
pub less-queries : (bytes rest : List ℕ) (lines : List (List ℕ)) → AreQueries bytes lines rest → 0 < length lines → length rest < length bytes
less-queries bytes rest [] are some = absurd (omega (arith, some))
less-queries bytes rest (line ∷ lines) are some =
    omega (arith, ap length are.whole, length-append (flat_map line_text (line ∷ lines)) rest, length-append (line_text line) (flat_map line_text lines), length-append line (10 ∷ []))
