-- What is said for turns, and for those that follow them.
use Rattle.live_history.proofs.Common.{◌≡◌, ℕ, ◌+◌, List, [], ◌∷◌, ◌++◌, length, map, refl, sym, ap, subst, ◌∙◌, append_assoc, append-nil, arith, flat_map, bytes_eq, line_text, IsLawfulDump, IsReply, IsTalk, TalkState, after_turn, after_turns, query_text, Turn, query}
use Rattle.svn_dump.specs.Record.{HistoryOfBytes}
use Rattle.svn_dump.specs.Tree.{trees_of}
use Rattle.live_history.specs.Answering.{texts_from}

-- no turns, no word
pub IsTalk-none : (state : TalkState) → IsTalk state [] []
unfolding IsTalk
IsTalk-none state = refl

-- one turn
pub IsTalk-one : (state : TalkState) (turn : Turn) (reply : List ℕ) → IsReply state turn reply → IsTalk state (turn ∷ []) reply
unfolding IsTalk
IsTalk-one state turn reply is = (reply, [], is, refl, sym (append-nil reply))

-- turns after others
pub after_turns-append : (state : TalkState) (front back : List Turn) → after_turns state (front ++ back) ≡ after_turns (after_turns state front) back
after_turns-append state [] back = refl
after_turns-append state (turn ∷ front) back = after_turns-append (after_turn state turn) front back

pub IsTalk-append : (state : TalkState) (front back : List Turn) (said more : List ℕ) → IsTalk state front said → IsTalk (after_turns state front) back more → IsTalk state (front ++ back) (said ++ more)
unfolding IsTalk
IsTalk-append state [] back said more none talk = subst (IsTalk state back) (ap (λ words. words ++ more) (sym none)) talk
IsTalk-append state (turn ∷ front) back said more (reply, rest, is, talk, whole) later = (
  reply,
  rest ++ more,
  is,
  IsTalk-append (after_turn state turn) front back rest more talk later,
  ap (λ words. words ++ more) whole ∙ append_assoc reply rest more,
)

-- queries about the same dump
module _ (history : HistoryOfBytes) where
  pub IsTalk-queries : (state : TalkState) (lines : List (List ℕ)) → IsLawfulDump state.dump history
      → IsTalk state (map query lines) (flat_map line_text (texts_from (state.answered + 1) history (trees_of bytes_eq history) lines))
  unfolding IsTalk texts_from
  IsTalk-queries state [] is = refl
  IsTalk-queries state (line ∷ lines) is = (
    query_text history (state.answered + 1) line,
    flat_map line_text (texts_from (state.answered + 1 + 1) history (trees_of bytes_eq history) lines),
    (history, is, refl),
    IsTalk-queries (after_turn state (query line)) lines is,
    refl,
  )

pub after_turns-queries : (state : TalkState) (lines : List (List ℕ)) → after_turns state (map query lines) ≡ record { dump = state.dump; answered = state.answered + length lines }
after_turns-queries state [] = let same : state.answered ≡ state.answered + 0 = omega arith in ap (λ n. record { dump = state.dump; answered = n }) same
after_turns-queries state (line ∷ lines) =
    let same : state.answered + 1 + length lines ≡ state.answered + length (line ∷ lines) = omega arith in
    after_turns-queries (after_turn state (query line)) lines ∙ ap (λ n. record { dump = state.dump; answered = n }) same
