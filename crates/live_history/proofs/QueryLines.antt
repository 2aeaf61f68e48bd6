-- The first queries of an input, and one more.
use Rattle.live_history.proofs.Common.{◌≡◌, ℕ, List, [], ◌∷◌, ◌++◌, map, sym, ap, ◌∙◌, append_assoc, append-nil, flat_map, map-append, flat_map-append, All-append, All-cons, All-nil, line_text, IsTurn, query, AreQueries, IsFirstQuery}
use denote.Ref.{Bor}

pub AreQueries-more : (bytes : List ℕ) (lines : List (Bor (List ℕ))) (line : Bor (List ℕ)) (rest more : List ℕ) → AreQueries bytes (map (λ each. each.now) lines) rest
    → IsFirstQuery rest line.now more → AreQueries bytes (map (λ each. each.now) (lines ++ line ∷ [])) more
AreQueries-more bytes lines line rest more before next =
    let front = map (λ each. each.now) lines in
    let all : map (λ each. each.now) (lines ++ line ∷ []) ≡ front ++ line.now ∷ [] = map-append (λ each. each.now) lines (line ∷ []) in
    let text : flat_map line_text (front ++ line.now ∷ []) ≡ flat_map line_text front ++ line_text line.now =
    flat_map-append line_text front (line.now ∷ []) ∙ ap (λ last. flat_map line_text front ++ last) (append-nil (line_text line.now)) in
    rw all (record {
      whole = before.whole ∙ ap (λ last. flat_map line_text front ++ last) next.whole ∙ sym (append_assoc (flat_map line_text front) (line_text line.now) more) ∙ ap (λ first. first ++ more) (sym text);
      are = All-append (λ each. IsTurn (query each)) front (line.now ∷ []) before.are (All-cons (λ each. IsTurn (query each)) line.now [] next.is (All-nil (λ each. IsTurn (query each))));
    })
