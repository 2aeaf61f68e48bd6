-- Texts of answers that stand at the places of their lines.
use Rattle.live_history.proofs.Common.{◌≡◌, ℕ, ◌+◌, ◌<◌, List, [], ◌∷◌, length, map, refl, ap, ◌∙◌, arith}
use Rattle.std.proofs.Common.{ap₂}
use Rattle.std.specs.Prelude.{Some, slice_get, slice_index_or, suc}
use Rattle.svn_dump.specs.Record.{HistoryOfBytes}
use Rattle.query_answer.specs.Answer.{TreesOfBytes, answer_text}
unfoldable use Rattle.live_history.specs.Answering.{texts_from}
use Rattle.live_history.specs.Talk.{line_answer}

-- the answer to the line at a place, where the first line has this number
abbrev pub text_of : HistoryOfBytes → TreesOfBytes → ℕ → List (List ℕ) → ℕ → List ℕ
text_of history trees number lines place = answer_text (place + number) (line_answer history trees (slice_index_or lines place []))

pub texts_from-each : {X : Type 0} (items : X → List ℕ) (history : HistoryOfBytes) (trees : TreesOfBytes) (number : ℕ) (lines : List (List ℕ)) (texts : List X) → length texts ≡ length lines
    → ((place : ℕ) → place < length lines → (text : X) → slice_get texts place ≡ Some text → items text ≡ text_of history trees number lines place)
    → map items texts ≡ texts_from number history trees lines
unfolding texts_from
texts_from-each items history trees number [] [] same each = refl
texts_from-each items history trees number [] (text ∷ texts) same each = absurd (omega (arith, same))
texts_from-each items history trees number (line ∷ lines) [] same each = absurd (omega (arith, same))
texts_from-each items history trees number (line ∷ lines) (text ∷ texts) same each =
    let numbered : ℕ → List (List ℕ) → ℕ → List ℕ = λ n all place. answer_text n (line_answer history trees (slice_index_or all place [])) in
    let here : 0 + number ≡ number = omega arith in
    let first : items text ≡ numbered number (line ∷ lines) 0 = each 0 (omega arith) text refl ∙ ap (λ n. numbered n (line ∷ lines) 0) here in
    let next : (place : ℕ) → suc place + number ≡ place + (number + 1) = λ place. omega arith in
    let rest = texts_from-each items history trees (number + 1) lines texts (omega (arith, same))
    (λ place below other at. each (suc place) (omega (arith, below)) other at ∙ ap (λ n. numbered n lines place) (next place)) in
    ap₂ (λ one others. one ∷ others) first rest
