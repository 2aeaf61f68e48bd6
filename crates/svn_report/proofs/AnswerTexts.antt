-- Texts of answers that stand at the places of their lines, and those that follow others.
use Rattle.svn_report.proofs.Common.{◌≡◌, ℕ, suc, ◌+◌, ◌<◌, List, [], ◌∷◌, ◌++◌, Some, length, map, slice_get, slice_index_or, arith, refl, ap, ap₂, ◌∙◌, flat_map, answers_from, texts_from}
use Rattle.std.proofs.lemmas.List.Concat.{flat_map-append}
use Rattle.svn_dump.specs.Record.{HistoryOfBytes}
use Rattle.query_answer.specs.Answer.{TreesOfBytes, answer_of, answer_text}
use Rattle.query_answer.specs.Query.{query_of}

-- the answer to the line at a place, where the first line has this number
abbrev pub text_of : HistoryOfBytes → TreesOfBytes → ℕ → List (List ℕ) → ℕ → List ℕ
text_of history trees number lines place = answer_text (place + number) (answer_of history trees (query_of (slice_index_or lines place [])))

pub texts_from-each : {X : Type 0} (items : X → List ℕ) (history : HistoryOfBytes) (trees : TreesOfBytes) (number : ℕ) (lines : List (List ℕ)) (texts : List X) → length texts ≡ length lines
    → ((place : ℕ) → place < length lines → (text : X) → slice_get texts place ≡ Some text → items text ≡ text_of history trees number lines place)
    → map items texts ≡ texts_from number history trees lines
unfolding texts_from
texts_from-each items history trees number [] [] same each = refl
texts_from-each items history trees number [] (text ∷ texts) same each = absurd (omega (arith, same))
texts_from-each items history trees number (line ∷ lines) [] same each = absurd (omega (arith, same))
texts_from-each items history trees number (line ∷ lines) (text ∷ texts) same each =
    let numbered : ℕ → List (List ℕ) → ℕ → List ℕ = λ n all place. answer_text n (answer_of history trees (query_of (slice_index_or all place []))) in
    let here : 0 + number ≡ number = omega arith in
    let first : items text ≡ numbered number (line ∷ lines) 0 = each 0 (omega arith) text refl ∙ ap (λ n. numbered n (line ∷ lines) 0) here in
    let next : (place : ℕ) → suc place + number ≡ place + (number + 1) = λ place. omega arith in
    let rest = texts_from-each items history trees (number + 1) lines texts (omega (arith, same))
    (λ place below other at. each (suc place) (omega (arith, below)) other at ∙ ap (λ n. numbered n lines place) (next place)) in
    ap₂ (λ one others. one ∷ others) first rest

-- joined, they are the texts of the items one after another
pub flat_map-texts : {X : Type 0} (items : X → List ℕ) (texts : List X) → flat_map items texts ≡ flat_map (λ text. text) (map items texts)
flat_map-texts items [] = refl
flat_map-texts items (text ∷ texts) = ap (λ rest. items text ++ rest) (flat_map-texts items texts)

-- the texts for the first lines, and those for the lines that follow
pub texts_from-append : (history : HistoryOfBytes) (trees : TreesOfBytes) (number : ℕ) (front back : List (List ℕ))
    → texts_from number history trees (front ++ back) ≡ texts_from number history trees front ++ texts_from (length front + number) history trees back
unfolding texts_from
texts_from-append history trees number [] back =
    let same : number ≡ 0 + number = omega arith in
    ap (λ n. texts_from n history trees back) same
texts_from-append history trees number (line ∷ front) back =
    let next : length front + (number + 1) ≡ length (line ∷ front) + number = omega arith in
    ap (λ more. answer_text number (answer_of history trees (query_of line)) ∷ more)
    (texts_from-append history trees (number + 1) front back
    ∙ ap (λ n. texts_from (number + 1) history trees front ++ texts_from n history trees back) next)

pub answers_from-append : (history : HistoryOfBytes) (trees : TreesOfBytes) (number : ℕ) (front back : List (List ℕ))
    → answers_from number history trees (front ++ back) ≡ answers_from number history trees front ++ answers_from (length front + number) history trees back
answers_from-append history trees number front back =
    ap (flat_map (λ text. text)) (texts_from-append history trees number front back)
    ∙ flat_map-append (λ text. text) (texts_from number history trees front) (texts_from (length front + number) history trees back)
