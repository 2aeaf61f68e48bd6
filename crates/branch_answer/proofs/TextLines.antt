-- The lines of a text, each after a space, as they are written.
use Rattle.std.proofs.Common.{◌≡◌, ◌∙◌, ℕ, List, [], ◌∷◌, ◌++◌, ap, append-nil, append_assoc, codes, map, sym}
use Rattle.std.proofs.lemmas.List.{map-append}
use Rattle.std.proofs.lemmas.List.Concat.{flat_map-append}
use Rattle.svn_text.specs.Line.{line_text}
use Rattle.branch_answer.specs.QuestionAnswer.{lines_text}

abbrev spaced : List ℕ → List ℕ
spaced line = codes " " ++ line

-- lines, each after a space
abbrev pub spaced_text : List (List ℕ) → List ℕ
spaced_text lines = lines_text (map spaced lines)

-- one line more
spaced_text-more : (lines : List (List ℕ)) (line : List ℕ) → spaced_text (lines ++ line ∷ []) ≡ spaced_text lines ++ line_text (spaced line)
spaced_text-more lines line =
    ap lines_text (map-append spaced lines (line ∷ [])) ∙ flat_map-append line_text (map spaced lines) (spaced line ∷ [])
    ∙ ap (λ text. spaced_text lines ++ text) (append-nil (line_text (spaced line)))

-- as it is written after them
pub spaced_text-written : (out : List ℕ) (lines : List (List ℕ)) (line : List ℕ)
    → (((out ++ spaced_text lines) ++ 32 ∷ []) ++ line) ++ 10 ∷ [] ≡ out ++ spaced_text (lines ++ line ∷ [])
spaced_text-written out lines line =
    append_assoc ((out ++ spaced_text lines) ++ 32 ∷ []) line (10 ∷ [])
    ∙ append_assoc (out ++ spaced_text lines) (32 ∷ []) (line ++ 10 ∷ [])
    ∙ append_assoc out (spaced_text lines) (line_text (spaced line))
    ∙ ap (λ text. out ++ text) (sym (spaced_text-more lines line))
