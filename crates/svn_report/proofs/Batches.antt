-- What is answered after some batches of the query lines of a run.
use Rattle.svn_report.proofs.Common.{◌≡◌, ℕ, ◌+◌, ◌≤◌, List, [], ◌++◌, length, take, drop, arith, refl, sym, ap, ◌∙◌, length-map, length-take-le, map-append, take-append-drop, DumpValue, history_in_bytes, answers_to_batch, lent_lines, answers_from, texts_from}
use denote.Ref.{Bor}
use Rattle.std.proofs.Math.Seq.{take-append-add}
use Rattle.query_answer.specs.Repo.{trees_in_bytes}
use Rattle.svn_report.proofs.AnswerTexts.{answers_from-append}

take-add : (done count : ℕ) (lines : List (Bor (List ℕ))) → done ≤ length lines → take (done + count) lines ≡ take done lines ++ take count (drop done lines)
take-add done count lines within =
    let front = take done lines in
    ap (λ n. take (n + count) lines) (sym (length-take-le done lines within))
    ∙ ap (take (length front + count)) (sym (take-append-drop done lines))
    ∙ take-append-add front (drop done lines) count

-- the text answers the first lines, so many
abbrev pub IsAnswered : DumpValue → List (Bor (List ℕ)) → ℕ → List ℕ → Type 0
IsAnswered dump lines done text = text ≡ answers_to_batch dump 0 (take done lines)

pub IsAnswered-none : (dump : DumpValue) (lines : List (Bor (List ℕ))) → IsAnswered dump lines 0 []
unfolding texts_from
IsAnswered-none dump lines = refl

pub IsAnswered-more : (dump : DumpValue) (lines now : List (Bor (List ℕ))) (done count : ℕ) (text new : List ℕ) → IsAnswered dump lines done text → done ≤ length lines
    → now ≡ take count (drop done lines) → new ≡ text ++ answers_to_batch dump done now → IsAnswered dump lines (done + count) new
IsAnswered-more dump lines now done count text new is within split after =
    let history = history_in_bytes dump in
    let trees = trees_in_bytes dump in
    let front = take done lines in
    let lent : length (lent_lines front) ≡ done = length-map front (λ line. line.now) ∙ length-take-le done lines within in
    let number : done + 1 ≡ length (lent_lines front) + 1 = omega (arith, lent) in
    after
    ∙ ap (λ bytes. bytes ++ answers_to_batch dump done now) is
    ∙ ap (λ n. answers_to_batch dump 0 front ++ answers_from n history trees (lent_lines now)) number
    ∙ sym (answers_from-append history trees 1 (lent_lines front) (lent_lines now))
    ∙ ap (answers_from 1 history trees) (sym (map-append (λ line. line.now) front now) ∙ ap lent_lines (ap (λ more. front ++ more) split ∙ sym (take-add done count lines within)))
