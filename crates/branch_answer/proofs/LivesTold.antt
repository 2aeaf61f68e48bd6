-- What is told of the lives of a path.
use Rattle.std.proofs.Common.{◌≡◌, ◌≢◌, ◌∙◌, ℕ, suc, ◌<◌, List, [], ◌∷◌, ◌++◌, arith, ap, refl, flat_map, length, if◌then◌else◌}
use Rattle.std.proofs.lemmas.Bool.{le-leb, lt-leb}
use Rattle.std.proofs.lemmas.List.Concat.{flat_map-append}
use Rattle.svn_text.specs.Line.{line_text}
use Rattle.svn_dump.specs.Dump.{DumpValue}
use Rattle.query_answer.specs.Answer.{TreesOfBytes, ok_answer, refused_answer}
use Rattle.query_answer.specs.Peg.{Peg, PegValue, peg_view}
use Rattle.query_answer.specs.Repo.{IsPegNowhere, trees_in_bytes}
use Rattle.query_answer.specs.declared.status.Status.TheVariants as status
use Rattle.query_answer.specs.declared.unanswered.Unanswered.{Unanswered}
use Rattle.query_answer.specs.declared.unanswered.Unanswered.TheVariants.{Memory, Refused}
use Rattle.branch_answer.specs.KeptLife.{life_in_bytes, life_text, lives_in_bytes}
use Rattle.branch_answer.specs.Life.{Life, life_at, lines_of_life, lives_lines, lives_of}
use Rattle.branch_answer.specs.QuestionAnswer.{if_some_life, lines_text, lives_answer}
use Rattle.branch_answer.specs.Told.{IsUntold}
use Rattle.branch_answer.specs.declared.life.Life as kept
use Rattle.branch_answer.proofs.Begun.{found_below-skip, life_at-absent, lives_of-found}

-- in a revision that is there
by_lives : (trees : TreesOfBytes) (peg : Peg) → peg.rev < length trees → lives_answer trees peg ≡ if_some_life (lives_of trees peg.path peg.rev)
by_lives trees peg within = ap (λ b. if b then refused_answer status.NoSuchRevision else if_some_life (lives_of trees peg.path peg.rev)) (lt-leb (length trees) peg.rev within)

pub lives_answer-none : (trees : TreesOfBytes) (peg : Peg) → peg.rev < length trees → lives_of trees peg.path peg.rev ≡ [] → lives_answer trees peg ≡ refused_answer status.NoSuchPath
lives_answer-none trees peg within none = by_lives trees peg within ∙ ap if_some_life none

pub lives_answer-some : (trees : TreesOfBytes) (peg : Peg) (lives : List Life) → peg.rev < length trees → lives_of trees peg.path peg.rev ≡ lives → lives ≢ []
    → lives_answer trees peg ≡ ok_answer (lives_lines lives)
lives_answer-some trees peg [] within is some = absurd (some refl)
lives_answer-some trees peg (life ∷ lives) within is some = by_lives trees peg within ∙ ap if_some_life is

pub IsUntold-nowhere : (dump : DumpValue) (peg : PegValue) (error : Unanswered) → IsPegNowhere dump peg error → IsUntold (lives_answer (trees_in_bytes dump) (peg_view peg)) error
IsUntold-nowhere dump peg Memory is = tt
IsUntold-nowhere dump peg (Refused status.Ok) is = absurd is
IsUntold-nowhere dump peg (Refused status.BadQuery) is = absurd is
IsUntold-nowhere dump peg (Refused status.NoSuchRevision) is =
    ap (λ b. if b then refused_answer status.NoSuchRevision else if_some_life (lives_of (trees_in_bytes dump) (peg_view peg).path peg.rev)) (le-leb (length (trees_in_bytes dump)) peg.rev is)
IsUntold-nowhere dump peg (Refused status.NoSuchPath) is =
    let trees = trees_in_bytes dump in
    let parts = (peg_view peg).path in
    lives_answer-none trees (peg_view peg) is.within
    (lives_of-found trees parts peg.rev
    ∙ found_below-skip (life_at trees parts peg.rev) 0 (suc peg.rev) (omega arith) (λ rev low below. life_at-absent trees parts peg.rev rev (is.nowhere rev)))
IsUntold-nowhere dump peg (Refused status.MalformedMergeinfo) is = absurd is

-- the lines of all lives are those of one after another
pub lines_text-lives : (names : List (List ℕ)) (lives : List kept.Life) → lines_text (lives_lines (lives_in_bytes names lives)) ≡ flat_map (life_text names) lives
lines_text-lives names [] = refl
lines_text-lives names (life ∷ lives) =
    flat_map-append line_text (lines_of_life (life_in_bytes names life)) (lives_lines (lives_in_bytes names lives))
    ∙ ap (λ more. life_text names life ++ more) (lines_text-lives names lives)
