use Rattle.std.proofs.Common.{◌≡◌, ◌++◌, ◌∙◌, ◌<◌, ap, arith, eq-eqb, eqb-true, flat_map, length, subst, sym}
use Rattle.std.proofs.lemmas.Bool.{both_ways}
use Rattle.std.proofs.lemmas.List.{length-map, nil_from_length}
use Rattle.std.proofs.lemmas.Result.{err_from_is_err_and}
use Rattle.query_answer.specs.Answer.{ok_answer, refused_answer}
use Rattle.query_answer.specs.Repo.{peg_in_bytes, trees_in_bytes}
use Rattle.query_answer.proofs.InBytes.{length-trees_in_bytes}
use Rattle.query_answer.specs.declared.status.Status.TheVariants as status
use Rattle.branch_answer.specs.QuestionAnswer.{lives_answer}
use Rattle.branch_answer.specs.KeptLife.{life_in_bytes, life_text, lives_in_bytes}
use Rattle.branch_answer.specs.Life.{lives_lines}
use Rattle.branch_answer.proofs.LivesTold.{IsUntold-nowhere, lines_text-lives, lives_answer-none, lives_answer-some}
use Rattle.branch_answer.proofs.questions.lives.append_lives.Goals as goal

pub returns-in_err-at-clause-none : goal.returns-in_err-at-clause-none
returns-in_err-at-clause-none c =
    let told = err_from_is_err_and c.from_residual.result c.from_residual.ensures.1 in
    rw (told.1, told.2) (IsUntold-nowhere c.args.repo.now c.args.peg.now c.in_err-at.field-0.0 c.in_err-at.ensures.refused)

pub returns-then-is_empty-clause-none : goal.returns-then-is_empty-clause-none
returns-then-is_empty-clause-none c =
    let dump = c.args.repo.now in
    let trees = trees_in_bytes dump in
    let at = c.in_ok-at.at in
    let known = c.in_ok-at.ensures.known in
    let within : at.rev < length trees = omega (arith, known.within, length-trees_in_bytes dump known.kept) in
    subst (λ peg. lives_answer trees peg ≡ refused_answer status.NoSuchPath) known.spells
    (lives_answer-none trees (peg_in_bytes dump at) within (sym c.in_ok-lives.ensures.exact ∙ ap (lives_in_bytes dump.names) (nil_from_length c.in_ok-lives.lives.items (omega (arith, eqb-true c.in_ok-lives.lives.len 0 (sym c.is_empty.ensures ∙ c.if-is_empty.true), c.in_ok-lives.lives.ok.0)))))

pub returns-clause-lines : goal.returns-clause-lines
returns-clause-lines c =
    let dump = c.args.repo.now in
    let trees = trees_in_bytes dump in
    let at = c.in_ok-at.at in
    let known = c.in_ok-at.ensures.known in
    let lives = c.in_ok-lives.lives.items in
    let within : at.rev < length trees = omega (arith, known.within, length-trees_in_bytes dump known.kept) in
    record {
      lines = lives_lines (lives_in_bytes dump.names lives);
      is = subst (λ peg. lives_answer trees peg ≡ ok_answer (lives_lines (lives_in_bytes dump.names lives))) known.spells
          (lives_answer-some trees (peg_in_bytes dump at) (lives_in_bytes dump.names lives) within (sym c.in_ok-lives.ensures.exact)
          (λ none. both_ways _ (sym c.is_empty.ensures ∙ c.if-is_empty.false) (eq-eqb c.in_ok-lives.lives.len 0 (omega (arith, c.in_ok-lives.lives.ok.0, length-map lives (life_in_bytes dump.names), ap length none)))));
      text = c.in_ok-append_all.ensures ∙ ap (λ more. c.args.out.now.items ++ more)
          (ap (λ names. flat_map (life_text names) c.as_slice.result.now) c.names.ensures.value ∙ ap (flat_map (life_text dump.names)) c.as_slice.ensures.value ∙ sym (lines_text-lives dump.names lives));
    }
