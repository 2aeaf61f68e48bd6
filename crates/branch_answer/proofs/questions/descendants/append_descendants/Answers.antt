use Rattle.std.proofs.Common.{◌∙◌, ◌++◌, ◌<◌, ◌≤◌, ap, arith, bytes_eq, if◌then◌else◌, length, nat_le}
use Rattle.std.proofs.lemmas.Bool.{le-leb, lt-leb}
use Rattle.std.proofs.lemmas.Result.{err_from_is_err_and}
use Rattle.svn_dump.proofs.Revisions.{length-trees_of}
use Rattle.svn_dump.specs.Dump.{history_in_bytes}
use Rattle.query_answer.proofs.InBytes.{length-trees_in_bytes}
use Rattle.query_answer.specs.Answer.{ok_answer, refused_answer}
use Rattle.query_answer.specs.Repo.{peg_in_bytes, trees_in_bytes}
use Rattle.query_answer.specs.declared.status.Status.TheVariants as status
use Rattle.branch_answer.specs.Descendants.{descendants_of}
use Rattle.branch_answer.specs.KeptDescendants.{path_texts}
use Rattle.branch_answer.specs.QuestionAnswer.{lines_text}
use Rattle.branch_answer.proofs.Refusals.{IsUntold-refused}
use Rattle.branch_answer.proofs.questions.descendants.append_descendants.Goals as goal

pub returns-in_err-at-clause-none : goal.returns-in_err-at-clause-none
returns-in_err-at-clause-none c =
    let trees = trees_in_bytes c.args.repo.now in
    let told = err_from_is_err_and c.from_residual.result c.from_residual.ensures.1 in
    rw (told.1, told.2) (IsUntold-refused c.args.repo.now c.args.peg.now c.in_err-at.field-0.0
    (λ peg. if nat_le (length trees) c.args.rev then refused_answer status.NoSuchRevision else ok_answer (descendants_of trees peg c.args.rev)) c.in_err-at.ensures.refused)

pub returns-then-rev-youngest-clause-none : goal.returns-then-rev-youngest-clause-none
returns-then-rev-youngest-clause-none c =
    let dump = c.args.repo.now in
    let trees = trees_in_bytes dump in
    let rev = c.args.rev in
    let late : length trees ≤ rev = omega (arith, c.youngest.ensures, length-trees_of bytes_eq (history_in_bytes dump), c.if-rev-youngest.true) in
    c.in_ok-at.ensures.found.answered (λ peg. if nat_le (length trees) rev then refused_answer status.NoSuchRevision else ok_answer (descendants_of trees peg rev))
    ∙ ap (λ b. if b then refused_answer status.NoSuchRevision else ok_answer (descendants_of trees (peg_in_bytes dump c.in_ok-at.at) rev)) (le-leb (length trees) rev late)

pub descendants_of-requires-clause-within : goal.descendants_of-requires-clause-within
descendants_of-requires-clause-within c =
    let dump = c.args.repo.now in
    omega (
      arith,
      c.youngest.ensures,
      length-trees_of bytes_eq (history_in_bytes dump),
      length-trees_in_bytes dump c.in_ok-at.ensures.found.is_in.kept,
      c.if-rev-youngest.false,
    )

pub returns-clause-lines : goal.returns-clause-lines
returns-clause-lines c =
    let dump = c.args.repo.now in
    let trees = trees_in_bytes dump in
    let rev = c.args.rev in
    let at = c.in_ok-at.at in
    let old = c.args.out.now.items in
    let within : rev < length trees = omega (arith, c.youngest.ensures, length-trees_of bytes_eq (history_in_bytes dump), c.if-rev-youngest.false) in
    record {
      lines = descendants_of trees (peg_in_bytes dump at) rev;
      is = c.in_ok-at.ensures.found.answered (λ peg. if nat_le (length trees) rev then refused_answer status.NoSuchRevision else ok_answer (descendants_of trees peg rev))
          ∙ ap (λ b. if b then refused_answer status.NoSuchRevision else ok_answer (descendants_of trees (peg_in_bytes dump at) rev)) (lt-leb (length trees) rev within);
      text = c.in_ok-append_paths.ensures
          ∙ ap (λ names. old ++ lines_text (path_texts names c.as_slice.result.now)) c.names.ensures.value
          ∙ ap (λ paths. old ++ lines_text (path_texts dump.names paths)) c.as_slice.ensures.value
          ∙ ap (λ texts. old ++ lines_text texts) c.in_ok-paths.ensures.are;
    }
