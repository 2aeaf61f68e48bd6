use Rattle.std.proofs.Common.{subst}
use Rattle.std.proofs.lemmas.Result.{err_from_is_err_and}
use Rattle.branch_answer.specs.HeldRevisions.{AreHeldBy}
use Rattle.branch_answer.proofs.HoldersTold.{IsHolderRefused-peg, IsHolderRefused-value, with_holder-value}
use Rattle.branch_answer.proofs.new_revisions.Held.find.Goals as goal

pub returns-in_err-at-clause-refused : goal.returns-in_err-at-clause-refused
returns-in_err-at-clause-refused c =
    let told = err_from_is_err_and c.from_residual.result c.from_residual.ensures.1 in
    rw (told.1, told.2) (IsHolderRefused-peg c.args.repo.now c.args.peg.now c.in_err-at.field-0.0 c.in_err-at.ensures.refused)

pub returns-in_err-value-clause-refused : goal.returns-in_err-value-clause-refused
returns-in_err-value-clause-refused c =
    let told = err_from_is_err_and c.from_residual-in_err-value.result c.from_residual-in_err-value.ensures.1 in
    rw (told.1, told.2) (IsHolderRefused-value c.args.repo.now c.args.peg.now c.in_ok-at.at c.in_ok-at.ensures.found c.in_err-value.field-0.0 c.in_err-value.ensures.refused)

pub returns-clause-held : goal.returns-clause-held
returns-clause-held c =
    let dump = c.args.repo.now in
    let at = c.in_ok-at.at in
    let value = c.in_ok-value.value in
    let found = c.in_ok-at.ensures.found in
    record {
      is = record {
        kept = found.is_in.kept;
        of_names = c.in_ok-below.ensures.of_names;
        are = subst (λ paths. AreHeldBy dump at value c.args.range paths c.in_ok-holdings.holdings) c.deref.ensures.value c.in_ok-holdings.ensures.held;
      };
      answered = with_holder-value dump c.args.peg.now at found value c.in_ok-value.ensures.value;
    }
