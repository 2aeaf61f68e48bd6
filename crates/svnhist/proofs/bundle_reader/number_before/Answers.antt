use Rattle.svn_text.proofs.Cuts.{CutsFirst-IsCutAt}
use Rattle.svnhist.proofs.Bundles.{no_number-uncut, no_number-cut}
use Rattle.svnhist.proofs.bundle_reader.number_before.Goals as goal

pub returns-in_err-digits-clause-none : goal.returns-in_err-digits-clause-none
returns-in_err-digits-clause-none c =
    rw c.from_residual.ensures (λ digits rest n whole number. no_number-uncut _ c.args.most _ _ _ n c.in_err-digits.ensures whole)

pub returns-in_err-number_up_to-clause-none : goal.returns-in_err-number_up_to-clause-none
returns-in_err-number_up_to-clause-none c =
    rw c.from_residual-in_err-number_up_to.ensures (λ digits rest n whole number.
    no_number-cut _ _ _ _ _ _ _ _ c.requires.before_digits (CutsFirst-IsCutAt c.args.end c.args.bytes.now _ _ c.in_ok-digits.ensures) c.in_err-number_up_to.ensures whole number)
