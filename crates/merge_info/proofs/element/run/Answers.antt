use Rattle.merge_info.proofs.Common.{ap, ◌∙◌, sym, option_map}
use Rattle.merge_info.proofs.Elements.{run_at, run_of-single}
use Rattle.merge_info.proofs.element.run.Goals as goal

pub returns-in_err-lo-in-None-clause-value : goal.returns-in_err-lo-in-None-clause-value
returns-in_err-lo-in-None-clause-value c =
    c.from_residual.ensures ∙ ap (option_map (run_at c.args.inheritable)) c.in_err-lo-in-None.ensures.value
    ∙ sym (run_of-single c.args.inheritable c.args.bytes.now c.in-None.ensures)

pub returns-in_ok-lo-in-None-clause-value : goal.returns-in_ok-lo-in-None-clause-value
returns-in_ok-lo-in-None-clause-value c =
    ap (option_map (run_at c.args.inheritable)) c.in_ok-lo-in-None.ensures.value
    ∙ sym (run_of-single c.args.inheritable c.args.bytes.now c.in-None.ensures)
