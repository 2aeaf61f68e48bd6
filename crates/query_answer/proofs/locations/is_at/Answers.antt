use Rattle.query_answer.proofs.Common.{Some, ap, sym, ◌∙◌, same_location, same_name, lent_path}
use Rattle.svn_path.proofs.Orders.{pointwise-same_path}
use Rattle.query_answer.proofs.locations.is_at.Goals as goal

pub returns-in-Some : goal.returns-in-Some
returns-in-Some c =
    c.eq.ensures ∙ pointwise-same_path same_name c.in-Some.other.now c.args.path.now
    ∙ ap (λ located. same_location same_name (lent_path located) (Some c.args.path.now)) (sym c.in-Some.is)
