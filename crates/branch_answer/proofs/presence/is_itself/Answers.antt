use Rattle.std.proofs.Common.{◌≡◌, ◌∙◌, ◌+◌, ◌==◌, ◌&&◌, ap, ap₂, sym, true, false}
use Rattle.svn_path.proofs.Orders.{pointwise-same_path}
use Rattle.svn_path.specs.Below.{same_path}
use Rattle.svn_path.specs.Path.{same_name}
use Rattle.path_index.specs.Operative.{came_from_itself}
use Rattle.branch_answer.specs.KeptLife.{lent_origin}
use Rattle.branch_answer.proofs.presence.is_itself.Goals as goal

pub returns-then-eq : goal.returns-then-eq
returns-then-eq c =
    let from = c.in-Some.from.now in
    let paths : same_path same_name from.path c.args.path.now ≡ true = sym (pointwise-same_path same_name from.path c.args.path.now) ∙ sym c.eq.ensures ∙ c.if-eq.true in
    ap₂ (λ one rev. one + 1 == rev) c.from.ensures c.from-then-eq.ensures
    ∙ ap (λ b. b && from.rev + 1 == c.args.rev) (sym paths)
    ∙ ap (λ origin. came_from_itself same_name c.args.path.now c.args.rev (lent_origin origin)) (sym c.in-Some.is)

pub returns-else-eq : goal.returns-else-eq
returns-else-eq c =
    let from = c.in-Some.from.now in
    let paths : same_path same_name from.path c.args.path.now ≡ false = sym (pointwise-same_path same_name from.path c.args.path.now) ∙ sym c.eq.ensures ∙ c.if-eq.false in
    c.if-eq.false
    ∙ ap (λ b. b && from.rev + 1 == c.args.rev) (sym paths)
    ∙ ap (λ origin. came_from_itself same_name c.args.path.now c.args.rev (lent_origin origin)) (sym c.in-Some.is)
