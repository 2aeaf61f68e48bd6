use Rattle.std.proofs.Common.{◌++◌, [], ◌∷◌, sym, ap, ◌∙◌}
use Rattle.svn_path.proofs.Belows.{parent_of-Some}
use Rattle.svn_path.proofs.path.Path.parent.Goals as goal

pub returns-in_ok-of-in-Some : goal.returns-in_ok-of-in-Some
returns-in_ok-of-in-Some c =
    let last = c.in-Some.field-0-0.now in
    sym ((parent_of-Some c.args.self.now c.in_ok-of-in-Some.field-0).1 (last, sym c.parts.ensures ∙ c.in-Some.ensures.cases.0 ∙ ap (λ above. above ++ last ∷ []) (sym c.in_ok-of-in-Some.ensures)))
