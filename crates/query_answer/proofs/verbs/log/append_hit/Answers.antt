use Rattle.query_answer.proofs.Common.{◌≡◌, ◌++◌, ap, sym, ◌∙◌, option_map, codes, decimal, common_steps, arith, components_of, line_text, location_line}
use Rattle.query_answer.proofs.AnswerTexts.{location_line-lent}
use Rattle.query_answer.proofs.LocationsInBytes.{path_at-in_bytes}
use Rattle.query_answer.proofs.verbs.log.append_hit.Goals as goal

pub returns-clause-ok : goal.returns-clause-ok
returns-clause-ok c =
    let located =
    location_line-lent c.args.names.now c.path_at.result _ c.path_at.ensures
    ∙ sym (ap location_line (path_at-in_bytes c.args.names.now c.args.segments.now c.args.hit.segment)) in
    let wrote : c.push-3.new.self.items
    ≡ c.args.out.now.items ++ line_text (codes "r" ++ decimal c.args.hit.rev ++ codes " " ++ location_line (option_map (λ path. components_of c.args.names.now path.now) c.path_at.result)) =
    grind (arith, common_steps) in
    wrote ∙ ap (λ line. c.args.out.now.items ++ line_text (codes "r" ++ decimal c.args.hit.rev ++ codes " " ++ line)) located
