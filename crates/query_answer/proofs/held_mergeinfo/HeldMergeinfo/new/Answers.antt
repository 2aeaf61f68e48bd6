use Rattle.query_answer.proofs.Common.{ap, sym, ◌∙◌, components_of, own_or_below}
use Rattle.query_answer.proofs.HeldRevisions.{own_or_below-empty}
use Rattle.query_answer.proofs.held_mergeinfo.HeldMergeinfo.new.Goals.{then-is_empty, else-is_empty}
use Rattle.query_answer.proofs.held_mergeinfo.HeldMergeinfo.new.Goals as goal

pub returns-clause-value : goal.returns-clause-value
returns-clause-value c = λ names.
    let rest = components_of names c.args.rest.now in
    let kept = components_of names c.if-is_empty.rest.now in
    elim c.if-is_empty.branch [
      | then-is_empty w ↦
          let empty = c.is_empty.ensures.empty.0 w.if-is_empty.true in
          ap (own_or_below kept) empty ∙ own_or_below-empty kept ∙ sym (ap (own_or_below rest) empty ∙ own_or_below-empty rest)
      | else-is_empty w ↦ ap (λ each. own_or_below (components_of names each.now) c.args.value.now) w.rest-is
    ]
