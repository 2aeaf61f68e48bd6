use Rattle.svn_dump.proofs.Common.{◌≡◌, pred, ◌||◌, sym, ap, ◌∙◌, arith, eq-eqb, sub-one, is_none, ◌==◌, option_map, action_refusals, first_holding, setting_from_section, node_action_view, node_action_from_headers, node_of_front, mi_text_view, or-true}
use Rattle.svn_dump.proofs.Nodes.{refused_section, refused_record, refused_action}
use Rattle.svn_dump.proofs.grammar.node.accepted_node.Goals as goal
use Rattle.svn_dump.proofs.grammar.node.accepted_node.Goals.{in_default-2-via-in-Some+in_default, in_default-2-via-in_default}

pub returns-in_default-clause-refused : goal.returns-in_default-clause-refused
returns-in_default-clause-refused c = λ large. refused_section c.args.revisions (node_of_front c.args.found.now c.args.path.now) large (sym (ap (λ changes. setting_from_section changes c.args.found.now.properties.now) c.has_changes-changes.ensures) ∙ sym c.in_default.ensures)

pub returns-in_default-2-clause-refused : goal.returns-in_default-2-clause-refused
returns-in_default-2-clause-refused c = λ large.
    refused_record c.args.revisions (node_of_front c.args.found.now c.args.path.now) large (mi_text_view c.in-Some.mergeinfo) (sym (ap (λ changes. setting_from_section changes c.args.found.now.properties.now) c.has_changes-changes.ensures) ∙ sym c.in-Some.ensures) (elim c.in_default-2.branch [
      | in_default-2-via-in-Some+in_default w ↦
          ap (λ o. c.args.revisions == 0 || is_none o) (sym c.of-2.ensures ∙ ap (option_map node_action_view) w.in_default-2.is-1) ∙ or-true (c.args.revisions == 0)
      | in_default-2-via-in_default w ↦
          ap (λ none. none || is_none (node_action_from_headers c.args.found.now.headers)) (eq-eqb c.args.revisions 0 (omega arith))
    ])

pub returns-in-Some-refusal_of-clause-refused : goal.returns-in-Some-refusal_of-clause-refused
returns-in-Some-refusal_of-clause-refused c = λ large.
    let rev_is : c.in-Some-Some.rev ≡ pred c.args.revisions = c.in-Some-Some.ensures.1 ∙ sub-one c.args.revisions in
    refused_action c.args.revisions (node_of_front c.args.found.now c.args.path.now) large (mi_text_view c.in-Some.mergeinfo) (sym (ap (λ changes. setting_from_section changes c.args.found.now.properties.now) c.has_changes-changes.ensures) ∙ sym c.in-Some.ensures) (node_action_view c.in-Some-Some.action)
    (sym c.of-2.ensures ∙ ap (option_map node_action_view) c.in-Some-Some.is-1) (omega (arith, c.in-Some-Some.ensures)) c.in-Some-refusal_of.refusal
    (ap (λ rev. first_holding (action_refusals rev (node_of_front c.args.found.now c.args.path.now) (node_action_view c.in-Some-Some.action))) (sym rev_is) ∙ sym c.refusal_of.ensures ∙ c.in-Some-refusal_of.is)
