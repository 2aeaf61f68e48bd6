use Rattle.svn_dump.proofs.Common.{false, true, lt-ltb, not, refl, sym, ap, ◌∙◌, arith, nat_lt, node_action_view, node_of_front, first_holding}
use Rattle.svn_dump.proofs.Nodes.{against}
use Rattle.svn_dump.proofs.grammar.node.refusal_of.Goals as goal

pub returns-then-has_dot_in_paths : goal.returns-then-has_dot_in_paths
unfolding first_holding
returns-then-has_dot_in_paths c =
    against c.args.rev (node_of_front c.args.found.now c.args.path.now) (node_action_view c.args.action) true _ _ _ _
    (sym c.has_dot_in_paths.ensures ∙ c.if-has_dot_in_paths.true) refl refl refl refl

pub returns-then-is_delta : goal.returns-then-is_delta
unfolding first_holding
returns-then-is_delta c =
    against c.args.rev (node_of_front c.args.found.now c.args.path.now) (node_action_view c.args.action) false true _ _ _
    (sym c.has_dot_in_paths.ensures ∙ c.if-has_dot_in_paths.false) (sym c.is_delta.ensures ∙ c.if-is_delta.true) refl refl refl

pub returns-then-has_late_source : goal.returns-then-has_late_source
unfolding first_holding
returns-then-has_late_source c =
    against c.args.rev (node_of_front c.args.found.now c.args.path.now) (node_action_view c.args.action) false false true _ _
    (sym c.has_dot_in_paths.ensures ∙ c.if-has_dot_in_paths.false) (sym c.is_delta.ensures ∙ c.if-is_delta.false) (sym c.has_late_source.ensures ∙ c.if-has_late_source.true) refl refl

pub returns-then-is_root_action : goal.returns-then-is_root_action
unfolding first_holding
returns-then-is_root_action c =
    against c.args.rev (node_of_front c.args.found.now c.args.path.now) (node_action_view c.args.action) false false false true _
    (sym c.has_dot_in_paths.ensures ∙ c.if-has_dot_in_paths.false) (sym c.is_delta.ensures ∙ c.if-is_delta.false) (sym c.has_late_source.ensures ∙ c.if-has_late_source.false) (sym c.is_root_action.ensures ∙ c.if-is_root_action.true) refl

pub returns-then-rev-eq0 : goal.returns-then-rev-eq0
unfolding first_holding
returns-then-rev-eq0 c =
    against c.args.rev (node_of_front c.args.found.now c.args.path.now) (node_action_view c.args.action) false false false false true
    (sym c.has_dot_in_paths.ensures ∙ c.if-has_dot_in_paths.false) (sym c.is_delta.ensures ∙ c.if-is_delta.false) (sym c.has_late_source.ensures ∙ c.if-has_late_source.false) (sym c.is_root_action.ensures ∙ c.if-is_root_action.false) (ap (λ n. not (nat_lt 0 n)) c.if-rev-eq0.true)

pub returns-else-rev-eq0 : goal.returns-else-rev-eq0
unfolding first_holding
returns-else-rev-eq0 c =
    against c.args.rev (node_of_front c.args.found.now c.args.path.now) (node_action_view c.args.action) false false false false false
    (sym c.has_dot_in_paths.ensures ∙ c.if-has_dot_in_paths.false) (sym c.is_delta.ensures ∙ c.if-is_delta.false) (sym c.has_late_source.ensures ∙ c.if-has_late_source.false) (sym c.is_root_action.ensures ∙ c.if-is_root_action.false) (ap not (lt-ltb 0 c.args.rev (omega (arith, c.if-rev-eq0.false))))
