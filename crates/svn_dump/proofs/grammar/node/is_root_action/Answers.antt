use Rattle.svn_dump.proofs.Common.{◌&&◌, not, sym, ap, ap₂, ◌∙◌, is_change, node_action_view}
use Rattle.svn_dump.proofs.Nodes.{is_root-slashes}
use Rattle.svn_dump.proofs.grammar.node.is_root_action.Goals as goal

pub returns-then-is_root : goal.returns-then-is_root
returns-then-is_root c =
    sym (ap₂ (λ root changes. root && not changes) (sym (is_root-slashes c.args.path.now) ∙ sym c.is_root.ensures ∙ c.if-is_root.true) (sym c.is_change.ensures))

pub returns-else-is_root : goal.returns-else-is_root
returns-else-is_root c =
    let none = sym (is_root-slashes c.args.path.now) ∙ sym c.is_root.ensures ∙ c.if-is_root.false in
    c.if-is_root.false ∙ sym (ap (λ root. root && not (is_change (node_action_view c.args.action))) none)
