use Rattle.block_map.proofs.Common.{ap, subst, sym, ◌∙◌, IsNodeOf, path_base_view, base_look, position_view, Node}
use Rattle.block_map.proofs.CopiedNodes.{IsCopiedNode-base, IsNodeOf-untouched}
use Rattle.block_map.proofs.GrownTries.{IsNodeOf-grown}
use Rattle.block_map.proofs.Positions.{path_base_view-base_of_path}
use Rattle.block_map.proofs.trie.Trie.copied.Goals as goal

pub returns-clause-sound : goal.returns-clause-sound
returns-clause-sound c =
    let old = c.args.self.now in
    let node = c.or_untouched-node.result in
    let before = subst (IsNodeOf old) (sym c.or_untouched-node.ensures) (IsNodeOf-untouched old c.args.position.node c.requires.node) in
    let is = IsNodeOf-grown old c.node_base.new.self c.node_base.ensures.before c.in_ok-base.ensures.grown node before in
    (is.0, c.in_ok-base.ensures.location, is.2)

pub returns-clause-exact : goal.returns-clause-exact
returns-clause-exact c =
    let old = c.args.self.now in
    let path = c.args.path.now in
    let node = c.or_untouched-node.result in
    rw c.or_untouched-node.ensures
    (IsCopiedNode-base old c.node_base.new.self c.node_base.ensures.before c.in_ok-base.ensures.grown (position_view old path c.args.position) c.requires.node c.in_ok-base.base
    (λ over. c.in_ok-base.ensures.exact over ∙ ap (path_base_view old path) c.base_of_path-base.ensures
    ∙ path_base_view-base_of_path old node.base path c.args.position.base ∙ ap (λ (each : Node). base_look old each.base (path_base_view old path c.args.position.base)) c.or_untouched-node.ensures))
