use Rattle.block_map.proofs.Common.{◌≡◌, ap, length, subst, unwrap_or, ◌∙◌, IsLocationOfPath, base_of_path, untouched, Node}
use Rattle.std.specs.Prelude.{IsFalse}
use Rattle.block_map.proofs.MergeinfoLacked.{IsMergeinfoBelow-found}
use Rattle.block_map.proofs.trie.Trie.mergeinfo_below.Goals as goal

pub returns : goal.returns
returns c =
    let trie = c.args.self.now in
    let path = c.args.path.now in
    let position = c.find-position.result in
    let location = c.in_ok-location.field-0 in
    let node : Node = unwrap_or position.node untouched in
    let none = subst (λ (each : Node). IsFalse each.may_give_mergeinfo_below) c.or_untouched-node.ensures c.if-node.false in
    let base : c.base_of_path-base.result ≡ base_of_path node.base position.base (length path) =
    c.base_of_path-base.ensures ∙ ap (λ (each : Node). base_of_path each.base position.base (length path)) c.or_untouched-node.ensures in
    IsMergeinfoBelow-found trie c.location.ensures.sound c.args.root path position location c.find-position.ensures none
    (subst (λ each. IsLocationOfPath trie path each location) base c.in_ok-location.ensures.location)
