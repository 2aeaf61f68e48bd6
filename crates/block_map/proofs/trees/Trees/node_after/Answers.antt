use Rattle.block_map.proofs.Common.{◌≡◌, unwrap_or, get_or, subst, ap, ◌∙◌, None, mergeinfo_after, setting_view, ShowsPath, absent_node, node_of_kind, untouched, IsNodeOf, IsPositionOf, at_path, at_root}
use Rattle.svn_dump.specs.declared.record.Act.TheVariants as act
use Rattle.svn_dump.specs.declared.record.Mi.TheVariants as mi
use Rattle.block_map.proofs.CopiedNodes.{IsNodeOf-untouched}
use Rattle.block_map.proofs.MergeinfoGiven.{IsNodeOf-childless}
use Rattle.block_map.proofs.RecordNodes.{IsNodeOf-with_setting, ShowsAction-add, ShowsAction-change, ShowsAction-copy, ShowsAction-delete}
use Rattle.block_map.proofs.trees.Trees.node_after.Goals as goal

pub returns-in-Delete-clause-after : goal.returns-in-Delete-clause-after
returns-in-Delete-clause-after c =
    let trees = c.args.self.now in
    let sound = IsNodeOf-childless trees.trie absent_node.own absent_node.base absent_node.may_give_mergeinfo_below tt in
    rw (c.absent.ensures, c.in-Delete.is) (sound, ShowsAction-delete trees c.args.root c.args.each.now.path)

pub returns-in-Add-clause-after : goal.returns-in-Add-clause-after
returns-in-Add-clause-after c =
    let trees = c.args.self.now in
    let mi = mergeinfo_after (setting_view c.in-Add.mi) None in
    let node = node_of_kind c.in-Add.kind mi in
    let sound = IsNodeOf-childless trees.trie node.own node.base node.may_give_mergeinfo_below tt in
    rw (c.is.ensures, c.mergeinfo_of_addition.ensures, c.in-Add.is)
    (sound, ShowsAction-add trees c.args.root c.args.each.now.path c.in-Add.replace c.in-Add.kind (setting_view c.in-Add.mi))

pub returns-in-Put-clause-after : goal.returns-in-Put-clause-after
returns-in-Put-clause-after c =
    let trees = c.args.self.now in
    let path = c.args.each.now.path in
    let from = at_path trees.trie (at_root c.args.root) path in
    let position = c.find-position.result in
    let found : IsPositionOf trees.trie c.args.root path position = subst (λ whole. IsPositionOf trees.trie c.args.root whole position) c.parts.ensures c.find-position.ensures in
    let untouched_is : c.or_untouched.result ≡ unwrap_or from.node untouched = c.or_untouched.ensures ∙ ap (λ at. unwrap_or at.node untouched) found.is in
    let sound : IsNodeOf trees.trie c.or_untouched.result = rw c.or_untouched.ensures (IsNodeOf-untouched trees.trie position.node found.node) in
    let act : c.args.each.now.act ≡ act.Change (mi.Put c.in-Put.mi) = c.in-Change.is ∙ ap act.Change c.in-Put.is in
    rw (c.with_mergeinfo.ensures, untouched_is, act)
    (subst (IsNodeOf trees.trie) untouched_is sound, ShowsAction-change trees c.args.root path c.in-Put.mi c.requires.shows)

pub returns-in_ok-node-in-Copy-clause-after : goal.returns-in_ok-node-in-Copy-clause-after
returns-in_ok-node-in-Copy-clause-after c =
    let trees = c.node_at.new.self in
    let path = c.args.each.now.path in
    let node = c.in_ok-node-in-Copy.node in
    let tick : c.at.result ≡ get_or c.args.ends.now c.in-Copy.from_rev 0 = c.at.ensures in
    let shows : ShowsPath trees (get_or c.args.ends.now c.in-Copy.from_rev 0) c.in-Copy.from node =
    rw (← tick, ← c.parts-in-Copy.ensures) c.in_ok-node-in-Copy.ensures.shows in
    rw (c.with_setting.ensures, c.in-Copy.is) (
      IsNodeOf-with_setting trees.trie (setting_view c.in-Copy.mi) node c.in_ok-node-in-Copy.ensures.sound,
      ShowsAction-copy trees c.args.root path c.in-Copy.replace c.in-Copy.from (get_or c.args.ends.now c.in-Copy.from_rev 0) (setting_view c.in-Copy.mi) node shows,
    )
