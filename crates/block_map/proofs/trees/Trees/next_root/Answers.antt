use Rattle.block_map.proofs.Common.{List, Some, None, subst, sym, NameId, record_view, AreTrees, IsNodeAfter, SameTrees, ShowsTick, action_in, end_of_trees, record_at_tick, IsNodeOf, PutsNode, Trees, Node}
use Rattle.block_map.proofs.Results.{IfOk-both}
use Rattle.block_map.proofs.TreesLooks.{AreTrees-same, IsRootAfter-kept, IsRootAfter-put, ShowsTick-same, end_of_trees-same}
use Rattle.block_map.proofs.GrownTries.{IsNodeOf-grown}
use Rattle.block_map.proofs.trees.Trees.next_root.Goals as goal

-- the root is one of the same trees with more locations
root_of_same : (one two : Trees) (root : Node) → SameTrees one two → AreTrees one → IsNodeOf one.trie root → IsNodeOf two.trie root
root_of_same one two root same is sound = IsNodeOf-grown one.trie two.trie is.sound same.trie root sound

-- and shows the same
shows_of_same : (one two : Trees) (root : Node) → SameTrees one two → AreTrees one → IsNodeOf one.trie root → ShowsTick one (end_of_trees one) root → ShowsTick two (end_of_trees two) root
shows_of_same one two root same is sound shows =
    subst (λ tick. ShowsTick two tick root) (sym (end_of_trees-same one two same)) (ShowsTick-same one two (end_of_trees one) root is.sound same sound shows)

pub node_after-requires-clause-trees : goal.node_after-requires-clause-trees
node_after-requires-clause-trees c = AreTrees-same c.args.self.now c.newest.new.self c.requires.trees c.in_ok-root.ensures.same

pub put-requires-clause-before : goal.put-requires-clause-before
put-requires-clause-before c =
    let is = AreTrees-same c.args.self.now c.newest.new.self c.requires.trees c.in_ok-root.ensures.same in
    root_of_same c.newest.new.self c.node_after.new.self c.in_ok-root.root c.in_ok-node.ensures.same is c.in_ok-root.ensures.sound

pub same_root-requires-clause-trees : goal.same_root-requires-clause-trees
same_root-requires-clause-trees c =
    let is = AreTrees-same c.args.self.now c.newest.new.self c.requires.trees c.in_ok-root.ensures.same in
    AreTrees-same c.newest.new.self c.node_after.new.self is c.in_ok-node.ensures.same

pub same_root-requires-clause-sound : goal.same_root-requires-clause-sound
same_root-requires-clause-sound c =
    let is = AreTrees-same c.args.self.now c.newest.new.self c.requires.trees c.in_ok-root.ensures.same in
    root_of_same c.newest.new.self c.node_after.new.self c.in_ok-root.root c.in_ok-node.ensures.same is c.in_ok-root.ensures.sound

pub same_root-requires-clause-shows : goal.same_root-requires-clause-shows
same_root-requires-clause-shows c =
    let is = AreTrees-same c.args.self.now c.newest.new.self c.requires.trees c.in_ok-root.ensures.same in
    shows_of_same c.newest.new.self c.node_after.new.self c.in_ok-root.root c.in_ok-node.ensures.same is c.in_ok-root.ensures.sound c.in_ok-root.ensures.shows

pub returns-in_ok-node-in-Some-clause-shows : goal.returns-in_ok-node-in-Some-clause-shows
returns-in_ok-node-in-Some-clause-shows c =
    let one = c.newest.new.self in
    let two = c.node_after.new.self in
    let root = c.in_ok-root.root in
    let path = c.args.each.now.path in
    let each = record_at_tick c.args.ends.now (record_view c.args.each.now) in
    let is = AreTrees-same c.args.self.now one c.requires.trees c.in_ok-root.ensures.same in
    let shows = shows_of_same one two root c.in_ok-node.ensures.same is c.in_ok-root.ensures.sound c.in_ok-root.ensures.shows in
    let after : IsNodeAfter two root path (action_in c.args.ends.now c.args.each.now) (Some c.in-Some.node) =
    subst (IsNodeAfter two root path (action_in c.args.ends.now c.args.each.now)) c.in-Some.is c.in_ok-node.ensures.after in
    let puts : PutsNode two.trie c.put.new.self (Some root) path c.in-Some.node c.in_ok-node-in-Some.node =
    subst (λ (whole : List NameId). PutsNode two.trie c.put.new.self (Some root) whole c.in-Some.node c.in_ok-node-in-Some.node) c.parts.ensures c.in_ok-node-in-Some.ensures.exact in
    IfOk-both c.push.result _ _ _
    (λ id at added. IsRootAfter-put two c.put.new.self c.push.new.self root c.in-Some.node c.in_ok-node-in-Some.node each id
    c.push.ensures.trie c.in_ok-node-in-Some.ensures.sound shows after.1 puts at added)
    c.push.ensures.id c.push.ensures.added

pub returns-in-None-clause-shows : goal.returns-in-None-clause-shows
returns-in-None-clause-shows c =
    let two = c.node_after.new.self in
    let three = c.same_root.new.self in
    let each = record_at_tick c.args.ends.now (record_view c.args.each.now) in
    let leaves : IsNodeAfter two c.in_ok-root.root c.args.each.now.path (action_in c.args.ends.now c.args.each.now) None =
    subst (IsNodeAfter two c.in_ok-root.root c.args.each.now.path (action_in c.args.ends.now c.args.each.now)) c.in-None.is c.in_ok-node.ensures.after in
    IfOk-both c.same_root.result _ _ _ (λ id root same. IsRootAfter-kept two three each id same root leaves) c.same_root.ensures.shows c.same_root.ensures.same
