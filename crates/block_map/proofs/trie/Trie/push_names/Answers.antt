use Rattle.block_map.proofs.Common.{◌≡◌, [], ◌∷◌, ◌++◌, subst, IfOk-weaker, IsLocationOfPath, TrieValue, at_root, found_below}
use Rattle.block_map.specs.Children.{AreOthersAt, HaveMapNames}
use Rattle.block_map.proofs.ChildrenFound.{AreOthersAt-node}
use Rattle.block_map.proofs.trie.Trie.push_names.Goals as goal

pub returns-clause-others : goal.returns-clause-others
returns-clause-others c =
    let trie = c.args.self.now in
    let root = c.args.root in
    let path = c.args.path.now in
    let node = c.in-Some.node in
    let names = c.push_names.new.names.items in
    let has = subst (λ (each : TrieValue). HaveMapNames each.child_maps node.children 0 1 names) c.self.view_is c.in_ok-push_names.ensures.all in
    IfOk-weaker c.location-2.result (IsLocationOfPath trie path c.base_of_path-base.result)
    (AreOthersAt (λ name found. found_below trie (at_root root) (path ++ name ∷ []) ≡ found) names)
    (λ base location.
    AreOthersAt-node trie root path c.find-position.result c.find-position.ensures node names base c.in-Some.is has
    (subst (λ each. IsLocationOfPath trie path each base) c.base_of_path-base.ensures location))
    c.location-2.ensures.location
