use Rattle.block_map.proofs.Common.{◌≡◌, ◌≢◌, ◌<◌, None, refl, List, [], ◌∷◌, Some, arith, length, length_push, sym, ap, subst, ◌∙◌, slice_get, eq-eqb, eqb-true, nil_from_length, NameId, ShowsPath, IsNodeOf, absent_node, node_at_location, node_of_kind, Trees, TrieValue}
use Rattle.svn_dump.specs.declared.record.Kind.TheVariants.{Dir}
use Rattle.block_map.proofs.GrownTries.{slice_get-last}
use Rattle.block_map.proofs.MergeinfoGiven.{IsNodeOf-childless}
use Rattle.block_map.proofs.TreesNodes.{ShowsPath-absent, ShowsPath-location, ShowsPath-root}
use Rattle.block_map.proofs.trees.Trees.node_before.Goals as goal

pub returns-then-is_empty-clause-sound : goal.returns-then-is_empty-clause-sound
returns-then-is_empty-clause-sound c =
    let node = node_of_kind Dir None in
    let trie = c.args.self.now.trie in
    subst (IsNodeOf trie) (sym c.is.ensures) (IsNodeOf-childless trie node.own node.base node.may_give_mergeinfo_below tt)

pub returns-else-is_empty-clause-sound : goal.returns-else-is_empty-clause-sound
returns-else-is_empty-clause-sound c =
    let trie = c.args.self.now.trie in
    subst (IsNodeOf trie) (sym c.absent.ensures)
    (IsNodeOf-childless trie absent_node.own absent_node.base absent_node.may_give_mergeinfo_below tt)

pub returns-clause-sound : goal.returns-clause-sound
returns-clause-sound c =
    let trie = c.push_location.new.self in
    let id = c.in_ok-location.location in
    let node = node_at_location id in
    let count = ap (λ (each : TrieValue). length each.locations) c.in_ok-location.ensures.added ∙ length_push c.args.self.now.trie.locations _ in
    let within : id.0 < length trie.locations = omega (arith, c.in_ok-location.ensures.id, count) in
    subst (IsNodeOf trie) (sym c.at.ensures) (IsNodeOf-childless trie node.own node.base node.may_give_mergeinfo_below within)

pub returns-then-is_empty-clause-shows : goal.returns-then-is_empty-clause-shows
returns-then-is_empty-clause-shows c =
    let root : c.args.path.now ≡ [] = nil_from_length c.args.path.now (eqb-true (length c.args.path.now) 0 (sym c.is_empty.ensures ∙ c.if-is_empty.true)) in
    rw (c.is.ensures, root) (ShowsPath-root c.args.self.now c.args.tick c.if-self-eq0.true c.requires.before)

pub returns-else-is_empty-clause-shows : goal.returns-else-is_empty-clause-shows
returns-else-is_empty-clause-shows c = rw c.absent.ensures (by c.args.path.now (λ none. let never = sym (eq-eqb (length c.args.path.now) 0 none) ∙ sym c.is_empty.ensures ∙ c.if-is_empty.false in cc))
  where
    by : (path : List NameId) → length path ≢ 0 → ShowsPath c.args.self.now c.args.tick path absent_node
    by [] some = absurd (some refl)
    by (name ∷ path) some = ShowsPath-absent c.args.self.now c.args.tick name path c.if-self-eq0.true c.requires.before

pub returns-clause-shows : goal.returns-clause-shows
returns-clause-shows c =
    let trees : Trees = record c.args.self.now { trie = c.push_location.new.self } in
    let path = c.in_ok-path.ensures in
    let kept : slice_get c.push_location.new.self.locations c.in_ok-location.location.0 ≡ Some (record { path = c.args.path.now; tick = c.args.tick }) =
    ap (λ trie. slice_get trie.locations c.in_ok-location.location.0) c.in_ok-location.ensures.added
    ∙ slice_get-last c.args.self.now.trie.locations _ c.in_ok-location.location.0 c.in_ok-location.ensures.id
    ∙ ap (λ front. Some (record { path = front; tick = c.args.tick })) path in
    rw c.at.ensures (ShowsPath-location trees c.args.tick c.args.path.now c.in_ok-location.location c.if-self-eq0.false c.requires.before kept)
