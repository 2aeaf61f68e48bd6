use Rattle.block_map.proofs.Common.{◌≡◌, ◌+◌, List, [], Option, length, take, refl, ap, ◌∙◌, arith, option_map, length-take-le, mergeinfo_of, standing_of, IsPositionOf, TrieValue, at_root, found_at, found_below, Node, NameId, ValueId}
use Rattle.std.proofs.lemmas.List.{take_all}
use Rattle.block_map.proofs.NearestFound.{IsNearestOrNone-all, IsNearestUpTo-more, IsNearestUpTo-root}
use Rattle.block_map.proofs.Positions.{IsPositionOf-root, IsPositionOf-step}
use Rattle.block_map.proofs.trie.Trie.entry_and_nearest.Goals as goal

abbrev mergeinfo_at : TrieValue → Node → List NameId → Option ValueId
mergeinfo_at trie root above = mergeinfo_of (found_below trie (at_root root) above)

pub loop-depth-init : goal.loop-depth-init
loop-depth-init c = (
  IsPositionOf-root c.args.self.now c.args.root c.requires,
  IsNearestUpTo-root (mergeinfo_at c.args.self.now c.args.root) c.args.path.now c.mergeinfo-nearest.result (c.mergeinfo-nearest.ensures [] refl),
)

pub loop-depth-preserved : goal.loop-depth-preserved
loop-depth-preserved c =
    let trie = c.args.self.now in
    let whole = c.args.path.now in
    let depth = c.loop-depth.depth in
    let path = take depth whole in
    let before = c.loop-depth.invariant.0 in
    let long = length-take-le depth whole c.loop-depth.auto.depth-end in
    let at : IsPositionOf trie c.args.root (take (depth + 1) whole) c.step-position.result =
    IsPositionOf-step trie c.args.root whole depth (record { 0 = 0 }) c.loop-depth.position c.step-position.result
    c.loop-depth-test.true before c.step-position.ensures.node (c.step-position.ensures.base path long before.base) (c.step-position.ensures.is path long before.base) in
    let found = c.mergeinfo.ensures (take (depth + 1) whole) (length-take-le (depth + 1) whole (omega (arith, c.loop-depth-test.true)))
    ∙ ap (λ from. option_map (λ mi. (mi, depth + 1)) (mergeinfo_of (found_at trie from))) at.is in
    (at, rw c.or-nearest.ensures (IsNearestUpTo-more (mergeinfo_at trie c.args.root) whole depth c.mergeinfo.result c.loop-depth.nearest found c.loop-depth.invariant.1))

pub returns : goal.returns
returns c =
    let trie = c.args.self.now in
    let whole = c.args.path.now in
    let depth = c.loop-depth.depth in
    let all : depth ≡ length whole = omega (arith, c.loop-depth.auto.depth-end, c.loop-depth-test.false) in
    let path : take depth whole ≡ whole = take_all depth whole (omega (arith, all)) in (
      c.entry.ensures (take depth whole) ∙ ap (λ from. standing_of (found_at trie from)) c.loop-depth.invariant.0.is
          ∙ ap (λ each. standing_of (found_below trie (at_root c.args.root) each)) path,
      IsNearestOrNone-all (mergeinfo_at trie c.args.root) whole depth c.loop-depth.nearest all c.loop-depth.invariant.1,
    )
