use Rattle.block_map.proofs.Common.{refl, IfOk-weaker, HasSides, HasTwo, ChildMapId}
use Rattle.block_map.proofs.ChildMapLookups.{HasTwo-same_side, HasTwo-other_side}
use Rattle.block_map.proofs.trie.child_maps.ChildMaps.+split.Goals as goal

pub returns-then-one-other-clause-exact : goal.returns-then-one-other-clause-exact
returns-then-one-other-clause-exact t c =
    let mid = c.split.new.self in
    let new = c.push_sides.new.self in
    let both = c.in_ok-both.both in
    let none : ChildMapId = record { 0 = 0 } in
    IfOk-weaker c.push_sides.result (HasSides mid new c.args.one both none) (HasTwo new c.args.one c.args.one_node c.args.other c.args.other_node)
    (λ map sides.
    HasTwo-same_side mid new c.args.one c.args.one_node c.args.other c.args.other_node both none map c.if-one-other.true refl
    c.in_ok-both.ensures.exact sides)
    c.push_sides.ensures.exact

pub returns-then-one-other-clause-nodes : goal.returns-then-one-other-clause-nodes
returns-then-one-other-clause-nodes t c count below one_within other_within =
    c.push_sides.ensures.nodes count (c.in_ok-both.ensures.nodes count below one_within other_within)

pub returns-clause-exact : goal.returns-clause-exact
returns-clause-exact t c =
    let first = c.push_leaf.new.self in
    let mid = c.push_leaf-2.new.self in
    let new = c.push_sides-2.new.self in
    let one_map = c.in_ok-one_map.one_map in
    let other_map = c.in_ok-other_map.other_map in
    IfOk-weaker c.push_sides-2.result (HasSides mid new c.args.one one_map other_map)
    (HasTwo new c.args.one c.args.one_node c.args.other c.args.other_node)
    (λ map sides.
    HasTwo-other_side first mid new c.args.one c.args.one_node c.args.other c.args.other_node one_map other_map map c.if-one-other.false
    c.push_leaf.ensures.ordered c.in_ok-other_map.ensures.more c.in_ok-one_map.ensures.within c.in_ok-one_map.ensures.exact
    c.in_ok-other_map.ensures.exact sides)
    c.push_sides-2.ensures.exact

pub returns-clause-nodes : goal.returns-clause-nodes
returns-clause-nodes t c count below one_within other_within =
    c.push_sides-2.ensures.nodes count (c.in_ok-other_map.ensures.nodes count (c.in_ok-one_map.ensures.nodes count below one_within) other_within)

pub returns-in_err-one_map-clause-nodes : goal.returns-in_err-one_map-clause-nodes
returns-in_err-one_map-clause-nodes t c count below one_within other_within = c.push_leaf.ensures.nodes count below one_within

pub returns-in_err-other_map-clause-nodes : goal.returns-in_err-other_map-clause-nodes
returns-in_err-other_map-clause-nodes t c count below one_within other_within =
    c.push_leaf-2.ensures.nodes count (c.push_leaf.ensures.nodes count below one_within) other_within
