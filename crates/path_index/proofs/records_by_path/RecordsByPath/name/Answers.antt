use Rattle.path_index.proofs.Common.{◌≡◌, ◌+◌, Some, refl, take, length, sym, ap, ◌∙◌, arith, take_all, node_of}
use Rattle.path_index.proofs.EntriesOfPaths.{AddsEntries-root, AddsEntries-next, ExtendsNodes-none, ExtendsNodes-again}
use Rattle.path_index.proofs.NodesOfPaths.{node_of-grown, node_of-take_more, node_of-within}
use Rattle.path_index.proofs.records_by_path.RecordsByPath.name.Goals as goal

pub loop-name-init : goal.loop-name-init
loop-name-init c =
    let parts = c.parts-name-items.result.now in
    record {
      node = refl;
      grown = ExtendsNodes-none;
      named = AddsEntries-root parts c.args.rev (omega (arith, c.ranges.rev.fits)) c.in_ok-insert.ensures.added;
      added = refl;
      copied = refl;
    }

pub add_likely-requires : goal.add_likely-requires
add_likely-requires c = node_of-within c.loop-name.self.nodes (take c.loop-name.name-index c.parts-name-items.result.now) c.loop-name.node c.loop-name.invariant.node

pub loop-name-preserved : goal.loop-name-preserved
loop-name-preserved c =
    let nodes = c.add_likely.new.self in
    let parts = c.parts-name-items.result.now in
    let n = c.loop-name.name-index in
    let so = c.loop-name.invariant in
    let grown = c.in_ok-node.ensures.grown in
    let node : node_of nodes (take (n + 1) parts) ≡ Some c.in_ok-node.node =
    node_of-take_more nodes parts n (record { 0 = 0 }) c.loop-name.node c.loop-name-test.true (node_of-grown (take n parts) grown so.node)
    ∙ c.in_ok-node.ensures.node in
    record {
      node = node;
      grown = ExtendsNodes-again so.grown grown;
      named = AddsEntries-next parts n c.args.rev grown so.named node (omega (arith, c.ranges.rev.fits)) c.in_ok-insert-2.ensures.added;
      added = so.added;
      copied = so.copied;
    }

pub returns-clause-node : goal.returns-clause-node
returns-clause-node c =
    let parts = c.parts-name-items.result.now in
    ap (node_of c.loop-name.self.nodes) (sym c.parts-name-items.ensures ∙ sym (take_all c.loop-name.name-index parts (omega arith))) ∙ c.loop-name.invariant.node

pub returns-clause-named : goal.returns-clause-named
returns-clause-named c =
    let parts = c.parts-name-items.result.now in
    let whole : parts ≡ c.args.path.now = c.parts-name-items.ensures in
    let all : c.loop-name.name-index ≡ length c.args.path.now = omega (arith, ap length whole, c.loop-name-test.false, c.loop-name.auto.name-index-end) in
    rw (whole, all) at c.loop-name.invariant.named
