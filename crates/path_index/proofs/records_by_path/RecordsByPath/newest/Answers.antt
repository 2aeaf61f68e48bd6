use Rattle.path_index.proofs.Common.{◌≡◌, ◌+◌, None, Some, take, refl, sym, ap, ◌∙◌, take_all, node_of}
use Rattle.path_index.proofs.NewestRecords.{IsNewestBelow-root, IsNewestBelow-next, IsNewestBelow-stop, IsNewestBelow-end}
use Rattle.path_index.proofs.NodesOfPaths.{node_of-take_more}
use Rattle.path_index.proofs.records_by_path.RecordsByPath.newest.Goals as goal

pub loop-name-init : goal.loop-name-init
loop-name-init c = record {
  found = refl;
  newest = IsNewestBelow-root c.args.self.now c.parts-name-items.result.now c.args.count c.newest_below-newest.result c.newest_below-newest.ensures;
}

pub returns-in-None : goal.returns-in-None
returns-in-None c =
    let parts = c.parts-name-items.result.now in
    let n = c.loop-name.name-index in
    let none : node_of c.args.self.now.nodes (take (n + 1) parts) ≡ None =
    node_of-take_more c.args.self.now.nodes parts n (record { 0 = 0 }) c.loop-name.node c.loop-name-test.true c.loop-name.invariant.found ∙ sym c.child.ensures ∙ c.in-None.is in
    rw c.parts-name-items.ensures at (IsNewestBelow-stop c.args.self.now parts c.args.count n c.loop-name.newest c.loop-name.invariant.newest c.loop-name-test.true none)

pub loop-name-preserved : goal.loop-name-preserved
loop-name-preserved c =
    let parts = c.parts-name-items.result.now in
    let n = c.loop-name.name-index in
    let found : node_of c.args.self.now.nodes (take (n + 1) parts) ≡ Some c.in-Some.child =
    node_of-take_more c.args.self.now.nodes parts n (record { 0 = 0 }) c.loop-name.node c.loop-name-test.true c.loop-name.invariant.found ∙ sym c.child.ensures ∙ c.in-Some.is in
    record {
      found = found;
      newest = rw c.newer-newest.ensures
          (IsNewestBelow-next c.args.self.now parts c.args.count n c.loop-name.newest c.loop-name.invariant.newest c.in-Some.child c.newest_below.result found c.newest_below.ensures);
    }

pub returns : goal.returns
returns c =
    let parts = c.parts-name-items.result.now in
    let n = c.loop-name.name-index in
    let whole : node_of c.args.self.now.nodes parts ≡ Some c.loop-name.node =
    ap (node_of c.args.self.now.nodes) (sym (take_all n parts c.loop-name-test.false)) ∙ c.loop-name.invariant.found in
    rw c.newer.ensures
    (rw c.parts-name-items.ensures at
    (IsNewestBelow-end c.args.self.now parts c.args.count n c.loop-name.newest c.loop-name.invariant.newest c.loop-name-test.false c.loop-name.node c.newest_below-2.result whole c.newest_below-2.ensures))
