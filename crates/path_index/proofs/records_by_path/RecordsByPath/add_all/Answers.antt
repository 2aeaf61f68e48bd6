use Rattle.path_index.proofs.Common.{◌+◌, ◌++◌, Some, slice_get, sym, ap, subst, ◌∙◌, arith, length-append, slice_get-get_or, AreListed, slice_get-second}
use Rattle.path_index.proofs.EntriesOfPaths.{AreListed-longer}
use Rattle.path_index.proofs.records_by_path.RecordsByPath.add_all.Goals as goal

pub returns : goal.returns
returns c = λ before is by.
    let records = c.args.records.now in
    let by_path = c.loop-index.self in
    let long = length-append before records in
    let few = c.requires in
    record {
      few = omega (arith, few, is, long);
      listed = subst (λ n. AreListed (before ++ records) n by_path.nodes by_path.added by_path.copied by_path.named) (omega (arith, is, long, c.loop-index-test.false, c.loop-index.auto.index-end)) (c.loop-index.invariant before is by);
    }

pub loop-index-init : goal.loop-index-init
loop-index-init c = λ before is by.
    let by_path = c.args.self.now in
    subst (λ n. AreListed (before ++ c.args.records.now) n by_path.nodes by_path.added by_path.copied by_path.named) (omega (arith, is)) (AreListed-longer c.args.records.now by.listed)

pub loop-index-preserved : goal.loop-index-preserved
loop-index-preserved c = λ before is by.
    let records = c.args.records.now in
    let each = c.index-records-index.result in
    let by_path = c.add.new.self in
    let at = slice_get-get_or records c.loop-index.index each c.loop-index-test.true ∙ ap Some (sym c.index-records-index.is) in
    subst (λ n. AreListed (before ++ records) n by_path.nodes by_path.added by_path.copied by_path.named) (omega arith)
    (c.in_ok-add.ensures (before ++ records) (ap (λ n. slice_get (before ++ records) (n + c.loop-index.index)) (sym is) ∙ slice_get-second before records c.loop-index.index each at) (c.loop-index.invariant before is by))
