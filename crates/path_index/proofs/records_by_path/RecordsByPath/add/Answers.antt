use Rattle.path_index.proofs.Common.{subst, arith, IsAddition, IsCopy}
use Rattle.path_index.proofs.EntriesOfPaths.{AddsEntries-own, AddsEntries-other, AreListed-more}
use Rattle.path_index.proofs.RecordEffects.{not_IsAddition, not_IsCopy}
use Rattle.path_index.proofs.records_by_path.RecordsByPath.add.Goals as goal

pub returns-in_ok-insert-in-Add : goal.returns-in_ok-insert-in-Add
returns-in_ok-insert-in-Add c = λ records at so.
    let ensures = c.in_ok-node.ensures in
    AreListed-more ensures.grown at so
    (AddsEntries-own IsAddition c.args.each.now (rw c.in-Add.is tt) ensures.node (omega (arith, c.ranges.index.fits)) (rw ensures.added at c.in_ok-insert-in-Add.ensures))
    (rw ensures.copied (AddsEntries-other IsCopy c.args.each.now (subst IsCopy c.in-Add.is))) ensures.named

pub returns-in_ok-insert-in-Copy : goal.returns-in_ok-insert-in-Copy
returns-in_ok-insert-in-Copy c = λ records at so.
    let ensures = c.in_ok-node.ensures in
    AreListed-more ensures.grown at so (rw ensures.added (AddsEntries-other IsAddition c.args.each.now (subst IsAddition c.in-Copy.is)))
    (AddsEntries-own IsCopy c.args.each.now (rw c.in-Copy.is tt) ensures.node (omega (arith, c.ranges.index.fits)) (rw ensures.copied at c.in_ok-insert-in-Copy.ensures))
    ensures.named

pub returns-in_default : goal.returns-in_default
returns-in_default c = λ records at so.
    let ensures = c.in_ok-node.ensures in
    AreListed-more ensures.grown at so (rw ensures.added (AddsEntries-other IsAddition c.args.each.now (not_IsAddition c.args.each.now.act c.in_default.not-Add)))
    (rw ensures.copied (AddsEntries-other IsCopy c.args.each.now (not_IsCopy c.args.each.now.act c.in_default.not-Copy))) ensures.named
