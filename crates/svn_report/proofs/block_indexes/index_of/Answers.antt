use Rattle.svn_report.proofs.Common.{◌≡◌, ◌+◌, length, ◌∙◌, arith, AreBorders}
use Rattle.svn_report.proofs.BlockIndexes.{IsChain-blocks, joined-first, joined-records}
use Rattle.svn_report.proofs.block_indexes.index_of.Goals as goal
use Rattle.svn_report.proofs.block_indexes.index_of.Goals.{In_ok-indexes}

-- the borders of the blocks that were made
borders_of : (g : _) (c : In_ok-indexes g) → AreBorders 0 (length c.records.result.now) c.args.borders.now
borders_of g c = rw c.records.ensures.value c.requires.borders

count_of : (g : _) (c : In_ok-indexes g) → length c.in_ok-indexes.indexes.items + 1 ≡ length c.args.borders.now
count_of g c =
    let some = (borders_of g c).some in
    omega (arith, some, c.in_ok-indexes.indexes.ok.0, c.in_ok-indexes.ensures.len)

pub total-requires-clause-chain : goal.total-requires-clause-chain
total-requires-clause-chain g c κs within =
    IsChain-blocks c.records.result.now 0 c.args.borders.now c.in_ok-indexes.indexes.items (borders_of g c) c.in_ok-indexes.ensures.made (count_of g c)

pub returns-in-Some-clause-records : goal.returns-in-Some-clause-records
returns-in-Some-clause-records g c =
    let made = (goal.at.returns-in-Some-clause-records g c).In_ok-indexes in
    joined-records c.records.result.now c.args.borders.now c.in_ok-indexes.indexes.items c.in-Some.index (borders_of g made) c.in_ok-indexes.ensures.made (count_of g made) (rw c.in-Some.is at c.in_ok-index.ensures.joined)
    ∙ c.records.ensures.value

pub returns-in-Some-clause-first : goal.returns-in-Some-clause-first
returns-in-Some-clause-first g c =
    let made = (goal.at.returns-in-Some-clause-first g c).In_ok-indexes in
    joined-first c.records.result.now c.args.borders.now c.in_ok-indexes.indexes.items c.in-Some.index (borders_of g made) c.in_ok-indexes.ensures.made (rw c.in-Some.is at c.in_ok-index.ensures.joined)
