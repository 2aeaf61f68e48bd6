use Rattle.path_index.proofs.JoinedRecords.{AreByPath-both, FitShifted-added, FitShifted-copied, FitShifted-named}
use Rattle.path_index.proofs.records_by_path.RecordsByPath.append.Goals as goal

pub insert_all-requires : goal.insert_all-requires
insert_all-requires c = rw c.requires.is at (FitShifted-added c.requires.few c.requires.first c.requires.second)

pub insert_all-requires-2 : goal.insert_all-requires-2
insert_all-requires-2 c = rw c.requires.is at (FitShifted-copied c.requires.few c.requires.first c.requires.second)

pub insert_all-requires-3 : goal.insert_all-requires-3
insert_all-requires-3 c = FitShifted-named c.requires.few c.requires.first c.requires.second

pub returns : goal.returns
returns c = λ records more is few one other.
    AreByPath-both few one other c.in_ok-nodes.ensures.grown c.in_ok-nodes.ensures.nodes (rw is (rw c.as_slice.ensures.value at c.in_ok-insert_all.ensures))
    (rw is (rw c.as_slice-2.ensures.value at c.in_ok-insert_all-2.ensures)) (rw c.as_slice-3.ensures.value at c.in_ok-insert_all-3.ensures)
