use Rattle.std.proofs.Common.{◌≡◌, map, take}
use Rattle.once_cell.specs.Once.{cell_name}
use Rattle.value_memo.specs.KnownCellValue.{unanswered}
use Rattle.value_memo.proofs.memo.Memo.known_cells.Given as goal

abbrev pub invariant-loop-cell : goal.invariant-loop-cell
invariant-loop-cell l = l.known.items ≡ map unanswered (map cell_name (take l.cell-index l.cell-items))
