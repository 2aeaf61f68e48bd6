use Rattle.path_index.proofs.Common.{◌≡◌, take}
use Rattle.path_index.proofs.records.dup_all.Given as goal

abbrev pub invariant-loop-each : goal.invariant-loop-each
invariant-loop-each l = l.again.items ≡ take l.each-index l.copies
