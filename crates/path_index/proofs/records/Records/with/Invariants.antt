use Rattle.path_index.proofs.Common.{◌≡◌, ◌++◌, take, AreKept}
use Rattle.path_index.proofs.records.Records.with.Given as goal

abbrev pub invariant-loop-index : goal.invariant-loop-index
invariant-loop-index l = record {
  all : l.all.items ≡ l.fn.self ++ take l.index l.records;
  kept : AreKept l.all.items l.revs.items l.copies.items;
}
