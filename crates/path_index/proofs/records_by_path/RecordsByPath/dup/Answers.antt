use Rattle.std.proofs.Common.{}
use Rattle.path_index.proofs.EntriesOfPaths.{AreListed-same}
use Rattle.path_index.proofs.records_by_path.RecordsByPath.dup.Goals as goal

pub returns : goal.returns
returns c = λ records are. record {
  few = are.few;
  listed =
      rw c.in_ok-dup.ensures
      (AreListed-same c.in_ok-dup-2.ensures c.in_ok-dup-3.ensures c.in_ok-dup-4.ensures are.listed);
}
