use Rattle.path_index.proofs.EntriesOfPaths.{AreListed-same}
use Rattle.path_index.proofs.records_by_path.RecordsByPath.shrink_to_fit.Goals as goal

pub returns : goal.returns
returns c = λ records are. record {
  few = are.few;
  listed =
      rw c.shrink_to_fit.ensures
      (AreListed-same c.shrink_to_fit-2.ensures c.shrink_to_fit-3.ensures c.shrink_to_fit-4.ensures are.listed);
}
