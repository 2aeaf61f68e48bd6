use Rattle.path_index.proofs.Common.{[], refl}
use Rattle.path_index.proofs.records_by_path.RecordsByPath.of.Goals as goal

pub returns : goal.returns
returns c = c.shrink_to_fit.ensures c.args.records.now (c.in_ok-add_all.ensures [] refl c.new-by_path.ensures)
