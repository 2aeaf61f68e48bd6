use Rattle.query_answer.proofs.AnswerTexts.{index_is}
use Rattle.query_answer.proofs.repo.Repo.new.Goals as goal

pub invariant_of-result : goal.invariant_of-result
invariant_of-result c = record {
  dump_is = c.names.ensures.kept;
  index_is = index_is c.args.index c.args.dump c.requires.records c.requires.first;
  map_is = c.requires.map;
  ends_are = c.requires.ends;
  lawful = c.requires.lawful;
}
