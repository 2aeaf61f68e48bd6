-- The arguments of a talk: the path of the dump and the number of workers.
use Rattle.std.specs.Prelude.{◌≡◌, ℕ, ◌<◌, List, [], ◌∷◌, Some}
use Rattle.svn_text.specs.Number.{number_up_to}
use Rattle.query_pool.specs.Serving.{most_workers}
use Rattle.svnhist_live.specs.declared.arguments.Arguments.{Arguments}

pub record ArgumentsValue : Type 0 where
  pub dump : List ℕ
  pub workers : ℕ

abbrev pub arguments_view : Arguments → ArgumentsValue
arguments_view a = record { dump = a.dump.now; workers = a.workers }

-- the texts are a path and a number of workers
pub record IsArguments (texts : List (List ℕ)) (value : ArgumentsValue) : Type 0 where
  -- the number as it is written
  pub second : List ℕ
  pub whole : texts ≡ value.dump ∷ second ∷ []
  pub workers : number_up_to most_workers second ≡ Some value.workers
  pub some_worker : 0 < value.workers
