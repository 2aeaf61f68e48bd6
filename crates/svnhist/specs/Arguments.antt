-- The arguments of a run on two files: the paths of the dump and of the query lines, the length of a block and the number
-- of workers.
use Rattle.std.specs.Prelude.{◌≡◌, ℕ, ◌<◌, List, [], ◌∷◌, Some}
use Rattle.svn_text.specs.Number.{number_up_to, greatest_revision}
use Rattle.query_pool.specs.Serving.{most_workers}
use Rattle.svnhist.specs.declared.arguments.Arguments.{Arguments}

pub record ArgumentsValue : Type 0 where
  pub dump : List ℕ
  pub queries : List ℕ
  pub block : ℕ
  pub workers : ℕ

abbrev pub arguments_view : Arguments → ArgumentsValue
arguments_view a = record { dump = a.dump.0.now; queries = a.queries.0.now; block = a.block; workers = a.workers }

-- the two numbers as they are written
pub record IsArguments (texts : List (List ℕ)) (value : ArgumentsValue) : Type 0 where
  pub third : List ℕ
  pub fourth : List ℕ
  pub whole : texts ≡ value.dump ∷ value.queries ∷ third ∷ fourth ∷ []
  pub block : number_up_to greatest_revision third ≡ Some value.block
  pub workers : number_up_to most_workers fourth ≡ Some value.workers
  pub some_worker : 0 < value.workers
