use Rattle.query_pool.proofs.Common.{◌+◌, ◌*◌}
use Rattle.query_pool.proofs.serving.+serve_with.Given as goal

abbrev pub decreases-others : goal.decreases-others
decreases-others g l = 2 * l.rest + 1

abbrev pub decreases-serve_with : goal.decreases-serve_with
decreases-serve_with g l = 2 * l.thieves
