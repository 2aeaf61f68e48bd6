use Rattle.path_index.proofs.Common.{arith, ◌∙◌, numbers_of}
use Rattle.path_index.proofs.NumbersOfNodes.{IsNewestBelow-last}
use Rattle.path_index.proofs.numbers.Numbers.newest_below.Goals as goal

pub returns : goal.returns
returns c =
    rw (c.copied.ensures ∙ c.last.ensures.value) (IsNewestBelow-last (numbers_of c.args.self.now c.args.node) c.up_to.result.now c.args.limit (omega arith) c.up_to.ensures)
