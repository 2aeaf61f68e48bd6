use Rattle.path_index.proofs.Common.{get_or, ◌∙◌, take_more}
use Rattle.path_index.proofs.ListsOfNodes.{AddsNumbers-next_shifted, AddsNumbers-none_shifted}
use Rattle.path_index.proofs.numbers.Numbers.insert_shifted.Goals as goal

pub loop-number-preserved : goal.loop-number-preserved
loop-number-preserved c =
    let numbers = c.args.numbers.now in
    let n = c.loop-number.number-index in
    let so = c.loop-number.invariant in
    let inserted = c.in_ok-insert.ensures in
    record {
      added =
          rw (take_more numbers n 0 c.loop-number-test.true) (AddsNumbers-next_shifted (get_or numbers n 0) so.added inserted.added);
      others = λ other differs. inserted.others other differs ∙ so.others other differs;
    }

pub loop-number-init : goal.loop-number-init
loop-number-init c = record {
  added =
      AddsNumbers-none_shifted c.in_ok-reserve.ensures;
  others = λ other differs. c.in_ok-reserve.ensures other;
}

pub returns-in_err-insert-clause-others : goal.returns-in_err-insert-clause-others
returns-in_err-insert-clause-others c = λ other differs.
    c.in_err-insert.ensures.others other differs ∙ c.loop-number.invariant.others other differs
