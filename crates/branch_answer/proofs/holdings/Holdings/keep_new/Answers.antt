use Rattle.std.proofs.Common.{◌≡◌, ◌∙◌, ◌+◌, ◌<◌, ap, arith, below_more, get_or, get_or-set_other, get_or-set_same, is_some, length, set}
use Rattle.std.proofs.lemmas.List.{get_or_default, length-set}
use Rattle.range_list.specs.Rangelist.{is_in}
use Rattle.branch_answer.specs.KeptNew.{new_cell}
use Rattle.branch_answer.specs.declared.holding.Holding.TheVariants.{Not}
use Rattle.branch_answer.proofs.NewCells.{is_some-inheritability}
use Rattle.branch_answer.proofs.holdings.Holdings.keep_new.Goals as goal

pub loop-index-preserved : goal.loop-index-preserved
loop-index-preserved c =
    let old = c.args.self.now in
    let one = c.args.one.now.how.items in
    let uncounted = c.args.uncounted.now in
    let between = c.loop-index.self in
    let cells = between.how.items in
    let i = c.loop-index.index in
    let so = c.loop-index.invariant in
    let within : i < length cells = omega (arith, so.count, c.loop-index-test.true, c.len-index-end.ensures) in
    let out : c.is_some.result ≡ is_in uncounted (old.first + i) =
    c.is_some.ensures ∙ ap is_some c.has.ensures ∙ is_some-inheritability uncounted (between.first + i) ∙ ap (λ first. is_in uncounted (first + i)) so.first in
    let here : c.index.result.now ≡ get_or old.how.items i Not =
    c.index.ensures ∙ get_or_default cells i c.index.result.now Not within ∙ so.left i (omega arith) in
    let there : c.index-in-loop-index.result.now ≡ get_or one i Not =
    c.index-in-loop-index.ensures ∙ get_or_default one i c.index-in-loop-index.result.now Not (omega (arith, within, so.count, c.requires.same)) in
    let new : c.beyond.result ≡ new_cell (is_in uncounted (old.first + i)) (get_or one i Not) (get_or old.how.items i Not) =
    c.beyond.ensures ∙ (λ k. new_cell (out k) (there k) (here k)) in
    record {
      first = so.first;
      count = length-set cells i c.beyond.result ∙ so.count;
      done = below_more
          (λ k. get_or (set cells i c.beyond.result) k Not ≡ new_cell (is_in uncounted (old.first + k)) (get_or one k Not) (get_or old.how.items k Not)) i
          (λ k before. get_or-set_other cells i k c.beyond.result Not (λ same. omega (arith, same, before)) ∙ so.done k before)
          (get_or-set_same cells i c.beyond.result Not within ∙ new);
      left = λ k past. get_or-set_other cells i k c.beyond.result Not (λ same. omega (arith, same, past)) ∙ so.left k (omega (arith, past));
    }
