use Rattle.std.proofs.Common.{◌∙◌, ◌+◌, ◌&&◌, ap, arith, false, get_or, length}
use Rattle.std.specs.Int.{from_bool}
use Rattle.branch_answer.specs.KeptNew.{is_more}
use Rattle.branch_answer.specs.declared.holding.Holding.TheVariants.{Not}
use Rattle.branch_answer.proofs.NewCounted.{count_new-more, counted_to-le}
use Rattle.branch_answer.proofs.counted.Counted.distance.Goals as goal

pub overflow_add-beyond : goal.overflow_add-beyond
overflow_add-beyond c =
    let one = c.as_slice-one.result.now in
    let other = c.as_slice-other.result.now in
    let i = c.loop-index.index in
    let counts = c.args.self.now.counts.items in
    let is = count_new-more counts one other i c.loop-index.beyond c.new-beyond.result c.loop-index.invariant.beyond
    (c.new-beyond.ensures ∙ ap (λ all. from_bool (get_or all i false && is_more (get_or one i Not) (get_or other i Not))) c.deref-counts-items.ensures.value) in
    omega (arith, is, counted_to-le counts one other (i + 1), ap length c.deref-counts-items.ensures.value, c.loop-index-test.true, c.requires.few)

pub overflow_add-behind : goal.overflow_add-behind
overflow_add-behind c =
    let one = c.as_slice-one.result.now in
    let other = c.as_slice-other.result.now in
    let i = c.loop-index.index in
    let counts = c.args.self.now.counts.items in
    let is = count_new-more counts other one i c.loop-index.behind c.new-behind.result c.loop-index.invariant.behind
    (c.new-behind.ensures ∙ ap (λ all. from_bool (get_or all i false && is_more (get_or other i Not) (get_or one i Not))) c.deref-counts-items.ensures.value) in
    omega (arith, is, counted_to-le counts other one (i + 1), ap length c.deref-counts-items.ensures.value, c.loop-index-test.true, c.requires.few)

pub loop-index-preserved : goal.loop-index-preserved
loop-index-preserved c =
    let counts = c.args.self.now.counts.items in
    let one = c.as_slice-one.result.now in
    let other = c.as_slice-other.result.now in
    let i = c.loop-index.index in
    record {
      beyond = count_new-more counts one other i c.loop-index.beyond c.new-beyond.result c.loop-index.invariant.beyond
          (c.new-beyond.ensures ∙ ap (λ all. from_bool (get_or all i false && is_more (get_or one i Not) (get_or other i Not))) c.deref-counts-items.ensures.value);
      behind = count_new-more counts other one i c.loop-index.behind c.new-behind.result c.loop-index.invariant.behind
          (c.new-behind.ensures ∙ ap (λ all. from_bool (get_or all i false && is_more (get_or other i Not) (get_or one i Not))) c.deref-counts-items.ensures.value);
    }
