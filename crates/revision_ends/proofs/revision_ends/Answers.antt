use Rattle.std.proofs.Common.{◌≡◌, ◌+◌, ◌<◌, ◌≤◌, ◌^◌, ℕ, All, List, get_or, length, sym, ap, subst, ◌∙◌, arith, take_all}
use Rattle.par_scan.specs.declared.sum.Sum.{Sum}
use Rattle.block_map.specs.Ends.{ends_of, ends_view}
use Rattle.block_map.proofs.RevisionEnds.{length-ends_of}
use Rattle.revision_ends.proofs.RevisionSums.{AreFirstEnds, AreFirstEnds-next, end-below, end-next, ends-below}
use Rattle.revision_ends.proofs.revision_ends.Goals as goal

pub overflow_add-end : goal.overflow_add-end
overflow_add-end c =
    let dump = c.args.dump.now in
    let i = c.loop-count.count-index in
    let counts = c.counts-count-items.ensures.value in
    let within : i < length dump.counts = subst (λ xs. i < length xs) counts c.loop-count-test.true in
    let next = end-next dump.counts i c.loop-count.end c.loop-count.sums.items c.loop-count.invariant within in
    omega (arith, next, end-below dump c.counts-count-items.ensures.kept i, c.from-end.ensures, ap (λ xs. get_or xs i 0) counts)

pub loop-count-preserved : goal.loop-count-preserved
loop-count-preserved c =
    let dump = c.args.dump.now in
    let i = c.loop-count.count-index in
    let counts = c.counts-count-items.ensures.value in
    let next = c.loop-count.end + c.from-end.result in
    subst (AreFirstEnds dump.counts (i + 1) next) (sym c.in_ok-push.ensures.items)
    (AreFirstEnds-next dump.counts i c.loop-count.end c.loop-count.sums.items c.loop-count.invariant next
    (subst (λ xs. i < length xs) counts c.loop-count-test.true) (omega (arith, c.from-end.ensures, ap (λ xs. get_or xs i 0) counts)))

all : (counts xs : List ℕ) (i : ℕ) (sums : List Sum) (count : ℕ) → AreFirstEnds counts i count sums → xs ≡ counts → length xs ≤ i
    → ends_view sums ≡ ends_of counts
all counts xs i sums count first same past =
    first.ends ∙ take_all i (ends_of counts) (omega (arith, past, ap length same, length-ends_of counts))

pub new-requires : goal.new-requires
new-requires c =
    let dump = c.args.dump.now in
    let loop = c.loop-count in
    subst (All (λ end. end < 2 ^ 32))
    (sym (all dump.counts _ loop.count-index loop.sums.items loop.end loop.invariant c.counts-count-items.ensures.value c.loop-count-test.false))
    (ends-below dump c.counts-count-items.ensures.kept)

pub returns : goal.returns
returns c =
    let loop = c.loop-count in
    c.new.ensures
    ∙ all c.args.dump.now.counts _ loop.count-index loop.sums.items loop.end loop.invariant c.counts-count-items.ensures.value c.loop-count-test.false
