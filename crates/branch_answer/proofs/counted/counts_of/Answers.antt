use Rattle.std.proofs.Common.{◌≡◌, ◌∙◌, ◌+◌, ◌++◌, [], ◌∷◌, List, Option, ℕ, Bool, true, false, not, sym, ap, arith, is_some}
use Rattle.std.proofs.lemmas.List.FromFn.{map-range_with_len_more}
use Rattle.range_list.specs.Rangelist.{inheritability_of, is_in}
use Rattle.range_list.specs.declared.run.Run.{Run}
use Rattle.branch_answer.specs.KeptNew.{counts_to}
use Rattle.branch_answer.proofs.NewCells.{is_some-inheritability}
use Rattle.branch_answer.proofs.counted.counts_of.Goals as goal

-- what an answer is whose opposite is known
opposite : (none some : Bool) → some ≡ not none → none ≡ not some
opposite true some is = sym (ap not is)
opposite false some is = sym (ap not is)

-- one revision more
counts_to-more : (uncounted : List Run) (rev : ℕ) (has : Option Bool) (none : Bool) → has ≡ inheritability_of uncounted rev → is_some has ≡ not none
    → counts_to uncounted rev ++ none ∷ [] ≡ counts_to uncounted (rev + 1)
counts_to-more uncounted rev has none has_is none_is =
    ap (λ each. counts_to uncounted rev ++ each ∷ [])
    (opposite none (is_in uncounted rev) (sym (is_some-inheritability uncounted rev) ∙ sym (ap is_some has_is) ∙ none_is))
    ∙ sym (map-range_with_len_more (λ each. not (is_in uncounted each)) 0 rev rev (omega arith))

pub loop-rev-preserved : goal.loop-rev-preserved
loop-rev-preserved c =
    c.in_ok-push.ensures.items
    ∙ ap (λ counts. counts ++ c.is_none.result ∷ []) c.loop-rev.invariant
    ∙ counts_to-more c.args.uncounted.now c.loop-rev.rev c.has.result c.is_none.result c.has.ensures c.is_none.ensures

pub returns : goal.returns
returns c =
    let all : c.loop-rev.rev ≡ c.args.youngest = omega (arith, c.loop-rev-test.false, c.loop-rev.auto.rev-end) in
    c.in_ok-push-2.ensures.items
    ∙ ap (λ counts. counts ++ c.is_none-2.result ∷ []) (c.loop-rev.invariant ∙ ap (counts_to c.args.uncounted.now) all)
    ∙ counts_to-more c.args.uncounted.now c.args.youngest c.has-2.result c.is_none-2.result c.has-2.ensures c.is_none-2.ensures
