use Rattle.std.proofs.Common.{◌≡◌, ◌+◌, [], ◌∷◌, ◌++◌, ◌∙◌, ap, map, sym, take}
use Rattle.std.proofs.lemmas.List.{map_more, take_all}
use Rattle.merge_info.specs.Value.{MergeInfoValue, entry_view}
use Rattle.branch_answer.specs.HeldRevisions.{entry_mark, value_mark}
use Rattle.branch_answer.specs.KeptHolding.{stronger}
use Rattle.branch_answer.specs.declared.holding.Holding.TheVariants.{Not}
use Rattle.branch_answer.proofs.HeldEntries.{value_mark-nil, value_mark-push}
use Rattle.branch_answer.proofs.Marks.{AreMarked-none, AreMarked-same, AreMarked-then}
use Rattle.branch_answer.proofs.OperativesKept.{AreOperativesFor-before, AreOperativesFor-marked}
use Rattle.branch_answer.proofs.held_revisions.mark_value.Goals as goal

pub loop-entry-init : goal.loop-entry-init
loop-entry-init c =
    let old = c.args.holdings.now in
    record {
      operatives = c.requires.operatives;
      marked = AreMarked-same old old (λ _. Not) (value_mark c.args.repo.now c.args.whole c.args.part []) (AreMarked-none old)
          (λ each among. sym (value_mark-nil c.args.repo.now c.args.whole c.args.part each));
    }

pub mark_entry-requires-clause-operatives : goal.mark_entry-requires-clause-operatives
mark_entry-requires-clause-operatives c =
    AreOperativesFor-marked c.args.repo.now c.args.holdings.now c.loop-entry.holdings
    (value_mark c.args.repo.now c.args.whole c.args.part (map entry_view (take c.loop-entry.entry-index c.entries-entry-items.result.now)))
    c.loop-entry.operatives c.loop-entry.invariant.marked c.loop-entry.invariant.operatives

pub loop-entry-preserved : goal.loop-entry-preserved
loop-entry-preserved c =
    let dump = c.args.repo.now in
    let mark = value_mark dump c.args.whole c.args.part in
    let items = c.entries-entry-items.result.now in
    let i = c.loop-entry.entry-index in
    let entry = c.entry-item.result in
    let before : MergeInfoValue = map entry_view (take i items) in
    let more : map entry_view (take (i + 1) items) ≡ before ++ entry_view entry ∷ [] =
    map_more entry_view items i entry c.loop-entry-test.true ∙ ap (λ one. before ++ entry_view one ∷ []) (sym c.entry-item.is) in
    record {
      operatives = AreOperativesFor-before dump c.args.holdings.now c.loop-entry.holdings (mark before) c.mark_entry.new.operatives c.loop-entry.invariant.marked
          c.in_ok-mark_entry.ensures.operatives;
      marked = AreMarked-same c.args.holdings.now c.mark_entry.new.holdings
          (λ each. stronger (mark before each) (entry_mark dump c.args.whole c.args.part (entry_view entry) each)) (mark (map entry_view (take (i + 1) items)))
          (AreMarked-then c.args.holdings.now c.loop-entry.holdings c.mark_entry.new.holdings (mark before) (entry_mark dump c.args.whole c.args.part (entry_view entry))
          c.loop-entry.invariant.marked c.in_ok-mark_entry.ensures.marked)
          (λ each among. value_mark-push dump c.args.whole c.args.part c.requires.overrides before (entry_view entry) each ∙ ap (λ entries. mark entries each) (sym more));
    }

pub returns-in_err-mark_entry-clause-operatives : goal.returns-in_err-mark_entry-clause-operatives
returns-in_err-mark_entry-clause-operatives c =
    AreOperativesFor-before c.args.repo.now c.args.holdings.now c.loop-entry.holdings
    (value_mark c.args.repo.now c.args.whole c.args.part (map entry_view (take c.loop-entry.entry-index c.entries-entry-items.result.now)))
    c.mark_entry.new.operatives c.loop-entry.invariant.marked c.in_err-mark_entry.ensures.operatives

pub returns-clause-marked : goal.returns-clause-marked
returns-clause-marked c =
    let mark = value_mark c.args.repo.now c.args.whole c.args.part in
    let items = c.entries-entry-items.result.now in
    let i = c.loop-entry.entry-index in
    AreMarked-same c.args.holdings.now c.loop-entry.holdings (mark (map entry_view (take i items))) (mark c.args.value.now) c.loop-entry.invariant.marked
    (λ each among. ap (λ entries. mark entries each) (ap (map entry_view) (take_all i items c.loop-entry-test.false) ∙ c.entries-entry-items.ensures.value))
