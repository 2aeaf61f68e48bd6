use Rattle.merge_info.proofs.Common.{sym, ap, ◌∙◌, rules, All-permutation, IsNonDecreasingBy-from_sort_by_key, IsRun, Run, has_clash}
use Rattle.merge_info.proofs.Clashes.{IsRisingByFirst-sorted, has_clash-permutation}
use Rattle.merge_info.proofs.clash.has_clash.Goals as goal

pub has_clash_in_order-requires-2-clause-runs : goal.has_clash_in_order-requires-2-clause-runs
has_clash_in_order-requires-2-clause-runs c =
    rw c.deref.ensures.value
    (All-permutation IsRun c.in_ok-sorted.sorted.items c.sort_by_key.new.self.items
    c.in_ok-sort_by_key.ensures.permutation (rw c.in_ok-sorted.ensures.items c.requires))

pub has_clash_in_order-requires-2-clause-rising : goal.has_clash_in_order-requires-2-clause-rising
has_clash_in_order-requires-2-clause-rising c =
    rw c.deref.ensures.value
    (IsRisingByFirst-sorted c.sort_by_key.new.self.items
    (IsNonDecreasingBy-from_sort_by_key (λ (run : Run). run.lo) c.sort_by_key.new.self.items
    c.in_ok-sort_by_key.ensures.sorted (λ a r q k. search rules)))

pub returns : goal.returns
returns c =
    c.has_clash_in_order-2.ensures ∙ ap has_clash c.deref.ensures.value
    ∙ sym (has_clash-permutation c.in_ok-sorted.sorted.items c.sort_by_key.new.self.items
    c.in_ok-sort_by_key.ensures.permutation)
    ∙ ap has_clash c.in_ok-sorted.ensures.items
