use Rattle.merge_info.proofs.Common.{◌≡◌, ◌<◌, true, false, bytes_eq, length, get_or, sym, ap, ◌∙◌, rules, arith, ltb-false, IsPartitionPoint-from_clause, IsPartitionedBy, ranges_of, Entry}
use Rattle.std.specs.Option.{is_some}
use Rattle.merge_info.proofs.Entries.{IsPartitionedBy-is_before, is_before, is_lt-slice_partial_cmp, ranges_of-found, ranges_of-not_found}
use Rattle.merge_info.proofs.merge_info.MergeInfo.ranges.Goals as goal
use Rattle.merge_info.proofs.merge_info.MergeInfo.ranges.Goals.{in_default-via-in-Some+else-eq, in_default-via-in_default}

-- the entry of the index has the path
pub returns-in-Some : goal.returns-in-Some
returns-in-Some c =
    let items = c.self.inside.entries.items in
    let path = c.args.path.now in
    let entry = c.in-Some.entry.now in
    let lookup = rw c.deref-2.ensures.value at c.in-Some.ensures.lookup in
    let same : bytes_eq entry.path.items path ≡ true =
    ap (λ at. bytes_eq at path) (sym c.as_slice.ensures.value) ∙ sym c.eq.ensures ∙ c.if-eq.true in
    rw (← c.self.view_is)
    (sym (ranges_of-found items path c.partition_point-index.result entry c.self.invariant lookup.3.0 lookup.1 same))

-- it has another path, or there is none
pub returns-in_default : goal.returns-in_default
returns-in_default c =
    let items = c.self.inside.entries.items in
    let path = c.args.path.now in
    let index = c.partition_point-index.result in
    let parted : IsPartitionedBy (is_before path) c.deref.result.now =
    rw c.deref.ensures.value (IsPartitionedBy-is_before items path c.self.invariant.rising) in
    let point = rw c.deref.ensures.value at
    (IsPartitionPoint-from_clause (is_before path) c.deref.result.now index
    c.partition_point-index.ensures.partitioned parted (λ a r q k. search (rules, is_lt-slice_partial_cmp))) in
    let none = λ (other : (d : Entry) → index < length items → bytes_eq (get_or items index d).path.items path ≡ false).
    sym (ap (λ value. ranges_of value path) (sym c.self.view_is)
    ∙ ranges_of-not_found items path c.self.invariant.rising index point other) in
    elim c.in_default.branch [
      | in_default-via-in-Some+else-eq w ↦
          let lookup = rw c.deref-2.ensures.value at w.in-Some.ensures.lookup in
          none (λ d below. ap (λ (each : Entry). bytes_eq each.path.items path) (sym (lookup.3.1 d))
          ∙ ap (λ at. bytes_eq at path) (sym w.as_slice.ensures.value) ∙ sym w.eq.ensures ∙ w.if-eq.false)
      | in_default-via-in_default w ↦
          let lookup = rw c.deref-2.ensures.value at c.get.ensures.lookup in
          let past = ltb-false index (length items) (sym lookup.0 ∙ ap is_some w.in_default.is) in
          none (λ d below. absurd (omega arith))
    ]
