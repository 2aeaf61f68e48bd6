use Rattle.svn_dump.proofs.Common.{◌≡◌, ℕ, ◌-◌, ◌<◌, pred, sub-one, length, sym, ap, ◌∙◌, subst, arith, get_or_read, err_from_is_err_and, dump_of, history_in_bytes, record_of, with_content, node_refusals, node_of_front, IsFirstReason, is_record_large}
use Rattle.svn_dump.proofs.Drafts.{room_left, IsDraft-grows, count-le, IsDraft-with_record, with_record-told, IsWholeHistory-with_record, refused-full, refused-record}
use Rattle.svn_dump.proofs.Grouped.{set_last_read}
use Rattle.svn_dump.proofs.Growth.{GrowsTo-with_record}
use Rattle.svn_dump.proofs.Histories.{length-history_in_bytes}
use Rattle.svn_dump.proofs.draft.Draft.add_record.Goals as goal

pub invariant_of-self : goal.invariant_of-self
invariant_of-self c =
    let inside = c.self.inside in
    IsDraft-grows inside.names inside.records.items inside.counts.items inside.texts c.self.invariant c.record_of.new.names c.record_of.new.texts c.record_of.ensures.grows c.record_of.ensures.texts_grow

pub invariant_of-self-2 : goal.invariant_of-self-2
invariant_of-self-2 c =
    let inside = c.self.inside in
    IsDraft-grows inside.names inside.records.items inside.counts.items inside.texts c.self.invariant c.record_of.new.names c.record_of.new.texts c.record_of.ensures.grows c.record_of.ensures.texts_grow

pub invariant_of-self-in_err-push : goal.invariant_of-self-in_err-push
invariant_of-self-in_err-push c =
    let inside = c.self.inside in
    rw c.in_err-push.ensures.items (IsDraft-grows inside.names inside.records.items inside.counts.items inside.texts c.self.invariant c.record_of.new.names c.record_of.new.texts c.record_of.ensures.grows c.record_of.ensures.texts_grow)

pub invariant_of-self-then-is_full : goal.invariant_of-self-then-is_full
invariant_of-self-then-is_full c =
    let inside = c.self.inside in
    IsDraft-grows inside.names inside.records.items inside.counts.items inside.texts c.self.invariant c.record_of.new.names c.record_of.new.texts c.record_of.ensures.grows c.record_of.ensures.texts_grow

pub returns-in_err-record-clause-refused : goal.returns-in_err-record-clause-refused
returns-in_err-record-clause-refused c =
    let (error, errs, same) = err_from_is_err_and c.from_residual.result c.from_residual.ensures.1 in
    let inside = c.self.inside in
    let long : c.len-revisions.result ≡ length inside.counts.items = omega arith in
    rw (errs, same, ← c.self.view_is) (refused-record inside.names inside.records.items inside.counts.items inside.texts c.self.invariant (node_of_front c.args.found.now c.args.path.now) c.in_err-record.field-0.0
    (subst (λ revisions. IsFirstReason (node_refusals revisions (node_of_front c.args.found.now c.args.path.now) (is_record_large inside.names inside.texts (record_of (pred revisions) (node_of_front c.args.found.now c.args.path.now)))) c.in_err-record.field-0.0) long c.in_err-record.ensures.refused))

pub returns-then-is_full-clause-refused : goal.returns-then-is_full-clause-refused
returns-then-is_full-clause-refused c =
    let inside = c.self.inside in
    let long : c.len-revisions.result ≡ length inside.counts.items = omega arith in
    rw (← c.self.view_is)
    (refused-full inside.names inside.records.items inside.counts.items inside.texts c.self.invariant c.record_of.new.names c.record_of.new.texts _ (pred c.len-revisions.result) c.in_ok-record.record c.in_ok-record.ensures.record (ap pred long ∙ sym (sub-one (length inside.counts.items))) (node_of_front c.args.found.now c.args.path.now)
    (ap (λ revisions. record_of (pred revisions) (node_of_front c.args.found.now c.args.path.now)) (long ∙ sym (length-history_in_bytes inside.names inside.records.items inside.counts.items inside.texts))) (sym c.is_full.ensures.full ∙ c.if-is_full.true))

pub overflow_add-index_mut : goal.overflow_add-index_mut
overflow_add-index_mut c =
    let inside = c.self.inside in
    let told = c.in_ok-record.ensures.record in
    let last : ℕ = c.len-revisions.result - 1 in
    let within : last < length inside.counts.items = omega (arith, inside.counts.ok.0, told.of_table.above_zero, told.revision, sub-one c.len-revisions.result) in
    let read = get_or_read inside.counts.items last c.index_mut.result.now within c.index_mut.ensures.value 0 in
    omega (arith, read, count-le inside.names inside.records.items inside.counts.items inside.texts c.self.invariant last, inside.records.ok.0)

pub invariant_of-self-3 : goal.invariant_of-self-3
invariant_of-self-3 c =
    let inside = c.self.inside in
    let told = c.in_ok-record.ensures.record in
    let long : c.len-revisions.result ≡ length inside.counts.items = omega arith in
    let last : pred c.len-revisions.result ≡ length inside.counts.items - 1 = ap pred long ∙ sym (sub-one (length inside.counts.items)) in
    let some : 0 < c.len-revisions.result = omega (arith, told.of_table.above_zero, told.revision) in
    let counts_are = set_last_read inside.counts.items c.len-revisions.result c.index_mut.result.now long some c.index_mut.ensures.value in
    rw (c.in_ok-push.ensures.items, counts_are) (IsDraft-with_record inside.names inside.records.items inside.counts.items inside.texts c.self.invariant c.record_of.new.names c.record_of.new.texts _ (pred c.len-revisions.result) c.in_ok-record.record c.in_ok-record.ensures.record last (room_left (dump_of c.record_of.new.names inside.records.items inside.counts.items c.record_of.new.texts) (sym c.is_full.ensures.full ∙ c.if-is_full.false)))

pub returns-clause-added : goal.returns-clause-added
unfolding with_content
returns-clause-added c =
    let inside = c.self.inside in
    let told = c.in_ok-record.ensures.record in
    let long : c.len-revisions.result ≡ length inside.counts.items = omega arith in
    let last : pred c.len-revisions.result ≡ length inside.counts.items - 1 = ap pred long ∙ sym (sub-one (length inside.counts.items)) in
    let some : 0 < c.len-revisions.result = omega (arith, told.of_table.above_zero, told.revision) in
    let counts_are = set_last_read inside.counts.items c.len-revisions.result c.index_mut.result.now long some c.index_mut.ensures.value in
    let revisions : pred (length (history_in_bytes c.args.self.now)) ≡ pred c.len-revisions.result =
    ap (λ dump. pred (length (history_in_bytes dump))) (sym c.self.view_is) ∙ ap pred (length-history_in_bytes inside.names inside.records.items inside.counts.items inside.texts ∙ sym long) in
    rw (revisions, c.in_ok-push.ensures.items, counts_are, ← c.self.view_is) (with_record-told inside.names inside.records.items inside.counts.items inside.texts c.self.invariant c.record_of.new.names c.record_of.new.texts _ (pred c.len-revisions.result) c.in_ok-record.record c.in_ok-record.ensures.record last)

pub returns-clause-keeps : goal.returns-clause-keeps
returns-clause-keeps c =
    let inside = c.self.inside in
    let told = c.in_ok-record.ensures.record in
    let long : c.len-revisions.result ≡ length inside.counts.items = omega arith in
    let last : pred c.len-revisions.result ≡ length inside.counts.items - 1 = ap pred long ∙ sym (sub-one (length inside.counts.items)) in
    let some : 0 < c.len-revisions.result = omega (arith, told.of_table.above_zero, told.revision) in
    let counts_are = set_last_read inside.counts.items c.len-revisions.result c.index_mut.result.now long some c.index_mut.ensures.value in
    let room = sym c.is_full.ensures.full ∙ c.if-is_full.false in
    rw (c.in_ok-push.ensures.items, counts_are, ← c.self.view_is)
    (IsWholeHistory-with_record inside.names inside.records.items inside.counts.items inside.texts c.self.invariant c.record_of.new.names c.record_of.new.texts _ (pred c.len-revisions.result) c.in_ok-record.record c.in_ok-record.ensures.record last room (c.is_full.ensures.names c.if-is_full.false) (c.is_full.ensures.texts c.if-is_full.false))

pub returns-clause-grows : goal.returns-clause-grows
returns-clause-grows c =
    let inside = c.self.inside in
    let told = c.in_ok-record.ensures.record in
    let ensured = c.record_of.ensures in
    let last : ℕ = c.len-revisions.result - 1 in
    let within : last < length inside.counts.items = omega (arith, inside.counts.ok.0, told.of_table.above_zero, told.revision, sub-one c.len-revisions.result) in
    let read = get_or_read inside.counts.items last c.index_mut.result.now within c.index_mut.ensures.value 0 in
    rw (c.in_ok-push.ensures.items, ← c.self.view_is)
    (GrowsTo-with_record _ _ _ c.in_ok-record.record _ _ ensured.grows ensured.texts_grow (omega (arith, within)) (omega (arith, read)))
