-- A dump that is read gets a revision or a record.
use Rattle.svn_dump.proofs.Common.{◌≡◌, ◌≢◌, ℕ, pred, ◌-◌, ◌<◌, ◌≤◌, true, false, List, [], ◌∷◌, ◌++◌, length, get_or, refl, sym, ap, ap₂, ◌∙◌, subst, arith, Bool, eqb, eq-eqb, le-leb, ltb-false, not, inl, inr, Option, Some, None, bytes_eq, is_none, option_map, option_and_then, ◌==◌, nat_le, nat_lt, IsDistinct, option_eq, both_ways, cases_Bool, cond-false, cond-true, leb-false, lt-leb, ne_eqb, not-true, or_from, or_parts, map_push, length_push, All-push, cond_some, IsTable, with_names, Extends, action_in_bytes, record_in_bytes, dump_of, is_full, only_tables, IsDraft, IsNamed, IsValued, IsWholeHistory, DumpValue, IsDump, IsRecordOf, history_in_bytes, IsSmall, all_records, names_of, values_of, most_numbered, parts_of_record, texts_of_action, Node, node_block, revision_block, number_of, number_up_to, HistoryOfBytes, RecordOfBytes, record_of, with_numbered, with_record, with_content, first_holding, grows_large, is_large, node_refusals, refusals_by, content_refusals, IsFirstReason, IsNumberedRecord, is_record_large, ReadError, NodeRecord, Revision, TooLarge}
use Rattle.std.proofs.Common.{le-ltb}
use Rattle.std.specs.Prelude.{if◌then◌else◌}
use Rattle.svn_path.proofs.Tables.{IsTable-nil}
use Rattle.svn_dump.proofs.FirstRefusals.{small_nothing}
use Rattle.svn_dump.proofs.Growing.{Extends-same, Extends-by, IsRecordOf-grows, All-IsRecordOf-grows}
use Rattle.svn_dump.proofs.Grouped.{with_more, length-with_more, get_or-le-total, revisions_from-with_more, revisions_from-with_group}
use Rattle.svn_dump.proofs.Histories.{total-revisions, all_records-with_record, length-all_records, names_of-with_record, names_of-with_revision, values_of-with_record, values_of-with_revision, history_in_bytes-with_record, history_in_bytes-with_revision, length-history_in_bytes}
use Rattle.svn_dump.proofs.Refusals.{IsFirstReason-node, grows_large-record, is_large-IsSmall, content_refusals-large}

large_by_length : (history : HistoryOfBytes) → most_numbered < length history → is_large history ≡ true
large_by_length history many =
    elim (cases_Bool (is_large history)) [
      | inl large ↦ large
      | inr small ↦ absurd (omega (arith, (is_large-IsSmall history small).revisions))
    ]

-- there is room for a record
pub room_left : (dump : DumpValue) → is_full dump ≡ false → length dump.records < most_numbered
room_left dump room = leb-false most_numbered (length dump.records) (or_parts _ (nat_le most_numbered (length dump.records)) room).1

-- a draft with few names and texts shows a small history
small_draft : (dump : DumpValue) → IsDraft dump → IsNamed dump → IsValued dump → length dump.names ≤ most_numbered → length dump.values ≤ most_numbered → IsSmall (history_in_bytes dump)
small_draft dump draft named valued few_names few_values = record {
  names = subst (λ all. length all ≤ most_numbered) named few_names;
  records = omega (arith, length-all_records dump.names dump.records dump.counts dump.values draft.revisions, draft.few_records);
  revisions = omega (arith, length-history_in_bytes dump.names dump.records dump.counts dump.values, draft.few_revisions);
  values = subst (λ all. length all ≤ most_numbered) valued few_values;
}

-- a test that two values differ
pub not_same : (o : Option ℕ) (n : ℕ) → true ≡ not (option_eq eqb o (Some n)) → o ≡ Some n → ⊥
not_same o n differs same = both_ways _ (not-true _ (sym differs)) (ap (λ one. option_eq eqb one (Some n)) same ∙ eq-eqb n n refl)

-- a number that is at most itself
number_of-up_to : (most : ℕ) (o : Option ℕ) → option_and_then (λ value. if nat_le value most then Some value else None) o ≡ Some most → o ≡ Some most
number_of-up_to most None told = absurd (cc)
number_of-up_to most (Some value) told = ap Some (cond_some (nat_le value most) value most told).1

module _ (names : List (List ℕ)) (records : List NodeRecord) (counts : List ℕ) (texts : List (List ℕ)) (draft : IsDraft (dump_of names records counts texts)) where
  -- ---- a revision

  pub IsDraft-with_revision : length counts < most_numbered → IsDraft (dump_of names records (counts ++ 0 ∷ []) texts)
  IsDraft-with_revision room = record {
    records = All-IsRecordOf-grows (dump_of names records counts texts) (dump_of names records (counts ++ 0 ∷ []) texts) records (Extends-same names) (Extends-same texts) draft.records;
    revisions = draft.revisions ∙ sym (revisions_from-with_group 0 counts);
    few_records = draft.few_records;
    few_revisions = omega (arith, length_push counts 0);
  }

  pub with_numbered-told : (number : List ℕ) → number_up_to (length counts) number ≡ Some (length counts) → with_numbered (history_in_bytes (dump_of names records counts texts)) number ≡ Some (history_in_bytes (dump_of names records (counts ++ 0 ∷ []) texts))
  with_numbered-told number told =
      let history = history_in_bytes (dump_of names records counts texts) in
      let is_next = eq-eqb (length counts) (length history) (sym (length-history_in_bytes names records counts texts)) in
      ap (option_and_then (λ value. if value == length history then Some (history ++ [] ∷ []) else None)) (number_of-up_to (length counts) (number_of number) told)
      ∙ cond-true _ _ _ is_next ∙ ap Some (sym (history_in_bytes-with_revision names records counts texts))

  -- another number is no next one
  with_numbered-other : (number : List ℕ) → (number_up_to (length counts) number ≡ Some (length counts) → ⊥) → with_numbered (history_in_bytes (dump_of names records counts texts)) number ≡ None
  with_numbered-other number other = by_number (number_of number) refl
    where
      by_number : (o : Option ℕ) → number_of number ≡ o → option_and_then (λ value. if value == length (history_in_bytes (dump_of names records counts texts)) then Some (history_in_bytes (dump_of names records counts texts) ++ [] ∷ []) else None) o ≡ None
      by_number None said = refl
      by_number (Some value) said = cond-false _ _ _ (ne_eqb value (length (history_in_bytes (dump_of names records counts texts))) (λ same.
          let is : value ≡ length counts = same ∙ length-history_in_bytes names records counts texts in
          other (ap (option_and_then (λ one. if nat_le one (length counts) then Some one else None)) said ∙ ap (λ one. if nat_le one (length counts) then Some one else None) is
          ∙ cond-true _ _ _ (le-leb (length counts) (length counts) (omega arith)))))

  pub refused-number : (number : List ℕ) → (number_up_to (length counts) number ≡ Some (length counts) → ⊥) → first_holding (content_refusals (history_in_bytes (dump_of names records counts texts)) (revision_block number)) ≡ Some Revision
  unfolding first_holding with_content refusals_by
  refused-number number other = cond-true _ _ _ (ap is_none (with_numbered-other number other))

  -- one revision too many
  pub refused-revision : (number : List ℕ) → number_up_to (length counts) number ≡ Some (length counts) → most_numbered ≤ length counts → first_holding (content_refusals (history_in_bytes (dump_of names records counts texts)) (revision_block number)) ≡ Some TooLarge
  unfolding first_holding with_content refusals_by
  refused-revision number told full =
      let after = history_in_bytes (dump_of names records (counts ++ 0 ∷ []) texts) in
      let at = with_numbered-told number told in
      let long = length-history_in_bytes names records (counts ++ 0 ∷ []) texts in
      cond-false _ _ _ (ap is_none at) ∙ cond-true _ _ _ (ap grows_large at ∙ large_by_length after (omega (arith, full, long, length_push counts 0)))

  pub IsWholeHistory-with_revision : length counts < most_numbered → IsWholeHistory (dump_of names records counts texts) → IsWholeHistory (dump_of names records (counts ++ 0 ∷ []) texts)
  IsWholeHistory-with_revision room whole =
      let named = whole.named ∙ sym (names_of-with_revision (history_in_bytes (dump_of names records counts texts))) ∙ ap names_of (sym (history_in_bytes-with_revision names records counts texts)) in
      let valued = whole.valued ∙ sym (values_of-with_revision (history_in_bytes (dump_of names records counts texts))) ∙ ap values_of (sym (history_in_bytes-with_revision names records counts texts)) in record {
        named = named;
        valued = valued;
        names = whole.names;
        texts = whole.texts;
        small = small_draft (dump_of names records (counts ++ 0 ∷ []) texts) (IsDraft-with_revision room) named valued
            (subst (λ all. length all ≤ most_numbered) (sym whole.named) whole.small.names) (subst (λ all. length all ≤ most_numbered) (sym whole.valued) whole.small.values);
      }

  -- ---- more names and texts

  pub IsDraft-grows : (new new_texts : List (List ℕ)) → Extends names new → Extends texts new_texts → IsDraft (dump_of new records counts new_texts)
  IsDraft-grows new new_texts grows texts_grow = record {
    records = All-IsRecordOf-grows (dump_of names records counts texts) (dump_of new records counts new_texts) records grows texts_grow draft.records;
    revisions = draft.revisions;
    few_records = draft.few_records;
    few_revisions = draft.few_revisions;
  }

  -- ---- a record

  -- why there is none
  pub refused-record :
      (node : Node) (e : ReadError) → IsFirstReason (node_refusals (length counts) node (is_record_large names texts (record_of (pred (length counts)) node))) e →
      IsWholeHistory (dump_of names records counts texts) → IsFirstReason (content_refusals (history_in_bytes (dump_of names records counts texts)) (node_block node)) e
  refused-record node e is whole =
      let history = history_in_bytes (dump_of names records counts texts) in
      let large : Bool = is_record_large names texts (record_of (pred (length counts)) node) in
      let long = length-history_in_bytes names records counts texts in
      let same : large ≡ is_record_large (names_of history) (values_of history) (record_of (pred (length history)) node) =
      ap₂ (λ a b. is_record_large a b (record_of (pred (length counts)) node)) whole.named whole.valued ∙ ap (λ n. is_record_large (names_of history) (values_of history) (record_of (pred n) node)) (sym long) in
      IsFirstReason-node history node large e (λ b. grows_large-record history node (sym same ∙ b)) (subst (λ n. IsFirstReason (node_refusals n node large) e) (sym long) is)

  -- a count is of so many records at most
  pub count-le : (k : ℕ) → get_or counts k 0 ≤ length records
  count-le k = omega (arith, get_or-le-total counts k, total-revisions records counts draft.revisions)

  module _ (new new_texts : List (List ℕ)) (told : Option RecordOfBytes) (rev : ℕ) (each : NodeRecord) (is_told : IsNumberedRecord told rev names new texts new_texts each) (last : rev ≡ length counts - 1) where
    some_revision : 1 < length counts
    some_revision = omega (arith, is_told.of_table.above_zero, is_told.revision)

    grows : Extends names new
    grows = Extends-by names new (parts_of_record (record_in_bytes new new_texts each)) is_told.table

    texts_grow : Extends texts new_texts
    texts_grow = Extends-by texts new_texts (texts_of_action (action_in_bytes new new_texts each.act)) is_told.texts

    pub IsDraft-with_record : length records < most_numbered → IsDraft (dump_of new (records ++ each ∷ []) (with_more counts) new_texts)
    IsDraft-with_record room = record {
      records =
          let after = dump_of new (records ++ each ∷ []) (with_more counts) new_texts in
          All-push (IsRecordOf after) records each (All-IsRecordOf-grows (dump_of names records counts texts) after records grows texts_grow draft.records)
          (IsRecordOf-grows (only_tables new new_texts) after each (Extends-same new) (Extends-same new_texts) is_told.of_table);
      revisions =
          map_push (λ one. one.rev) records each
          ∙ ap₂ (λ front n. front ++ n ∷ []) draft.revisions (omega (arith, is_told.revision))
          ∙ sym (revisions_from-with_more 0 counts (omega (arith, some_revision)));
      few_records = omega (arith, length_push records each);
      few_revisions = omega (arith, length-with_more counts, draft.few_revisions);
    }

    history_told : history_in_bytes (dump_of new (records ++ each ∷ []) (with_more counts) new_texts) ≡ with_record (history_in_bytes (dump_of names records counts texts)) (record_in_bytes new new_texts each)
    history_told = history_in_bytes-with_record names new texts new_texts records counts each grows texts_grow draft.records draft.revisions (omega (arith, some_revision))

    pub with_record-told : option_map (with_record (history_in_bytes (dump_of names records counts texts))) told ≡ Some (history_in_bytes (dump_of new (records ++ each ∷ []) (with_more counts) new_texts))
    with_record-told = ap (option_map (with_record (history_in_bytes (dump_of names records counts texts)))) is_told.same ∙ ap Some (sym history_told)

    some_group : 0 < length (history_in_bytes (dump_of names records counts texts))
    some_group = omega (arith, some_revision, length-history_in_bytes names records counts texts)

    abbrev after : DumpValue
    after = dump_of new (records ++ each ∷ []) (with_more counts) new_texts

    IsNamed-with_record : IsNamed (dump_of names records counts texts) → IsNamed after
    IsNamed-with_record named =
        let history = history_in_bytes (dump_of names records counts texts) in
        is_told.table ∙ ap (λ old. with_names old (parts_of_record (record_in_bytes new new_texts each))) named
        ∙ sym (names_of-with_record history (record_in_bytes new new_texts each) some_group) ∙ ap names_of (sym history_told)

    IsValued-with_record : IsValued (dump_of names records counts texts) → IsValued after
    IsValued-with_record valued =
        let history = history_in_bytes (dump_of names records counts texts) in
        is_told.texts ∙ ap (λ old. with_names old (texts_of_action (action_in_bytes new new_texts each.act))) valued
        ∙ sym (values_of-with_record history (record_in_bytes new new_texts each) some_group) ∙ ap values_of (sym history_told)

    pub IsWholeHistory-with_record : is_full (dump_of new records counts new_texts) ≡ false → IsTable new → IsDistinct bytes_eq new_texts → IsWholeHistory (dump_of names records counts texts) → IsWholeHistory after
    IsWholeHistory-with_record room table distinct whole =
        let (few, _) = or_parts _ (nat_le most_numbered (length records)) room in
        let (few_names, few_values) = or_parts (nat_lt most_numbered (length new)) (nat_lt most_numbered (length new_texts)) few in record {
          named = IsNamed-with_record whole.named;
          valued = IsValued-with_record whole.valued;
          names = table;
          texts = distinct;
          small = small_draft after (IsDraft-with_record (room_left (dump_of new records counts new_texts) room)) (IsNamed-with_record whole.named) (IsValued-with_record whole.valued)
              (ltb-false _ _ few_names) (ltb-false _ _ few_values);
        }

    -- it is one too many, or its names or texts are
    pub refused-full : (node : Node) → told ≡ record_of (pred (length (history_in_bytes (dump_of names records counts texts)))) node → is_full (dump_of new records counts new_texts) ≡ true → IsWholeHistory (dump_of names records counts texts) → first_holding (content_refusals (history_in_bytes (dump_of names records counts texts)) (node_block node)) ≡ Some TooLarge
    refused-full node said full whole =
        content_refusals-large (history_in_bytes (dump_of names records counts texts)) node (record_in_bytes new new_texts each) (sym said ∙ is_told.same)
        (elim (cases_Bool (is_large (with_record (history_in_bytes (dump_of names records counts texts)) (record_in_bytes new new_texts each)))) [
          | inl large ↦ large
          | inr small ↦ absurd (both_ways _ (not_full (is_large-IsSmall _ small)) full)
        ])
      where
        not_full : IsSmall (with_record (history_in_bytes (dump_of names records counts texts)) (record_in_bytes new new_texts each)) → is_full (dump_of new records counts new_texts) ≡ false
        not_full small =
            let names_are : names_of (with_record (history_in_bytes (dump_of names records counts texts)) (record_in_bytes new new_texts each)) ≡ new = sym (ap names_of history_told) ∙ sym (IsNamed-with_record whole.named) in
            let values_are : values_of (with_record (history_in_bytes (dump_of names records counts texts)) (record_in_bytes new new_texts each)) ≡ new_texts = sym (ap values_of history_told) ∙ sym (IsValued-with_record whole.valued) in
            let more = ap length (all_records-with_record (history_in_bytes (dump_of names records counts texts)) (record_in_bytes new new_texts each) some_group) ∙ length_push (all_records (history_in_bytes (dump_of names records counts texts))) (record_in_bytes new new_texts each) in
            or_from _ _ (or_from _ _ (le-ltb most_numbered (length new) (omega (arith, ap length names_are, small.names))) (le-ltb most_numbered (length new_texts) (omega (arith, ap length values_are, small.values))))
            (lt-leb most_numbered (length records) (omega (arith, more, length-all_records names records counts texts draft.revisions, small.records)))

-- ---- the whole dump

-- a dump without revisions
pub IsWholeHistory-none : IsWholeHistory (dump_of [] [] [] [])
unfolding IsDistinct
IsWholeHistory-none = record { named = refl; valued = refl; names = IsTable-nil; texts = tt; small = small_nothing }

-- a whole draft with a revision is a dump
pub IsDump-whole : (dump : DumpValue) → IsDraft dump → IsWholeHistory dump → dump.counts ≢ [] → IsDump dump
IsDump-whole dump draft whole some = record {
  names = whole.names;
  texts = whole.texts;
  records = draft.records;
  revisions = draft.revisions;
  some_revision = some;
  few_names = subst (λ all. length all ≤ most_numbered) (sym whole.named) whole.small.names;
  few_records = draft.few_records;
  few_revisions = draft.few_revisions;
  few_values = subst (λ all. length all ≤ most_numbered) (sym whole.valued) whole.small.values;
}
