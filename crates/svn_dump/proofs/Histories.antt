-- The history that a dump shows, after one more record and after one more revision.
use Rattle.svn_dump.proofs.Common.{◌≡◌, ℕ, ◌<◌, List, [], ◌∷◌, ◌++◌, map, length, sym, ap, ◌∙◌, append_assoc, append-nil, arith, All, fold-append, flat_map-append, map-append, length-map, name_of, with_name, with_names, Extends, record_in_bytes, dump_of, IsRecordOf, record_view, records_by_revision, revisions_from, history_in_bytes, text_of, parts_of_record, texts_of_action, all_records, names_of, values_of, rename_record, RecordOfBytes, HistoryOfBytes, with_record, NodeRecord}
use Rattle.std.specs.List.{flat_map}
use Rattle.std.proofs.lemmas.Simd.{map-map}
use Rattle.svn_dump.proofs.Growing.{map-record_in_bytes-grows}
use Rattle.svn_dump.proofs.Grouped.{total, with_more, length-records_by_revision, map-records_by_revision, flat_map-records_by_revision, records_by_revision-with_more, records_by_revision-with_group, length-revisions_from}

-- the history in bytes, by its flat list of records
pub history_in_bytes-told : (names : List (List ℕ)) (records : List NodeRecord) (counts : List ℕ) (texts : List (List ℕ)) → history_in_bytes (dump_of names records counts texts) ≡ records_by_revision counts (map (record_in_bytes names texts) records)
history_in_bytes-told names records counts texts =
    let f : (each : _) → RecordOfBytes = rename_record (λ name. name_of names name.0) (λ value. text_of texts value.0) in
    map-records_by_revision f counts (map record_view records) ∙ ap (records_by_revision counts) (map-map f record_view records)

-- as many records as the counts say
pub total-revisions : (records : List NodeRecord) (counts : List ℕ) → map (λ each. each.rev) records ≡ revisions_from 0 counts → total counts ≡ length records
total-revisions records counts h = sym (length-revisions_from 0 counts) ∙ ap length (sym h) ∙ length-map records (λ each. each.rev)

-- ---- the names and the records of a history

-- the records of groups are those that were grouped
pub all_records-records_by_revision : (counts : List ℕ) (records : List RecordOfBytes) → total counts ≡ length records → all_records (records_by_revision counts records) ≡ records
all_records-records_by_revision counts records h = flat_map-records_by_revision counts records h

-- one more record comes last
pub all_records-with_record : (history : HistoryOfBytes) (each : RecordOfBytes) → 0 < length history → all_records (with_record history each) ≡ all_records history ++ each ∷ []
all_records-with_record [] each some = absurd (omega arith)
all_records-with_record (records ∷ []) each some = append-nil (records ++ each ∷ []) ∙ ap (λ front. front ++ each ∷ []) (sym (append-nil records))
all_records-with_record (records ∷ more ∷ history) each some =
    ap (λ rest. records ++ rest) (all_records-with_record (more ∷ history) each (omega arith)) ∙ sym (append_assoc records _ _)

-- one more revision has none yet
pub all_records-with_revision : (history : HistoryOfBytes) → all_records (history ++ [] ∷ []) ≡ all_records history
all_records-with_revision history = flat_map-append (λ records. records) history ([] ∷ []) ∙ append-nil (all_records history)

-- what a record adds to a table, one more record adds
with_names-with_record : (added : RecordOfBytes → List (List ℕ)) (history : HistoryOfBytes) (each : RecordOfBytes) → 0 < length history → with_names [] (flat_map added (all_records (with_record history each))) ≡ with_names (with_names [] (flat_map added (all_records history))) (added each)
with_names-with_record added history each some =
    ap (λ records. with_names [] (flat_map added records)) (all_records-with_record history each some)
    ∙ ap (with_names []) (flat_map-append added (all_records history) (each ∷ []))
    ∙ fold-append with_name [] (flat_map added (all_records history)) (added each ++ [])
    ∙ ap (with_names (with_names [] (flat_map added (all_records history)))) (append-nil (added each))

-- its names
pub names_of-with_record : (history : HistoryOfBytes) (each : RecordOfBytes) → 0 < length history → names_of (with_record history each) ≡ with_names (names_of history) (parts_of_record each)
names_of-with_record history each some = with_names-with_record parts_of_record history each some

-- and its text
pub values_of-with_record : (history : HistoryOfBytes) (each : RecordOfBytes) → 0 < length history → values_of (with_record history each) ≡ with_names (values_of history) (texts_of_action each.action)
values_of-with_record history each some = with_names-with_record (λ one. texts_of_action one.action) history each some

-- one more revision adds none
pub names_of-with_revision : (history : HistoryOfBytes) → names_of (history ++ [] ∷ []) ≡ names_of history
names_of-with_revision history = ap (λ records. with_names [] (flat_map parts_of_record records)) (all_records-with_revision history)

pub values_of-with_revision : (history : HistoryOfBytes) → values_of (history ++ [] ∷ []) ≡ values_of history
values_of-with_revision history = ap (λ records. with_names [] (flat_map (λ one. texts_of_action one.action) records)) (all_records-with_revision history)

-- ---- one more

-- the dump with one more record, and its new names and texts, shows the history with that record
pub history_in_bytes-with_record :
    (old new old_texts new_texts : List (List ℕ)) (records : List NodeRecord) (counts : List ℕ) (each : NodeRecord) →
    Extends old new → Extends old_texts new_texts → All (IsRecordOf (dump_of old records counts old_texts)) records →
    map (λ one. one.rev) records ≡ revisions_from 0 counts → 0 < length counts →
    history_in_bytes (dump_of new (records ++ each ∷ []) (with_more counts) new_texts) ≡ with_record (history_in_bytes (dump_of old records counts old_texts)) (record_in_bytes new new_texts each)
history_in_bytes-with_record old new old_texts new_texts records counts each grows texts_grow all revisions some =
    history_in_bytes-told new (records ++ each ∷ []) (with_more counts) new_texts
    ∙ ap (records_by_revision (with_more counts)) (map-append (record_in_bytes new new_texts) records (each ∷ [])
    ∙ ap (λ front. front ++ record_in_bytes new new_texts each ∷ []) (map-record_in_bytes-grows (dump_of old records counts old_texts) new new_texts grows texts_grow records all))
    ∙ records_by_revision-with_more counts (map (record_in_bytes old old_texts) records) (record_in_bytes new new_texts each) (total-revisions records counts revisions ∙ sym (length-map records (record_in_bytes old old_texts))) some
    ∙ ap (λ history. with_record history (record_in_bytes new new_texts each)) (sym (history_in_bytes-told old records counts old_texts))

module _ (names : List (List ℕ)) (records : List NodeRecord) (counts : List ℕ) (texts : List (List ℕ)) where
  -- the dump with one more revision shows the history with that revision
  pub history_in_bytes-with_revision : history_in_bytes (dump_of names records (counts ++ 0 ∷ []) texts) ≡ history_in_bytes (dump_of names records counts texts) ++ [] ∷ []
  history_in_bytes-with_revision =
      history_in_bytes-told names records (counts ++ 0 ∷ []) texts
      ∙ records_by_revision-with_group counts (map (record_in_bytes names texts) records)
      ∙ ap (λ history. history ++ [] ∷ []) (sym (history_in_bytes-told names records counts texts))

  -- ---- how many

  -- there are as many revisions as counts
  pub length-history_in_bytes : length (history_in_bytes (dump_of names records counts texts)) ≡ length counts
  length-history_in_bytes = ap length (history_in_bytes-told names records counts texts) ∙ length-records_by_revision counts (map (record_in_bytes names texts) records)

  -- and as many records as the dump has
  pub length-all_records : map (λ one. one.rev) records ≡ revisions_from 0 counts → length (all_records (history_in_bytes (dump_of names records counts texts))) ≡ length records
  length-all_records revisions =
      ap (λ history. length (all_records history)) (history_in_bytes-told names records counts texts)
      ∙ ap length (all_records-records_by_revision counts (map (record_in_bytes names texts) records) (total-revisions records counts revisions ∙ sym (length-map records (record_in_bytes names texts))))
      ∙ length-map records (record_in_bytes names texts)
