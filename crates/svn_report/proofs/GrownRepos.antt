-- A map of a dump that has grown, and what is known of its records.
use Rattle.svn_report.proofs.Common.{◌≡◌, ℕ, ◌+◌, ◌<◌, ◌≤◌, List, [], ◌++◌, None, Some, drop, length, sym, ap, subst, ◌∙◌, append-nil, arith, length-append, drop_at, length-map, same_name, DumpValue, IsDump, history_view, record_view, NodeRecord, HasSourceBefore, HaveSources, ends_of, record_at_tick, AreOfDumpBefore}
use Rattle.std.specs.List.{slice_get}
use Rattle.svn_dump.specs.State.{fault_of_next_record}
use Rattle.svn_dump.proofs.Lists.{slice_get-second}
use Rattle.path_index.specs.Index.{IndexValue}
use Rattle.block_map.specs.Map.{IsMapOf, IsMapOfFirstRecords, MapValue, hi_of, records_at_ticks}
use Rattle.block_map.proofs.GrownDumps.{IsMapOfFirstRecords-grown_dump, fine-grown}
use Rattle.block_map.proofs.Sources.{HaveSources-dump}

module _ {dump : DumpValue} {index : IndexValue} {map : MapValue} (before : AreOfDumpBefore dump index map) where
  -- the records that came
  pub rest-grown : drop (hi_of map) dump.records ≡ before.grew.records.0
  rest-grown = ap (drop (hi_of map)) before.grew.records.1 ∙ drop_at before.old.records before.grew.records.0 (hi_of map) (sym before.map_is.whole)

  pub count-grown : hi_of map + length (drop (hi_of map) dump.records) ≡ length dump.records
  count-grown = omega (arith, ap length rest-grown, before.map_is.whole, ap length before.grew.records.1, length-append before.old.records before.grew.records.0)

  -- their sources stand before them
  pub HaveSources-grown : IsDump dump → HaveSources (hi_of map) (ends_of dump.counts) (drop (hi_of map) dump.records)
  HaveSources-grown is index each at =
      let more = before.grew.records.0 in
      let whole = before.map_is.whole in
      let there : slice_get dump.records (hi_of map + index) ≡ Some each =
      ap (λ n. slice_get dump.records (n + index)) whole ∙ ap (λ records. slice_get records (length before.old.records + index)) before.grew.records.1
      ∙ slice_get-second before.old.records more index each (ap (λ records. slice_get records index) (sym rest-grown) ∙ at) in
      subst (λ tick. HasSourceBefore (ends_of dump.counts) tick each.act) (omega arith) (HaveSources-dump dump is (hi_of map + index) each there)

  -- the map is one of the first records
  pub first-grown : IsMapOfFirstRecords dump map
  first-grown = IsMapOfFirstRecords-grown_dump before.old dump before.grew before.dump_is map before.map_is

  -- with the records that came it is one of all records
  pub IsMapOf-grown : (grown : MapValue) (came : List NodeRecord) → came ≡ drop (hi_of map) dump.records → grown.lo ≡ map.lo
      → grown.records ≡ map.records ++ records_at_ticks (ends_of dump.counts) came
      → ((first more : List NodeRecord) → dump.records ≡ first ++ (came ++ more) → length first ≡ hi_of map → IsMapOfFirstRecords dump map → IsMapOfFirstRecords dump grown) → IsMapOf dump grown
  IsMapOf-grown grown came rest lo records of_first =
      let (more, all) = before.grew.records in
      let is : came ≡ more = rest ∙ rest-grown in
      record {
        first = of_first before.old.records [] (all ∙ ap (λ last. before.old.records ++ last) (sym (append-nil more) ∙ ap (λ last. last ++ []) (sym is))) (sym before.map_is.whole) first-grown;
        whole = omega (
          arith,
          lo,
          ap length records,
          length-append map.records (records_at_ticks (ends_of dump.counts) came),
          length-map came (λ (each : NodeRecord). record_at_tick (ends_of dump.counts) (record_view each)),
          ap length rest,
          count-grown,
        );
      }

  -- the records before have no fault
  pub checked-grown : (number : ℕ) → number < hi_of map → fault_of_next_record same_name (history_view dump) number ≡ None
  checked-grown number early =
      let whole = before.map_is.whole in
      fine-grown before.old dump before.grew before.dump_is before.lawful number (omega (arith, early, whole))

  -- the index with the records that came is one of all records
  pub records-grown : (came : List NodeRecord) → came ≡ drop (hi_of map) dump.records → index.records ++ came ≡ dump.records
  records-grown came rest =
      ap (λ index. index.records ++ came) before.index_is ∙ ap (λ more. before.old.records ++ more) (rest ∙ rest-grown) ∙ sym before.grew.records.1
