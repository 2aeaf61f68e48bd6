-- What a map of records of a dump shows.
use Rattle.block_map.proofs.Common.{◌≡◌, ℕ, ◌+◌, ◌≤◌, List, [], ◌++◌, length, append_assoc, append-nil, refl, ap, sym, ◌∙◌, arith, common_steps, length-map, map-append, same_name, NameId, DumpValue, record_view, Record, NodeRecord, ValueId, ends_of, record_at_tick, Found, resolved, look, with_mergeinfo, IsFoundUpTo, look_from, look_through, IsEndIn, IsMapOf, IsMapOfFirstRecords, MapValue, hi_of, look_in, records_at_ticks, revision_in, standing_at, standing_of}
use Rattle.block_map.specs.Look as found
use Rattle.block_map.proofs.FoundFrom.{up_to-look}
use Rattle.block_map.proofs.LooksThrough.{look-append, look-front, look_from-within}
use Rattle.block_map.proofs.RecordNodes.{resolved-with_mergeinfo}
use Rattle.block_map.proofs.RevisionStates.{standing-revision}
use Rattle.block_map.proofs.Standings.{standing-look}

-- at the end of a revision it shows the tree of the revision
pub standing-at_end : (dump : DumpValue) (rev : ℕ) (map : MapValue) (tick : ℕ) → IsMapOfFirstRecords dump map → IsEndIn dump rev tick → tick ≤ hi_of map
    → (path : List NameId) → standing_of (look_in map tick path) ≡ standing_at same_name (revision_in dump rev) path
standing-at_end dump rev map tick is end within path =
    standing-look dump end.dump_is map is tick path within ∙ standing-revision dump rev tick end path

-- Records that say the same up to their last tick, each followed by the same ones.
module _ (one other later : List (Record NameId ValueId)) (count : length other ≡ length one)
    (same : (tick : ℕ) (path : List NameId) → tick ≤ length one
    → resolved 0 (look same_name 0 one tick path) ≡ resolved 0 (look same_name 0 other tick path)) where
  -- they say the same of what was found up to then
  same_from : (tick : ℕ) (path : List NameId) → tick ≤ 0 + length one
      → resolved 0 (look_from same_name 0 one tick path) ≡ resolved 0 (look_from same_name 0 other tick path)
  same_from tick path within =
      rw (look_from-within same_name 0 one tick path within, look_from-within same_name 0 other tick path (omega (arith, count)))
      (same tick path (omega arith))

  same_through : (each : Found NameId ValueId) → IsFoundUpTo (0 + length one) each
      → resolved 0 (look_through same_name 0 one each) ≡ resolved 0 (look_through same_name 0 other each)
  same_through (found.at path tick) within = same_from tick path within
  same_through (found.at_with path tick mergeinfo) within =
      resolved-with_mergeinfo 0 mergeinfo (look_from same_name 0 one tick path) ∙ ap (with_mergeinfo mergeinfo) (same_from tick path within)
      ∙ sym (resolved-with_mergeinfo 0 mergeinfo (look_from same_name 0 other tick path))
  same_through (found.is kind mergeinfo) within = refl
  same_through found.absent within = refl

  -- so they say the same at later ticks, too
  look-same : (tick : ℕ) (path : List NameId)
      → resolved 0 (look same_name 0 (one ++ later) tick path) ≡ resolved 0 (look same_name 0 (other ++ later) tick path)
  look-same tick path =
      rw (look-append same_name 0 one later tick path, look-append same_name 0 other later tick path, count)
      (same_through (look same_name (0 + length one) later tick path) (up_to-look (0 + length one) same_name later tick path))

-- a map of the first records of a dump that takes the next ones stays one
pub IsMapOfFirstRecords-grown : (dump : DumpValue) (map grown : MapValue) (before records more : List NodeRecord) → IsMapOfFirstRecords dump map
    → dump.records ≡ before ++ (records ++ more) → length before ≡ hi_of map → grown.lo ≡ map.lo
    → grown.records ≡ map.records ++ records_at_ticks (ends_of dump.counts) records → IsMapOfFirstRecords dump grown
IsMapOfFirstRecords-grown dump map grown before records more is all count lo kept =
    let at_ticks = records_at_ticks (ends_of dump.counts) in
    let view = λ (each : NodeRecord). record_at_tick (ends_of dump.counts) (record_view each) in
    let front = at_ticks before in
    let later = at_ticks (records ++ more) in
    let whole : at_ticks dump.records ≡ front ++ later = ap at_ticks all ∙ map-append view before (records ++ more) in
    let count_is : length front ≡ length map.records = omega (arith, count, is.lo, length-map before view) in
    record {
      lo = lo ∙ is.lo;
      within = grind (arith, common_steps);
      looks = λ tick path within.
          let inside : tick ≤ 0 + length (map.records ++ at_ticks records) = omega (arith, within, lo, is.lo, ap length kept) in
          rw (lo, is.lo, kept, whole, ← look-front same_name 0 (map.records ++ at_ticks records) (at_ticks more) tick path inside, append_assoc, ← map-append view records more)
          (look-same map.records front later count_is
          (λ tick path within. (rw (is.lo, whole) at is.looks tick path (omega (arith, is.lo)))
          ∙ ap (resolved 0) (look-front same_name 0 front later tick path (omega (arith, count_is))))
          tick path);
    }

-- the map that is built of the first records of a dump, from the beginning, is one of them
pub IsMapOfFirstRecords-built : (dump : DumpValue) (map : MapValue) (records more : List NodeRecord) → map.lo ≡ 0 → dump.records ≡ records ++ more
    → map.records ≡ records_at_ticks (ends_of dump.counts) records → IsMapOfFirstRecords dump map
IsMapOfFirstRecords-built dump map records more lo all kept =
    let at_ticks = records_at_ticks (ends_of dump.counts) in
    record {
      lo = lo;
      within = grind (arith, common_steps);
      looks = λ tick path within.
          rw (lo, kept, all, map-append (λ (each : NodeRecord). record_at_tick (ends_of dump.counts) (record_view each)) records more)
          (ap (resolved 0) (sym (look-front same_name 0 (at_ticks records) (at_ticks more) tick path (omega (arith, within, lo, ap length kept)))));
    }

-- and that of all records is one of all of them
pub IsMapOf-built : (dump : DumpValue) (map : MapValue) → map.lo ≡ 0 → map.records ≡ records_at_ticks (ends_of dump.counts) dump.records
    → IsMapOf dump map
IsMapOf-built dump map lo kept = record {
  first = IsMapOfFirstRecords-built dump map dump.records [] lo (sym (append-nil dump.records)) kept;
  whole = grind (arith, common_steps);
}
