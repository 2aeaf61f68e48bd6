use Rattle.std.proofs.Common.{◌≡◌, ℕ, ◌-◌, List, ◌++◌, drop, length, sym, ap, ◌∙◌, arith, length-drop}
use Rattle.std.specs.List.{slice_range}
use Rattle.std.proofs.lemmas.List.{map-append, take_all}
use Rattle.std.proofs.lemmas.List.Folds.{drop_split}
use Rattle.svn_dump.specs.Dump.{record_view}
use Rattle.svn_dump.specs.declared.record.NodeRecord.{NodeRecord}
use Rattle.block_map.specs.Ends.{record_at_tick}
use Rattle.block_map.specs.Map.{IsMapOf, MapValue, records_at_ticks}
use Rattle.block_map.proofs.MapsOfDumps.{IsMapOf-built}
use Rattle.block_map.proofs.Results.{IfOk-both}
use Rattle.block_map_tests.proofs.joins.map_of_both.Goals as goal

-- the records of both parts are all records
both-parts : (ends : List ℕ) (all : List NodeRecord) (count : ℕ)
    → records_at_ticks ends (slice_range all 0 count) ++ records_at_ticks ends (slice_range all count (length all))
    ≡ records_at_ticks ends all
both-parts ends all count =
    let later = drop count all in
    ap (λ rest. records_at_ticks ends (slice_range all 0 count) ++ records_at_ticks ends rest)
    (take_all (length all - count) later (omega (arith, length-drop count all)))
    ∙ sym (map-append (λ (each : NodeRecord). record_at_tick ends (record_view each)) (slice_range all 0 count) later)
    ∙ ap (records_at_ticks ends) (sym (drop_split all 0 count (omega arith)))

pub returns : goal.returns
returns c =
    let dump = c.args.dump.now in
    let ends = c.args.ends.now in
    let earlier = c.in_ok-earlier.earlier in
    let front = records_at_ticks ends (slice_range dump.records 0 c.args.count) in
    let later = λ (n : ℕ). records_at_ticks ends (slice_range dump.records c.args.count n) in
    let end = length c.records.result.now in
    IfOk-both c.with_part-both.result (λ (map : MapValue). map.lo ≡ earlier.lo)
    (λ (map : MapValue). map.records ≡ earlier.records ++ later end) (IsMapOf dump)
    (λ map lo kept. IsMapOf-built dump map (lo ∙ c.in_ok-earlier.ensures.lo)
    (kept ∙ ap (λ records. records ++ later end) c.in_ok-earlier.ensures.records
    ∙ ap (λ (all : List NodeRecord). front ++ later (length all)) c.records.ensures.value
    ∙ both-parts ends dump.records c.args.count
    ∙ ap (λ each. records_at_ticks each dump.records) c.requires))
    c.with_part-both.ensures.lo c.with_part-both.ensures.records
