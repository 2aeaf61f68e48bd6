-- The segments of a path of a repository, and their operative revisions.
use Rattle.query_answer.proofs.Common.{◌≡◌, ℕ, zero, suc, ◌+◌, ◌<◌, ◌≤◌, List, [], ◌∷◌, Option, None, filter, get_or, length, ltb, map, sym, ap, subst, ◌∙◌, arith, IfOk, Ok, Err, Result, Vec, lt-ltb, ltb-true, history_to, trees_to, AreHitsInRange, AreMaximal, AreSegmentsOf, IndexValue, location_in, segment_view, operative_of, is_in_range, AreSegments, Hit, IsPathOf, same_name, NameId, DumpValue, IsLocationOf, TellsLocations, AreHitsIn, AreSegmentsIn, IsRepo, MapValue}
use Rattle.std.specs.Prelude.{All}
use Rattle.std.specs.List.Sorted.{IsPartitionedBy}
use Rattle.std.specs.declared.alloc.AllocError.{AllocError}
use Rattle.std.specs.declared.alloc.Global.{Global}
use Rattle.path_index.specs.declared.segment.Segment.{Segment}
use Rattle.svn_dump.proofs.Locations.{location_later}
use Rattle.svn_dump.proofs.Origins.{OriginsFall-trees_of}
use Rattle.query_answer.proofs.AnswerTexts.{IsThere-IsRepo}
use Rattle.query_answer.proofs.LocationsInBytes.{All-kept}
use Rattle.query_answer.proofs.InBytes.{segments-of_names}

module _ (dump : DumpValue) (index : IndexValue) (kept : MapValue) (ends : List ℕ) (repo : IsRepo dump index kept ends) (path : List NameId) (rev : ℕ)
    (of : IsPathOf dump.names path) (within : rev < length dump.counts) where
  AreSegmentsIn-kept : (segments : List Segment) → AreSegmentsOf index path rev segments → AreMaximal index path rev segments → AreSegmentsIn dump path rev segments
  AreSegmentsIn-kept segments exact maximal =
      let same = subst (λ each. AreSegmentsOf each path rev segments) repo.index_is exact in
      record {
        of_names = All-kept dump.names segments (subst (All (λ segment. IsLocationOf dump.names segment.path)) (sym same) (segments-of_names dump repo.dump_is rev within path of));
        exact = same;
        maximal = subst (λ each. AreMaximal each path rev segments) repo.index_is maximal;
      }

  pub AreSegmentsIn-result : (result : Result (Vec Segment Global) AllocError) → IfOk result (λ segments. AreSegmentsOf index path rev segments.items)
      → IfOk result (λ segments. AreMaximal index path rev segments.items) → IfOk result (λ segments. AreSegmentsIn dump path rev segments.items)
  AreSegmentsIn-result (Ok segments) exact maximal = AreSegmentsIn-kept segments.items exact maximal
  AreSegmentsIn-result (Err e) exact maximal = tt

pub AreHitsIn-kept : (dump : DumpValue) (index : IndexValue) (kept : MapValue) (ends : List ℕ)
    → IsRepo dump index kept ends → (segments : List Segment) (range : Option (ℕ × ℕ)) (hits : List Hit)
    → AreHitsInRange index segments range hits → AreHitsIn dump segments range hits
AreHitsIn-kept dump index kept ends repo segments range hits are = λ path rev there so.
    let same : AreSegmentsOf index path rev segments =
    subst (λ each. AreSegmentsOf each path rev segments) (sym repo.index_is) so.exact in
    let passes = λ (hit : Hit). is_in_range range hit.rev in
    subst (λ each. hits
    ≡ filter passes
    (operative_of same_name (history_to each.records rev) (trees_to each.records rev) (map segment_view segments)))
    repo.index_is (are path rev (IsThere-IsRepo dump index kept ends repo path rev there) same)

-- the segments tell where the path was in each revision
pub TellsLocations-AreSegmentsIn : (dump : DumpValue) (path : List NameId) (rev : ℕ) (segments : List Segment) → AreSegmentsIn dump path rev segments → TellsLocations (location_in dump.records path rev) segments
TellsLocations-AreSegmentsIn dump path rev segments so = record {
  bound = rev + 1;
  below = so.maximal;
  above = λ other up. location_later same_name (trees_to dump.records rev) (OriginsFall-trees_of same_name (history_to dump.records rev)) path rev other (omega (arith, up));
}

-- ---- the segment of a revision

module _ (located : ℕ → Option (List NameId)) (rev : ℕ) where
  -- each segment begins below the bound
  begins_below : (segments : List Segment) (bound k : ℕ) (d : Segment) → AreSegments located bound (map segment_view segments) → k < length segments → (get_or segments k d).lo < bound
  begins_below [] bound k d are within = absurd (omega arith)
  begins_below (first ∷ segments) bound zero d are within = omega (arith, are.0, are.1.ordered)
  begins_below (first ∷ segments) bound (suc k) d are within = omega (arith, are.0, are.1.ordered, begins_below segments first.lo k d are.2 (omega arith))

  -- no segment that begins above the revision comes after one that does not
  pub begins_above : (segments : List Segment) (bound : ℕ) → AreSegments located bound (map segment_view segments) → IsPartitionedBy (λ (each : Segment). ltb rev each.lo) segments
  begins_above [] bound are i j d order within = absurd (omega arith)
  begins_above (first ∷ segments) bound are zero zero d order within = λ above. above
  begins_above (first ∷ segments) bound are zero (suc j) d order within =
      λ above. lt-ltb rev first.lo (omega (arith, ltb-true rev (get_or segments j d).lo above, begins_below segments first.lo j d are.2 (omega arith)))
  begins_above (first ∷ segments) bound are (suc i) zero d order within = absurd (omega arith)
  begins_above (first ∷ segments) bound are (suc i) (suc j) d order within = begins_above segments first.lo are.2 i j d (omega arith) (omega arith)

  -- the path of a segment that has the revision
  pub path-segment : (segments : List Segment) (bound n : ℕ) (segment : Segment) → AreSegments located bound (map segment_view segments) → n < length segments → segment ≡ get_or segments n segment
      → segment.lo ≤ rev → rev ≤ segment.hi → located rev ≡ segment.path
  path-segment [] bound n segment are within at from to = absurd (omega arith)
  path-segment (first ∷ segments) bound zero segment are within at from to =
      are.1.stays rev (omega (arith, from, ap (λ (each : Segment). each.lo) at)) (omega (arith, to, ap (λ (each : Segment). each.hi) at)) ∙ sym (ap (λ (each : Segment). each.path) at)
  path-segment (first ∷ segments) bound (suc n) segment are within at from to = path-segment segments first.lo n segment are.2 (omega arith) at from to

  -- the first segment that does not begin above the revision ends below it only if all segments do
  pub above-segments : (segments : List Segment) (bound n : ℕ) (segment : Segment) → AreSegments located bound (map segment_view segments) → ((k : ℕ) (d : Segment) → k < n → rev < (get_or segments k d).lo)
      → n < length segments → segment ≡ get_or segments n segment → segment.hi < rev → bound ≤ rev
  above-segments [] bound n segment are before within at ends = absurd (omega arith)
  above-segments (first ∷ segments) bound zero segment are before within at ends = omega (arith, are.0, ends, ap (λ (each : Segment). each.hi) at)
  above-segments (first ∷ segments) bound (suc n) segment are before within at ends =
      absurd (omega (arith, before 0 first (omega arith), above-segments segments first.lo n segment are.2 (λ k d less. before (suc k) d (omega (arith, less))) (omega arith) at ends))

  -- where all segments begin above the revision the path was nowhere
  pub below-segments : (segments : List Segment) (bound : ℕ) → AreSegments located bound (map segment_view segments) → ((k : ℕ) (d : Segment) → k < length segments → rev < (get_or segments k d).lo)
      → rev < bound → located rev ≡ None
  below-segments [] bound are before within = are rev within
  below-segments (first ∷ segments) bound are before within =
      below-segments segments first.lo are.2 (λ k d less. before (suc k) d (omega (arith, less))) (before 0 first (omega arith))
