-- What is found at the operative revisions of a source, by its kept segments.
use Rattle.query_answer.proofs.Common.{◌≡◌, ℕ, zero, suc, ◌+◌, Bool, true, false, not, ◌&&◌, if◌then◌else◌, List, [], ◌∷◌, Option, Some, None, IfSome, All, filter, option_map, is_none, map, reverse, slice_get, bytes_eq, refl, sym, ap, subst, ◌∙◌, All-head, All-tail, range_with_len, filter_map, option_and_then, history_to, trees_to, location_in, segment_view, operative_of, is_in_range, AreSegments, same_location, segments_of, Hit, same_location-rename, IsTable, IsPathOf, components_of, same_name, NameId, DumpValue, history_in_bytes, history_view, location, MergeInfoValue, HasPathOf, eligible_in_range, merged_in_range, IsHeldIn, held_ranges_at, held_ranges_in, held_value, is_inherited, RevisionsByPath, eligible_at, found_in, is_eligible, merged_at, merged_revision, operative_location, value_has, eligible_by_hit, eligible_by_hits, has_in, has_revision, is_eligible_at, lent_ranges, merged_by_hit, merged_by_hits, segment_path, PathRev, IsPathIn, peg_in_bytes, trees_in_bytes}
use Rattle.path_index.specs.declared.segment.Segment.{Segment as KeptSegment}
use Rattle.merge_info.specs.Inherited.{inherited_revision}
use Rattle.query_answer.specs.declared.held_mergeinfo.HeldMergeinfo.{HeldMergeinfo}
use Rattle.query_answer.specs.declared.verbs.source.SourceRanges.{SourceRanges}
use Rattle.query_answer.proofs.HeldRevisions.{held-has, some_have}
use Rattle.query_answer.proofs.InBytes.{alike, hits-index, location-in_bytes, location-index, name, segments-index, text, trees-renamed, trees_by_number}
use Rattle.query_answer.proofs.OperativeLocations.{found-operative_of, found_in-rename, found_of_hit}
use Rattle.query_answer.proofs.RangeFilters.{filter-filter_map, filter-reverse}

-- what is found at the locations of a path of the dump in its operative revisions
abbrev pub found_by : {X : Type 0} → DumpValue → List NameId → ℕ → (List (List ℕ) → ℕ → Option X) → List X
found_by dump path rev find = found_in bytes_eq (history_in_bytes dump) (trees_in_bytes dump) (components_of dump.names path) rev find

-- where a path of the dump was in another revision
abbrev location_by : DumpValue → PathRev → ℕ → Option (List (List ℕ))
location_by dump at rev = location bytes_eq (trees_in_bytes dump) (components_of dump.names at.path) at.rev rev

-- ---- by what mergeinfo has of each operative revision

-- the path of a segment
segment_path-view : (all : List KeptSegment) (n : ℕ) → option_and_then (λ segment. segment.path) (slice_get (map segment_view all) n) ≡ segment_path all n
segment_path-view [] n = refl
segment_path-view (segment ∷ all) zero = refl
segment_path-view (segment ∷ all) (suc n) = segment_path-view all n

module _ (names : List (List ℕ)) (value : MergeInfoValue) (all : List KeptSegment) (has : Hit → Option Bool)
    (has_is : (hit : Hit) → has hit ≡ option_and_then (λ located. value_has value (components_of names located) hit.rev) (segment_path all hit.segment)) where
  merged_by_hit-found : (hit : Hit) → merged_by_hit has hit ≡ found_of_hit (λ located. merged_at (value_has value) (components_of names located)) (map segment_view all) hit
  merged_by_hit-found hit =
      ap (option_map (merged_revision hit.rev)) (has_is hit) ∙ by_path (segment_path all hit.segment)
      ∙ ap (option_and_then (λ located. merged_at (value_has value) (components_of names located) hit.rev)) (sym (segment_path-view all hit.segment))
    where
      by_path : (path : Option (List NameId))
          → option_map (merged_revision hit.rev) (option_and_then (λ located. value_has value (components_of names located) hit.rev) path)
          ≡ option_and_then (λ located. merged_at (value_has value) (components_of names located) hit.rev) path
      by_path None = refl
      by_path (Some located) = refl

  module _ (target : ℕ → Option (List NameId)) (other : ℕ → Option (List (List ℕ)))
      (alike_at : (located : List NameId) (rev : ℕ) → same_location bytes_eq (other rev) (Some (components_of names located)) ≡ same_location same_name (target rev) (Some located)) where
    eligible_by_hit-found : (hit : Hit) → eligible_by_hit has all target hit ≡ found_of_hit (λ located. eligible_at bytes_eq (value_has value) other (components_of names located)) (map segment_view all) hit
    eligible_by_hit-found hit =
        by_path (segment_path all hit.segment) (has_is hit)
        ∙ ap (option_and_then (λ located. eligible_at bytes_eq (value_has value) other (components_of names located) hit.rev)) (sym (segment_path-view all hit.segment))
      where
        by_path : (path : Option (List NameId)) → has hit ≡ option_and_then (λ located. value_has value (components_of names located) hit.rev) path
            → (if is_eligible_at has target hit path then Some hit.rev else None)
            ≡ option_and_then (λ located. eligible_at bytes_eq (value_has value) other (components_of names located) hit.rev) path
        by_path None is = refl
        by_path (Some located) is = λ i. if is_none (is i) && not (sym (alike_at located hit.rev) i) then Some hit.rev else None

-- ---- by the ranges of the segments

module _ (names : List (List ℕ)) (table : IsTable names) (held : HeldMergeinfo) (is : IsHeldIn names held) where
  -- the ranges of a segment have a revision exactly where the mergeinfo has it for the path of the segment
  has-held : (all : List KeptSegment) → All (HasPathOf names) all → (hit : Hit)
      → has_revision (is_inherited held) (map (held_ranges_in names held) all) hit
      ≡ option_and_then (λ located. value_has (held_value names held) (components_of names located) hit.rev) (segment_path all hit.segment)
  has-held all each hit =
      ap (λ has. if is_inherited held then inherited_revision has else has) (ranges_at_segment all hit.segment)
      ∙ by_path (segment_path all hit.segment) (of_segment all each hit.segment)
    where
      ranges_at_segment : (some : List KeptSegment) (n : ℕ)
          → option_and_then (λ ranges. some_have ranges hit.rev) (slice_get (map (held_ranges_in names held) some) n) ≡ some_have (option_and_then (held_ranges_at names held) (segment_path some n)) hit.rev
      ranges_at_segment [] n = refl
      ranges_at_segment (segment ∷ some) zero = refl
      ranges_at_segment (segment ∷ some) (suc n) = ranges_at_segment some n

      of_segment : (some : List KeptSegment) → All (HasPathOf names) some → (n : ℕ) → IfSome (segment_path some n) (IsPathOf names)
      of_segment [] each n = tt
      of_segment (segment ∷ some) each zero = All-head (HasPathOf names) segment some each
      of_segment (segment ∷ some) each (suc n) = of_segment some (All-tail (HasPathOf names) segment some each) n

      nothing : (b : Bool) → (if b then inherited_revision None else None) ≡ None
      nothing true = refl
      nothing false = refl

      by_path : (path : Option (List NameId)) → IfSome path (IsPathOf names)
          → (if is_inherited held then inherited_revision (some_have (option_and_then (held_ranges_at names held) path) hit.rev) else some_have (option_and_then (held_ranges_at names held) path) hit.rev)
          ≡ option_and_then (λ located. value_has (held_value names held) (components_of names located) hit.rev) path
      by_path None of = nothing (is_inherited held)
      by_path (Some located) of = held-has names table held.value.now is.canonical located of hit.rev held.rest.now is.rest

  pub has_in-held : (ranges : SourceRanges) (all : List KeptSegment) → map lent_ranges ranges.by_segment.items ≡ map (held_ranges_in names held) all → ranges.are_inherited ≡ is_inherited held
      → All (HasPathOf names) all → (hit : Hit) → has_in ranges hit ≡ option_and_then (λ located. value_has (held_value names held) (components_of names located) hit.rev) (segment_path all hit.segment)
  has_in-held ranges all are inherited each hit = (λ i. has_revision (inherited i) (are i) hit) ∙ has-held all each hit

-- ---- by the kept segments and their operative revisions

-- what is found at an operative revision, by the names of the dump
abbrev pub found_by_name : {X : Type 0} → List (List ℕ) → List KeptSegment → (List (List ℕ) → ℕ → Option X) → Hit
    → Option X
found_by_name names segments find =
    found_of_hit (λ located. find (components_of names located)) (map segment_view segments)

-- what is found in a revision has that revision
abbrev pub KeepsRevision : {X : Type 0} → (List (List ℕ) → ℕ → Option X) → (X → ℕ) → Type 0
KeepsRevision {X} find revision_of =
    (here : List (List ℕ)) (rev : ℕ) (x : X) → find here rev ≡ Some x → revision_of x ≡ rev

merged_at-keeps : (has : RevisionsByPath (List ℕ)) → KeepsRevision (merged_at has) (λ revision. revision.rev)
merged_at-keeps has here rev revision = by (has here rev)
  where
    by : (inheritable : Option Bool) → option_map (merged_revision rev) inheritable ≡ Some revision → revision.rev ≡ rev
    by None none = cc
    by (Some inheritable) some = cc

eligible_at-keeps : (has : RevisionsByPath (List ℕ)) (target : ℕ → Option (List (List ℕ)))
    → KeepsRevision (eligible_at bytes_eq has target) (λ rev. rev)
eligible_at-keeps has target here rev found = by (is_eligible bytes_eq has target here rev)
  where
    by : (b : Bool) → (if b then Some rev else None) ≡ Some found → found ≡ rev
    by true some = cc
    by false none = cc

module _ (dump : DumpValue) (at : PathRev) (is_in : IsPathIn dump at) where
  module _ (segments : List KeptSegment)
      (exact : map segment_view segments ≡ segments_of same_name (trees_to dump.records at.rev) at.path at.rev)
      (maximal : AreSegments (location_in dump.records at.path at.rev) (at.rev + 1) (map segment_view segments)) where
    all_maximal : AreSegments (location same_name (trees_by_number dump is_in.kept) at.path at.rev) (at.rev + 1) (map segment_view segments)
    all_maximal = subst (λ located. AreSegments located (at.rev + 1) (map segment_view segments)) (λ i k. location-index dump is_in.kept at.rev is_in.within at.path k i) maximal

    -- the operative revisions of the segments
    abbrev all_hits : List Hit
    all_hits =
        operative_of same_name (history_to dump.records at.rev) (trees_to dump.records at.rev) (map segment_view segments)

    all_hits-dump : all_hits
        ≡ operative_of same_name (history_view dump) (trees_by_number dump is_in.kept) (map segment_view segments)
    all_hits-dump =
        ap (operative_of same_name (history_to dump.records at.rev) (trees_to dump.records at.rev)) exact
        ∙ hits-index dump is_in.kept at.rev is_in.within at.path
        ∙ ap (operative_of same_name (history_view dump) (trees_by_number dump is_in.kept)) (sym (exact ∙ segments-index dump is_in.kept at.rev is_in.within at.path))

    module _ {X : Type 0} (find : List (List ℕ) → ℕ → Option X) where
      -- what is found at all of them
      found-found_by : reverse (filter_map (found_by_name dump.names segments find) all_hits)
          ≡ found_by dump at.path at.rev find
      found-found_by =
          let history = history_view dump in
          let trees = trees_by_number dump is_in.kept in
          ap (λ all. reverse (filter_map (found_by_name dump.names segments find) all)) all_hits-dump
          ∙ found-operative_of same_name history trees (location same_name trees at.path at.rev)
          (λ located. find (components_of dump.names located)) at.rev (map segment_view segments) all_maximal
          ∙ sym (found_in-rename (name dump is_in.kept) (text dump is_in.kept) same_name bytes_eq (alike dump is_in.kept)
          history trees at.path at.rev find)
          ∙ ap (λ all. found_in bytes_eq (history_in_bytes dump) all (components_of dump.names at.path) at.rev find)
          (sym (trees-renamed dump is_in.kept))

      -- what is found at those in a range is what is found in the range
      module _ (revision_of : X → ℕ) (keeps : KeepsRevision find revision_of)
          (range : Option (ℕ × ℕ)) (hits : List Hit)
          (hits_are : hits ≡ filter (λ hit. is_in_range range hit.rev) all_hits) where
        agree : (hit : Hit) (x : X) → found_by_name dump.names segments find hit ≡ Some x
            → is_in_range range (revision_of x) ≡ is_in_range range hit.rev
        agree hit x = by (option_and_then (λ segment. segment.path) (slice_get (map segment_view segments) hit.segment))
          where
            by : (located : Option (List NameId))
                → option_and_then (λ one. find (components_of dump.names one) hit.rev) located ≡ Some x
                → is_in_range range (revision_of x) ≡ is_in_range range hit.rev
            by None none = cc
            by (Some one) some = ap (is_in_range range) (keeps (components_of dump.names one) hit.rev x some)

        pub found-in_range : reverse (filter_map (found_by_name dump.names segments find) hits)
            ≡ filter (λ x. is_in_range range (revision_of x)) (found_by dump at.path at.rev find)
        found-in_range =
            let found = found_by_name dump.names segments find in
            let passes = λ (x : X). is_in_range range (revision_of x) in
            ap (λ some. reverse (filter_map found some)) hits_are
            ∙ ap reverse (sym (filter-filter_map found (λ hit. is_in_range range hit.rev) passes agree all_hits))
            ∙ sym (filter-reverse passes (filter_map found all_hits)) ∙ ap (filter passes) found-found_by

    module _ (range : Option (ℕ × ℕ)) (hits : List Hit)
        (hits_are : hits ≡ filter (λ hit. is_in_range range hit.rev) all_hits)
        (value : MergeInfoValue) (has : Hit → Option Bool)
        (has_is : (hit : Hit) → has hit ≡ option_and_then (λ located. value_has value (components_of dump.names located) hit.rev) (segment_path segments hit.segment)) where
      -- the merged revisions in the range
      pub merged_by_hits-in_range : merged_by_hits has hits
          ≡ merged_in_range (history_in_bytes dump) (trees_in_bytes dump) (peg_in_bytes dump at) range value
      merged_by_hits-in_range =
          (λ i. reverse (filter_map (λ hit. merged_by_hit-found dump.names value segments has has_is hit i) hits))
          ∙ found-in_range (merged_at (value_has value)) (λ revision. revision.rev) (merged_at-keeps (value_has value))
          range hits hits_are

      -- the eligible revisions in the range
      module _ (target : PathRev) (target_in : IsPathIn dump target) where
        location_alike : (located : List NameId) (number : ℕ) → same_location bytes_eq (location_by dump target number) (Some (components_of dump.names located))
            ≡ same_location same_name (location_in dump.records target.path target.rev number) (Some located)
        location_alike located number =
            ap (λ found. same_location bytes_eq found (Some (components_of dump.names located))) (location-in_bytes dump is_in.kept target.rev target_in.within target.path number)
            ∙ same_location-rename (name dump is_in.kept) same_name bytes_eq (alike dump is_in.kept) (location_in dump.records target.path target.rev number) (Some located)

        pub eligible_by_hits-in_range : eligible_by_hits has segments (location_in dump.records target.path target.rev) hits
            ≡ eligible_in_range (history_in_bytes dump) (trees_in_bytes dump) (peg_in_bytes dump at) (peg_in_bytes dump target) range value
        eligible_by_hits-in_range =
            let located = location_by dump target in
            (λ i. reverse (filter_map (λ hit. eligible_by_hit-found dump.names value segments has has_is (location_in dump.records target.path target.rev) (location_by dump target) location_alike hit i) hits))
            ∙ found-in_range (eligible_at bytes_eq (value_has value) located) (λ each. each)
            (eligible_at-keeps (value_has value) located) range hits hits_are

-- ---- a value without paths

filter_map-none : {A B : Type 0} (f : A → Option B) (xs : List A) → ((x : A) → f x ≡ None) → filter_map f xs ≡ []
filter_map-none f [] none = refl
filter_map-none f (x ∷ xs) none = rw (none x) (filter_map-none f xs none)

-- it has no revisions
pub merged_in_range-empty : (dump : DumpValue) (at : PathRev) (range : Option (ℕ × ℕ)) → merged_in_range (history_in_bytes dump) (trees_in_bytes dump) (peg_in_bytes dump at) range [] ≡ []
merged_in_range-empty dump at range =
    ap (filter (λ revision. is_in_range range revision.rev))
    (filter_map-none (λ each. option_and_then (λ located. merged_at (value_has []) located each) (operative_location bytes_eq (history_in_bytes dump) (trees_in_bytes dump) (components_of dump.names at.path) at.rev each))
    (range_with_len 0 (at.rev + 1))
    (λ each. by_location each (operative_location bytes_eq (history_in_bytes dump) (trees_in_bytes dump) (components_of dump.names at.path) at.rev each)))
  where
    by_location : (each : ℕ) (located : Option (List (List ℕ))) → option_and_then (λ one. merged_at (value_has []) one each) located ≡ None
    by_location each None = refl
    by_location each (Some located) = refl
