-- Where the path of a dump stood, and its operative revisions, by numbers and by bytes.
use Rattle.query_answer.proofs.Common.{◌≡◌, ℕ, zero, suc, ◌++◌, ◌-◌, ◌<◌, ◌≤◌, List, [], ◌∷◌, Option, Some, None, All, IfSome, filter, option_map, length, map, bytes_eq, refl, sym, ap, subst, ◌∙◌, arith, inl, inr, codes, decimal, filter_map, option_and_then, reverse, slice_get, reverse-reverse, All-cons, All-filter, All-head, All-nil, All-tail, All-weaker, cases_lt, none-some, history_to, trees_to, AreMaximal, segment_view, operative_of, is_in_range, rename_segment, segments_of, Hit, name_of, same_name, components_of, NameId, DumpValue, IsDump, history_in_bytes, history_view, location, HasPathOf, IsLocationOf, hit_line, location_line, log_line, log_lines, segment_in_bytes, segments_in_bytes, index_of_dump, peg_in_bytes, PathRev, IsPathIn, trees_in_bytes, IsSame-same_name, down_from}
use Rattle.path_index.specs.NamedRevisions.{is_named_in, named_revisions}
use Rattle.path_index.specs.Operative.{names_below, records_in}
use Rattle.path_index.specs.declared.segment.Segment.{Segment as KeptSegment}
use Rattle.path_index.proofs.Histories.{records_of-history_view}
use Rattle.path_index.proofs.Renaming.{names_below-rename, records_in-rename}
use Rattle.svn_dump.proofs.Locations.{location_is_there, location_later}
use Rattle.svn_dump.proofs.Origins.{OriginsAreThere-trees_of, OriginsFall-trees_of}
use Rattle.query_answer.specs.Answer.{operative_locations}
use Rattle.query_answer.specs.LocationsInBytes.{all_operative_in_bytes, is_named_in_bytes, location_of_path, named_in_bytes, segments_of_path}
use Rattle.query_answer.proofs.InBytes.{IsThere-there, alike, is_there-index, location-in_bytes, location-index, location-of_names, name, segments-in_bytes, segments-of_names, text, trees_by_number}
use Rattle.query_answer.proofs.OperativeLocations.{HasLocation, operative_of-located}
use Rattle.query_answer.proofs.RangeFilters.{filter-reverse, map-filter, map-filter_map}
use Rattle.query_answer.proofs.SourceRevisions.{KeepsRevision, found-in_range, found_by, found_by_name}

-- what holds of each segment holds of the kept one
pub All-kept : (names : List (List ℕ)) (some : List KeptSegment) → All (λ segment. IsLocationOf names segment.path) (map segment_view some) → All (HasPathOf names) some
All-kept names [] each = All-nil (HasPathOf names)
All-kept names (segment ∷ some) each =
    All-cons (HasPathOf names) segment some (All-head (λ one. IsLocationOf names one.path) (segment_view segment) (map segment_view some) each)
    (All-kept names some (All-tail (λ one. IsLocationOf names one.path) (segment_view segment) (map segment_view some) each))

segments_in_bytes-view : (names : List (List ℕ)) (some : List KeptSegment) → segments_in_bytes names some ≡ map (rename_segment (λ id. name_of names id.0)) (map segment_view some)
segments_in_bytes-view names [] = refl
segments_in_bytes-view names (segment ∷ some) = ap (λ more. segment_in_bytes names segment ∷ more) (segments_in_bytes-view names some)

-- the path of a segment in bytes
pub path_at-in_bytes : (names : List (List ℕ)) (kept : List KeptSegment) (n : ℕ)
    → option_and_then (λ segment. segment.path) (slice_get (segments_in_bytes names kept) n) ≡ option_map (components_of names) (option_and_then (λ segment. segment.path) (slice_get kept n))
path_at-in_bytes names [] n = refl
path_at-in_bytes names (segment ∷ kept) zero = refl
path_at-in_bytes names (segment ∷ kept) (suc n) = path_at-in_bytes names kept n

-- what `log` finds in an operative revision, and its line
abbrev found_here : List (List ℕ) → ℕ → Option (List (List ℕ) × ℕ)
found_here here rev = Some (here, rev)

abbrev found_line : List (List ℕ) × ℕ → List ℕ
found_line each = log_line each.0 each.1

found_here-keeps : KeepsRevision found_here (λ each. each.1)
found_here-keeps here rev each some = cc

-- the line is that of the revision's location
hit_line-found : (names : List (List ℕ)) (kept : List KeptSegment) (hit : Hit) (path : List NameId)
    → option_and_then (λ segment. segment.path) (slice_get (map segment_view kept) hit.segment) ≡ Some path
    → option_map found_line (found_by_name names kept found_here hit)
    ≡ Some (hit_line (segments_in_bytes names kept) hit)
hit_line-found names kept hit path at =
    let same = sym (path_at-view kept hit.segment) ∙ at in
    rw at
    (ap (λ located. Some (codes "r" ++ decimal hit.rev ++ codes " " ++ location_line located))
    (sym (path_at-in_bytes names kept hit.segment ∙ ap (option_map (components_of names)) same)))
  where
    path_at-view : (some : List KeptSegment) (n : ℕ)
        → option_and_then (λ segment. segment.path) (slice_get (map segment_view some) n) ≡ option_and_then (λ segment. segment.path) (slice_get some n)
    path_at-view [] n = refl
    path_at-view (segment ∷ some) zero = refl
    path_at-view (segment ∷ some) (suc n) = path_at-view some n

-- the revision is the hit's
hit_rev-found : (names : List (List ℕ)) (kept : List KeptSegment) (hit : Hit) (path : List NameId)
    → option_and_then (λ segment. segment.path) (slice_get (map segment_view kept) hit.segment) ≡ Some path
    → option_map (λ each. each.1) (found_by_name names kept found_here hit) ≡ Some hit.rev
hit_rev-found names kept hit path at = rw at refl

module _ (dump : DumpValue) (at : PathRev) (is_in : IsPathIn dump at) where
  -- ---- where it stood

  module _ (rev : ℕ) (located : Option (List NameId)) (is : located ≡ location same_name (trees_to dump.records at.rev) at.path at.rev rev) where
    pub located_names : IsLocationOf dump.names located
    located_names = subst (IsLocationOf dump.names) (sym is) (location-of_names dump is_in.kept at.rev is_in.within at.path rev is_in.of_names)

    pub located_in_bytes : option_map (components_of dump.names) located ≡ location_of_path dump at rev
    located_in_bytes =
        ap (option_map (components_of dump.names)) is ∙ sym (location-in_bytes dump is_in.kept at.rev is_in.within at.path rev)

  -- it was there in the revision
  pub located_there : (rev : ℕ) (located : Option (List NameId)) → located ≡ location same_name (trees_to dump.records at.rev) at.path at.rev rev
      → IfSome located (λ path. IsPathIn dump (record { path = path; rev = rev }))
  located_there rev None is = tt
  located_there rev (Some path) is =
      let history = history_view dump in
      let trees = trees_by_number dump is_in.kept in
      let stood : location same_name trees at.path at.rev rev ≡ Some path =
      sym (is ∙ location-index dump is_in.kept at.rev is_in.within at.path rev) in
      let before : rev ≤ at.rev = elim (cases_lt at.rev rev) [
        | inl later ↦ absurd (none-some path (sym (location_later same_name trees (OriginsFall-trees_of same_name history) at.path at.rev rev later) ∙ stood))
        | inr before ↦ before
      ] in
      let within : rev < length dump.counts = omega (arith, before, is_in.within) in
      record {
        kept = is_in.kept;
        of_names = located_names rev (Some path) is;
        within = within;
        there = IsThere-there dump is_in.kept path rev within
            (location_is_there same_name trees (OriginsAreThere-trees_of same_name IsSame-same_name history) at.path path at.rev rev
            (sym (is_there-index dump is_in.kept at.rev is_in.within at.path) ∙ is_in.there) stood);
      }

  -- ---- its segments

  module _ (kept_segments : List KeptSegment) (is : map segment_view kept_segments ≡ segments_of same_name (trees_to dump.records at.rev) at.path at.rev) where
    pub kept_names : All (HasPathOf dump.names) kept_segments
    kept_names = All-kept dump.names kept_segments (subst (All (λ segment. IsLocationOf dump.names segment.path)) (sym is) (segments-of_names dump is_in.kept at.rev is_in.within at.path is_in.of_names))

    pub kept_in_bytes : segments_in_bytes dump.names kept_segments ≡ segments_of_path dump at
    kept_in_bytes =
        segments_in_bytes-view dump.names kept_segments ∙ ap (map (rename_segment (λ id. name_of dump.names id.0))) is
        ∙ sym (segments-in_bytes dump is_in.kept at.rev is_in.within at.path)

    -- ---- its operative revisions in a range

    module _ (maximal : AreMaximal (index_of_dump dump) at.path at.rev kept_segments)
        (range : Option (ℕ × ℕ)) (hits : List Hit)
        (hits_are : hits ≡ filter (λ hit. is_in_range range hit.rev)
        (operative_of same_name (history_to dump.records at.rev) (trees_to dump.records at.rev)
        (map segment_view kept_segments))) where
      -- the segments of these have paths
      hits_located : All (HasLocation (map segment_view kept_segments)) hits
      hits_located =
          let segments = map segment_view kept_segments in
          let history = history_to dump.records at.rev in
          let trees = trees_to dump.records at.rev in
          rw hits_are
          (All-filter (λ hit. is_in_range range hit.rev) (HasLocation segments)
          (operative_of same_name history trees segments) (operative_of-located segments same_name history trees))

      abbrev located_operative : List (List (List ℕ) × ℕ)
      located_operative =
          filter (λ each. is_in_range range each.1) (operative_locations (history_in_bytes dump) (trees_in_bytes dump) (peg_in_bytes dump at))

      -- what is found at them is where the path was in each of them
      hits-located_operative : filter_map (found_by_name dump.names kept_segments found_here) hits ≡ located_operative
      hits-located_operative =
          sym (reverse-reverse (filter_map (found_by_name dump.names kept_segments found_here) hits))
          ∙ ap reverse
          (found-in_range dump at is_in kept_segments is maximal found_here (λ each. each.1) found_here-keeps range hits hits_are)
          ∙ sym (filter-reverse (λ each. is_in_range range each.1) (found_by dump at.path at.rev found_here))

      -- so what is written of them are these lines
      pub hit_lines-log : map (hit_line (segments_in_bytes dump.names kept_segments)) hits
          ≡ log_lines (history_in_bytes dump) (trees_in_bytes dump) (peg_in_bytes dump at) range
      hit_lines-log =
          let find = found_by_name dump.names kept_segments found_here in
          let line = hit_line (segments_in_bytes dump.names kept_segments) in
          sym (map-filter_map find found_line line hits
          (All-weaker (HasLocation (map segment_view kept_segments))
          (λ hit. option_map found_line (find hit) ≡ Some (line hit))
          (λ hit there. hit_line-found dump.names kept_segments hit there.0 there.1) hits hits_located))
          ∙ ap (map found_line) hits-located_operative

      -- and their revisions are these
      pub hit_revs-operative : map (λ (hit : Hit). hit.rev) hits ≡ filter (is_in_range range) (all_operative_in_bytes dump at)
      hit_revs-operative =
          let find = found_by_name dump.names kept_segments found_here in
          let revision_of = λ (each : List (List ℕ) × ℕ). each.1 in
          sym (map-filter_map find revision_of (λ (hit : Hit). hit.rev) hits
          (All-weaker (HasLocation (map segment_view kept_segments))
          (λ hit. option_map revision_of (find hit) ≡ Some hit.rev)
          (λ hit there. hit_rev-found dump.names kept_segments hit there.0 there.1) hits hits_located))
          ∙ ap (map revision_of) hits-located_operative
          ∙ map-filter revision_of (is_in_range range) (operative_locations (history_in_bytes dump) (trees_in_bytes dump) (peg_in_bytes dump at))

-- ---- the revisions whose records name a path

module _ (dump : DumpValue) (kept : IsDump dump) (path : List NameId) where
  -- a record names it in bytes where one names it by numbers
  named-in_bytes : (rev : ℕ) → is_named_in path dump.records rev ≡ is_named_in_bytes dump path rev
  named-in_bytes rev =
      ap (names_below same_name path) (records_of-history_view dump kept.revisions rev)
      ∙ sym (names_below-rename (name dump kept) same_name bytes_eq (alike dump kept) (text dump kept) path (records_in (history_view dump) rev))
      ∙ ap (names_below bytes_eq (components_of dump.names path)) (sym (records_in-rename (name dump kept) (text dump kept) (history_view dump) rev))

  pub named_revisions-in_bytes : (above up_to : ℕ) → named_revisions path above up_to dump.records ≡ named_in_bytes dump path above up_to
  named_revisions-in_bytes above up_to = λ i. filter (λ rev. named-in_bytes rev i) (down_from (up_to - above) up_to)
