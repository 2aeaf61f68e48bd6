-- The operative revisions of a path's segments, by the records that name the path.
use Rattle.path_index.proofs.Common.{◌≡◌, ℕ, zero, suc, ◌+◌, ◌-◌, ◌<◌, ◌≤◌, nat_lt, Bool, true, false, not, ◌&&◌, ◌||◌, List, [], ◌∷◌, ◌++◌, Option, None, Some, map, filter, refl, sym, ap, ◌∙◌, arith, false_from_ne_true, lt-ltb, or_right, filter-append, same_name, NameId, IsSame, IsSame-same_name, History, origin_of, location, Tree, is_there, tree_of, NodeRecord, ValueId, location_is_there, location_through, OriginsFall, OriginsAreThere, OriginsFall-trees_of, OriginsAreThere-trees_of, history_to, records_of, trees_to, names_below, came_from_itself, records_in, is_operative, down_from, operative_in, operative_from, operative_of, hit_at, Hit, AreSegments, IsSegment, Segment, segments_of, IsThere, first_revision, is_named_in, named_revisions}
use Rattle.std.proofs.Math.Bool.{or-false}
use Rattle.path_index.proofs.HistoryTo.{records_in-history_to}
use Rattle.path_index.proofs.CameFromItself.{came-from_location, location-from_came}
use Rattle.path_index.proofs.Segments.{AreSegments-segments_of}
use Rattle.path_index.proofs.DownFrom.{down_from_more, filter_down-same}

there_by_origin : (later there named came : Bool) → later ≡ true → there ≡ true → came ≡ false → (later && there && (named || not came)) ≡ true
there_by_origin later there named came a b c = (λ i. a i && b i && (named || not (c i))) ∙ or_right named true refl

there_by_record : (later there named came : Bool) → later ≡ true → there ≡ true → came ≡ true → (later && there && (named || not came)) ≡ named
there_by_record later there named came a b c = (λ i. a i && b i && (named || not (c i))) ∙ or-false named

module _ {C M : Type 0} (same : C → C → Bool) (is : IsSame same) (history : History C M) (trees : List (Tree C M))
    (fall : OriginsFall same trees) (origins : OriginsAreThere same trees)
    (path : List C) (rev : ℕ) (there : is_there same (tree_of trees rev) path ≡ true) where
  abbrev located : ℕ → Option (List C)
  located k = location same trees path rev k

  module _ (segment : Segment C) (q : List C) (so : IsSegment located segment) (at : segment.path ≡ Some q) where
    stood : (k : ℕ) → segment.lo ≤ k → k ≤ segment.hi → located k ≡ Some q
    stood k from to = so.stays k from to ∙ at

    there_in : (k : ℕ) → segment.lo ≤ k → k ≤ segment.hi → is_there same (tree_of trees k) q ≡ true
    there_in k from to = location_is_there same trees origins path q rev k there (stood k from to)

    -- revision 0 is not an operative one
    operative_zero : is_operative same history trees q 0 ≡ false
    unfolding is_operative
    operative_zero = refl

    -- another revision with which a segment begins is
    operative_first : (k : ℕ) → segment.lo ≡ suc k → is_operative same history trees q (suc k) ≡ true
    unfolding is_operative
    operative_first k begins =
        let here = stood (suc k) (omega arith) (omega (arith, so.ordered)) in
        let origin = origin_of same trees q (suc k) in
        let other : came_from_itself same q (suc k) origin ≡ false = false_from_ne_true _ (λ came.
        so.starts k begins
        (location_through same trees fall path q rev (suc k) k (omega arith) here ∙ location-from_came same trees fall is q k came ∙ sym at)) in
        there_by_origin (nat_lt 0 (suc k)) (is_there same (tree_of trees (suc k)) q) (names_below same q (records_in history (suc k)))
        (came_from_itself same q (suc k) origin) (lt-ltb 0 (suc k) (omega arith)) (there_in (suc k) (omega arith) (omega (arith, so.ordered))) other

    -- a later one where a record names the path or a path below it
    operative_later : (k : ℕ) → segment.lo ≤ k → suc k ≤ segment.hi → is_operative same history trees q (suc k) ≡ names_below same q (records_in history (suc k))
    unfolding is_operative
    operative_later k from to =
        let here = stood (suc k) (omega arith) to in
        let before : location same trees q (suc k) k ≡ Some q =
        sym (location_through same trees fall path q rev (suc k) k (omega arith) here) ∙ stood k from (omega arith) in
        let came = came-from_location same trees fall is q k before in
        there_by_record (nat_lt 0 (suc k)) (is_there same (tree_of trees (suc k)) q) (names_below same q (records_in history (suc k)))
        (came_from_itself same q (suc k) (origin_of same trees q (suc k))) (lt-ltb 0 (suc k) (omega arith)) (there_in (suc k) (omega arith) to) came

    operative_lo : (lo : ℕ) → segment.lo ≡ lo → filter (is_operative same history trees q) (lo ∷ []) ≡ first_revision lo
    operative_lo zero begins = rw operative_zero refl
    operative_lo (suc k) begins = rw (operative_first k begins, lt-ltb 0 (suc k) (omega arith)) refl

    operative_after : (p : ℕ → Bool) → ((k : ℕ) → k ≤ segment.hi → p k ≡ names_below same q (records_in history k)) → (k : ℕ) → k ≤ segment.hi → segment.lo < k
        → is_operative same history trees q k ≡ p k
    operative_after p named zero to from = absurd (omega arith)
    operative_after p named (suc k) to from = operative_later k (omega arith) to ∙ sym (named (suc k) to)

    -- so those of the segment are these
    pub operative_in-segment : (p : ℕ → Bool) → ((k : ℕ) → k ≤ segment.hi → p k ≡ names_below same q (records_in history k))
        → operative_in same history trees segment (Some q) ≡ filter p (down_from (segment.hi - segment.lo) segment.hi) ++ first_revision segment.lo
    operative_in-segment p named =
        let test = is_operative same history trees q in
        let n = segment.hi - segment.lo in
        let one_more : segment.hi + 1 - segment.lo ≡ suc n = omega (arith, so.ordered) in
        let last : segment.hi - n ≡ segment.lo = omega (arith, so.ordered) in
        ap (λ count. filter test (down_from count segment.hi)) one_more
        ∙ ap (filter test) (down_from_more n segment.hi)
        ∙ filter-append test (down_from n segment.hi) ((segment.hi - n) ∷ [])
        ∙ ap (λ lo. filter test (down_from n segment.hi) ++ filter test (lo ∷ [])) last
        ∙ ap (λ revs. filter test (down_from n segment.hi) ++ revs) (operative_lo segment.lo refl)
        ∙ ap (λ revs. revs ++ first_revision segment.lo)
        (filter_down-same test p n segment.hi (omega arith) (λ k up within. operative_after p named k up (omega arith)))

-- ---- segment by segment

-- the revisions, as hits of a segment
abbrev pub hits_at : ℕ → List ℕ → List Hit
hits_at index revs = map (hit_at index) revs

-- the hits in a segment, given its path
abbrev pub hits_in : ℕ → List NodeRecord → Segment NameId → Option (List NameId) → List Hit
hits_in located records segment None = []
hits_in located records segment (Some path) = hits_at located (named_revisions path segment.lo segment.hi records ++ first_revision segment.lo)

-- the hits in the segments
abbrev pub hits_from : ℕ → List NodeRecord → List (Segment NameId) → List Hit
hits_from located records [] = []
hits_from located records (segment ∷ segments) = hits_in located records segment segment.path ++ hits_from (located + 1) records segments

module _ (is : IsSame same_name) (history : History NameId ValueId) (trees : List (Tree NameId ValueId))
    (fall : OriginsFall same_name trees) (origins : OriginsAreThere same_name trees)
    (path : List NameId) (rev : ℕ) (there : is_there same_name (tree_of trees rev) path ≡ true) (records : List NodeRecord)
    (are : (k : ℕ) → k ≤ rev → records_in history k ≡ records_of records k) where
  in_segment : (located : ℕ) (segment : Segment NameId) → IsSegment (λ k. location same_name trees path rev k) segment → segment.hi ≤ rev → (o : Option (List NameId)) → segment.path ≡ o
      → hits_in located records segment o ≡ map (hit_at located) (operative_in same_name history trees segment o)
  in_segment located segment so up None at = refl
  in_segment located segment so up (Some q) at =
      ap (hits_at located) (sym (operative_in-segment same_name is history trees fall origins path rev there segment q so at (is_named_in q records)
      (λ k to. ap (names_below same_name q) (sym (are k (omega arith))))))

  from_segments : (located bound : ℕ) (segments : List (Segment NameId)) → AreSegments (λ k. location same_name trees path rev k) bound segments
      → bound ≤ rev + 1 → hits_from located records segments ≡ operative_from same_name history trees located segments
  unfolding operative_from
  from_segments located bound [] all few = refl
  from_segments located bound (segment ∷ segments) all few =
      let here = in_segment located segment all.1 (omega (arith, all.0)) segment.path refl in
      let onward = from_segments (located + 1) segment.lo segments all.2 (omega (arith, all.0, all.1.ordered)) in
      λ i. here i ++ onward i

-- ---- at the trees of a list of records

-- the hits in a path's segments are the operative revisions
pub hits_from-operative_of : (records : List NodeRecord) (path : List NameId) (rev : ℕ) → IsThere records path rev → (segments : List (Segment NameId))
    → segments ≡ segments_of same_name (trees_to records rev) path rev
    → hits_from 0 records segments ≡ operative_of same_name (history_to records rev) (trees_to records rev) segments
hits_from-operative_of records path rev there segments so =
    let history = history_to records rev in
    let trees = trees_to records rev in
    from_segments IsSame-same_name history trees (OriginsFall-trees_of same_name history) (OriginsAreThere-trees_of same_name IsSame-same_name history) path rev there records
    (records_in-history_to records rev) 0 (rev + 1) segments
    (AreSegments-segments_of records path rev segments so)
    (omega arith)
