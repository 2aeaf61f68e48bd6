-- The walk back over the records, from one origin to the next.
use Rattle.path_index.proofs.Common.{◌≡◌, ◌≢◌, ℕ, suc, ◌+◌, ◌-◌, ◌<◌, ◌≤◌, nat_lt, if◌then◌else◌, List, [], ◌∷◌, ◌++◌, map, append_assoc, append-nil, ◌⊎◌, ⊎_elim, Option, None, Some, inl, inr, refl, sym, ap, subst, ◌∙◌, arith, cases_lt, lt-ltb, le-ltb, none-some, same_Some, same_name, NameId, IsSame-same_name, location, NodeRecord, location_here, location_later, OriginsFall-trees_of, history_to, trees_to, Segment, segments_up_to, IsThere, gap_between, segment_view, location_before, Origin}
use Rattle.path_index.specs.declared.segment.Segment.{Segment as KeptSegment}
use Rattle.path_index.proofs.SegmentsUpTo.{segments_up_to-next, segments_up_to-first}

-- a path of an earlier revision stood nowhere later
pub location_past : (records : List NodeRecord) (path : List NameId) (at wanted : ℕ) → at < wanted → location same_name (trees_to records at) path at wanted ≡ None
location_past records path at wanted past = location_later same_name (trees_to records at) (OriginsFall-trees_of same_name (history_to records at)) path at wanted past

-- and in its own revision where it stands
pub location_now : (records : List NodeRecord) (path : List NameId) (at : ℕ) → location same_name (trees_to records at) path at at ≡ Some path
location_now records path at = location_here same_name (trees_to records at) (OriginsFall-trees_of same_name (history_to records at)) path at

-- so the test before a step back changes nothing
pub location_tested : (records : List NodeRecord) (path : List NameId) (at wanted : ℕ)
    → (if nat_lt at wanted then None else location same_name (trees_to records at) path at wanted) ≡ location same_name (trees_to records at) path at wanted
location_tested records path at wanted = elim (cases_lt at wanted) [
  | inl past ↦ ap (λ b. if b then None else location same_name (trees_to records at) path at wanted) (lt-ltb at wanted past) ∙ sym (location_past records path at wanted past)
  | inr within ↦ ap (λ b. if b then None else location same_name (trees_to records at) path at wanted) (le-ltb at wanted within)
]

-- from this location in this revision the walk finds this
pub record IsTraced (wanted : ℕ) (found : Option (List NameId)) (records : List NodeRecord) (located : List NameId) (at : ℕ) : Type 0 where
  pub there : IsThere records located at
  pub finds : location same_name (trees_to records at) located at wanted ≡ found

-- without the test
pub location_before-Some : (records : List NodeRecord) (wanted : ℕ) (o : Option Origin) (origin : Origin) → o ≡ Some origin
    → location_before records wanted o ≡ location same_name (trees_to records origin.rev) origin.path origin.rev wanted
location_before-Some records wanted o origin is = ap (location_before records wanted) is ∙ location_tested records origin.path origin.rev wanted

-- ---- the segments of the locations

-- the segments above this location's are complete, and its own ends at `hi`; below, the locations are traced from here
pub record IsGathered (location_at : ℕ → Option (List NameId)) (peg : ℕ) (segments : List (Segment NameId)) (hi : ℕ) (records : List NodeRecord) (located : List NameId) (at : ℕ) : Type 0 where
  pub there : IsThere records located at
  pub traced : (rev : ℕ) → rev ≤ at → location_at rev ≡ location same_name (trees_to records at) located at rev
  pub same : (rev : ℕ) → at ≤ rev → rev ≤ hi → location_at rev ≡ Some located
  pub high : at ≤ hi
  pub gathered : segments ++ segments_up_to same_name location_at hi ≡ segments_up_to same_name location_at peg

-- at first, without a segment
pub IsGathered-none : (records : List NodeRecord) (path : List NameId) (peg : ℕ) → IsThere records path peg
    → IsGathered (λ rev. location same_name (trees_to records peg) path peg rev) peg [] peg records path peg
IsGathered-none records path peg there =
    let location_at = λ (rev : ℕ). location same_name (trees_to records peg) path peg rev in
    record {
      there = there;
      traced = λ rev within. refl;
      same = λ rev from to. (let here : rev ≡ peg = omega arith in ap location_at here) ∙ location_now records path peg;
      high = omega arith;
      gathered = refl;
    }

module _ (location_at : ℕ → Option (List NameId)) (peg : ℕ) (segments : List (Segment NameId)) (hi : ℕ) (records : List NodeRecord) (located : List NameId) (at : ℕ)
    (so_far : IsGathered location_at peg segments hi records located at) (lo : ℕ) (low : lo ≤ at)
    (stays : (rev : ℕ) → lo ≤ rev → rev ≤ at → location same_name (trees_to records at) located at rev ≡ Some located) where
  in_segment : (rev : ℕ) → lo ≤ rev → rev ≤ hi → location_at rev ≡ Some located
  in_segment rev from to = elim (cases_lt rev at) [
    | inl before ↦ so_far.traced rev (omega arith) ∙ stays rev from (omega arith)
    | inr after ↦ so_far.same rev after to
  ]

  -- where the path has no origin its segment is the oldest
  pub IsGathered-all : ((rev : ℕ) → rev < lo → location same_name (trees_to records at) located at rev ≡ None)
      → segments ++ record { lo = lo; hi = hi; path = Some located } ∷ [] ≡ segments_up_to same_name location_at peg
  IsGathered-all none =
      ap (λ more. segments ++ more)
      (sym (segments_up_to-first same_name IsSame-same_name location_at lo hi located (let high = so_far.high in omega arith) in_segment
      (λ rev past. so_far.traced rev (omega arith) ∙ none rev past)))
      ∙ so_far.gathered

  module _ (origin : Origin) (there : IsThere records origin.path origin.rev) (earlier : origin.rev < lo)
      (back : (rev : ℕ) → rev < lo → location same_name (trees_to records at) located at rev ≡ location_before records rev (Some origin)) where
    traced_on : (rev : ℕ) → rev ≤ origin.rev → location_at rev ≡ location same_name (trees_to records origin.rev) origin.path origin.rev rev
    traced_on rev within = so_far.traced rev (omega arith) ∙ back rev (omega arith) ∙ location_tested records origin.path origin.rev rev

    at_origin : location_at origin.rev ≡ Some origin.path
    at_origin = traced_on origin.rev (omega arith) ∙ location_now records origin.path origin.rev

    in_gap : (rev : ℕ) → origin.rev < rev → rev < lo → location_at rev ≡ None
    in_gap rev past within =
        so_far.traced rev (omega arith) ∙ back rev within ∙ location_tested records origin.path origin.rev rev ∙ location_past records origin.path origin.rev rev past

    -- where the path came from itself in the revision before, its segment continues
    pub IsGathered-on : origin.path ≡ located → lo ≤ origin.rev + 1 → IsGathered location_at peg segments hi records located origin.rev
    IsGathered-on same near =
        subst (λ p. IsGathered location_at peg segments hi records p origin.rev) same (record {
          there = there;
          traced = traced_on;
          same = λ rev from to. elim (cases_lt rev lo) [
            | inl under ↦ (let here : rev ≡ origin.rev = omega arith in ap location_at here) ∙ at_origin
            | inr over ↦ in_segment rev over to ∙ ap Some (sym same)
          ];
          high = let high = so_far.high in omega arith;
          gathered = so_far.gathered;
        })

    next : (more : List (Segment NameId)) → segments ++ (more ++ segments_up_to same_name location_at origin.rev) ≡ segments_up_to same_name location_at peg
        → IsGathered location_at peg (segments ++ more) origin.rev records origin.path origin.rev
    next more gathered = record {
      there = there;
      traced = traced_on;
      same = λ rev from to. (let here : rev ≡ origin.rev = omega arith in ap location_at here) ∙ at_origin;
      high = omega arith;
      gathered = append_assoc segments more (segments_up_to same_name location_at origin.rev) ∙ gathered;
    }

    -- where it came from another located its segment is complete
    pub IsGathered-next : origin.path ≢ located → lo ≤ origin.rev + 1
        → IsGathered location_at peg (segments ++ record { lo = lo; hi = hi; path = Some located } ∷ []) origin.rev records origin.path origin.rev
    IsGathered-next other near =
        let here : suc origin.rev ≡ lo = omega arith in
        next (record { lo = lo; hi = hi; path = Some located } ∷ [])
        (ap (λ more. segments ++ more)
        (sym (segments_up_to-next same_name IsSame-same_name location_at origin.rev hi (Some located) (let high = so_far.high in omega arith)
        (λ rev past to. in_segment rev (omega arith) to) (λ e. let is : Some located ≡ Some origin.path = e ∙ at_origin in other (sym (same_Some located origin.path is)))
        ∙ ap (λ n. record { lo = n; hi = hi; path = Some located } ∷ segments_up_to same_name location_at origin.rev) here))
        ∙ so_far.gathered)

    -- and so is the gap below it
    pub IsGathered-gap : origin.rev + 1 < lo
        → IsGathered location_at peg (segments ++ record { lo = lo; hi = hi; path = Some located } ∷ record { lo = origin.rev + 1; hi = lo - 1; path = None } ∷ []) origin.rev records origin.path origin.rev
    IsGathered-gap far =
        let below : suc (lo - 1) ≡ lo = omega arith in
        let first : suc origin.rev ≡ origin.rev + 1 = omega arith in
        let none = in_gap (lo - 1) (omega arith) (omega arith) in
        let old = segments_up_to same_name location_at origin.rev in
        let gap = segments_up_to-next same_name IsSame-same_name location_at origin.rev (lo - 1) None (omega arith) (λ rev past to. in_gap rev past (omega arith))
        (λ e. let never : None ≡ Some origin.path = e ∙ at_origin in absurd (none-some origin.path never)) in
        let segment = segments_up_to-next same_name IsSame-same_name location_at (lo - 1) hi (Some located) (let high = so_far.high in omega arith)
        (λ rev past to. in_segment rev (omega arith) to) (λ e. none-some located (sym (e ∙ none))) in
        next (record { lo = lo; hi = hi; path = Some located } ∷ record { lo = origin.rev + 1; hi = lo - 1; path = None } ∷ [])
        (ap (λ more. segments ++ more)
        (sym (segment ∙ (λ i. record { lo = below i; hi = hi; path = Some located } ∷ gap i) ∙ ap (λ n. record { lo = lo; hi = hi; path = Some located } ∷ record { lo = n; hi = lo - 1; path = None } ∷ old) first))
        ∙ so_far.gathered)

    -- both, as they are appended
    pub IsGathered_push : (origin.path ≢ located) ⊎ (origin.rev + 1 < lo)
        → IsGathered location_at peg ((segments ++ record { lo = lo; hi = hi; path = Some located } ∷ [])
        ++ map segment_view (gap_between origin.rev lo)) origin.rev records origin.path origin.rev
    IsGathered_push ends =
        let segment : Segment NameId = record { lo = lo; hi = hi; path = Some located } in
        let gap : KeptSegment = record { lo = origin.rev + 1; hi = lo - 1; path = None } in
        elim (cases_lt (origin.rev + 1) lo) [
          | inl far ↦
              rw (lt-ltb (origin.rev + 1) lo far, append_assoc segments (segment ∷ []) (segment_view gap ∷ [])) (IsGathered-gap far)
          | inr near ↦
              rw (le-ltb (origin.rev + 1) lo near, append-nil (segments ++ segment ∷ []))
              (IsGathered-next (⊎_elim (λ other. other) (λ far. absurd (omega arith)) ends) near)
        ]
