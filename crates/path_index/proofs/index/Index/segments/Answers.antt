use Rattle.path_index.proofs.Common.{◌≡◌, ◌≢◌, ℕ, ◌+◌, ◌<◌, ◌≤◌, List, Some, IfSome, [], ◌∷◌, ◌++◌, ◌⊎◌, inl, inr, map, refl, sym, ap, subst, ◌∙◌, arith, true≢false, Bool, true, false, not, map-append, location, same_name, NameId, trees_to, Segment, segments_of, IsThere, gap_between, segment_view, Origin, NodeRecord, IsSpan, location_before}
use Rattle.std.specs.Cmp.Lexicographic.{pointwise}
use Rattle.svn_path.proofs.Orders.{paths_eq-Decides}
use Rattle.path_index.proofs.Segments.{AreSegments-segments_of}
use Rattle.path_index.proofs.Traces.{IsGathered, IsGathered-none, IsGathered-all, IsGathered-on, IsGathered_push}
use Rattle.path_index.specs.declared.span.Span.{Span}
use Rattle.path_index.proofs.index.Index.segments.Goals as goal
use Rattle.path_index.proofs.index.Index.segments.Goals.{then-ne-via-then-ne, then-ne-via-else-ne+then-at-lo}

-- what `!=` says of two paths
other_by_ne : (p q : List NameId) → true ≡ not (pointwise same_name p q) → p ≢ q
other_by_ne p q e is = true≢false (e ∙ ap not ((paths_eq-Decides p q).1 is))

same_by_ne : (p q : List NameId) → false ≡ not (pointwise same_name p q) → p ≡ q
same_by_ne p q e = (paths_eq-Decides p q).0 (by (pointwise same_name p q) e)
  where
    by : (b : Bool) → false ≡ not b → b ≡ true
    by true e = refl
    by false e = absurd (true≢false (sym e))

-- where the path came from itself in the revision before, the walk goes on
goes_on : (all : List NodeRecord) (path : List NameId) (peg : ℕ) (segments : List (Segment NameId)) (hi : ℕ) (here : List NameId) (at : ℕ)
    → IsGathered (λ rev. location same_name (trees_to all peg) path peg rev) peg segments hi all here at
    → (span : Span) → IsSpan all here at span → (origin : Origin) → span.origin ≡ Some origin
    → false ≡ not (pointwise same_name origin.path here) → span.lo ≤ origin.rev + 1
    → IsGathered (λ rev. location same_name (trees_to all peg) path peg rev) peg segments hi all here origin.rev
goes_on all path peg segments hi here at gathered span is origin from same near =
    let location_at = λ (rev : ℕ). location same_name (trees_to all peg) path peg rev in
    let there = subst (λ o. IfSome o (λ (o : Origin). IsThere all o.path o.rev)) from is.there in
    let earlier = subst (λ o. IfSome o (λ (o : Origin). o.rev < span.lo)) from is.earlier in
    IsGathered-on location_at peg segments hi all here at gathered span.lo is.within is.stays origin there earlier
    (λ rev past. is.back rev past ∙ ap (location_before all rev) from) (same_by_ne origin.path here same) near

pub loop-here-init : goal.loop-here-init
loop-here-init c =
    let all = c.args.self.now.records in
    let location_at = λ (rev : ℕ). location same_name (trees_to all c.args.rev) c.args.path.now c.args.rev rev in
    subst (λ items. IsGathered location_at c.args.rev (map segment_view items) c.args.rev all c.in_ok-here.here c.args.rev) (sym c.new-segments.ensures.items)
    (subst (λ here. IsGathered location_at c.args.rev [] c.args.rev all here c.args.rev) (sym c.in_ok-here.ensures)
    (IsGathered-none all c.args.path.now c.args.rev c.requires.there))

pub span_up_to-requires-clause-there : goal.span_up_to-requires-clause-there
span_up_to-requires-clause-there c = c.loop-here.invariant.there

all_gathered : (c : goal.In_ok-push) → map segment_view c.push.new.self.items ≡ segments_of same_name (trees_to c.args.self.now.records c.args.rev) c.args.path.now c.args.rev
all_gathered c =
    let all = c.args.self.now.records in
    let location_at = λ (rev : ℕ). location same_name (trees_to all c.args.rev) c.args.path.now c.args.rev rev in
    let lo = c.in_ok-lo.field-0.lo in
    ap (map segment_view) c.in_ok-push.ensures.items
    ∙ map-append segment_view c.loop-here.segments.items (record { lo = lo; hi = c.loop-here.hi; path = Some c.loop-here.here } ∷ [])
    ∙ IsGathered-all location_at c.args.rev (map segment_view c.loop-here.segments.items) c.loop-here.hi c.args.self.now.records c.loop-here.here c.loop-here.at
    c.loop-here.invariant lo c.in_ok-lo.ensures.within c.in_ok-lo.ensures.stays
    (λ rev past. c.in_ok-lo.ensures.back rev past ∙ ap (location_before c.args.self.now.records rev) c.in_default.is)

pub returns-in_default-clause-exact : goal.returns-in_default-clause-exact
returns-in_default-clause-exact c = all_gathered c

pub returns-in_default-clause-maximal : goal.returns-in_default-clause-maximal
returns-in_default-clause-maximal c = AreSegments-segments_of c.args.self.now.records c.args.path.now c.args.rev (map segment_view c.push.new.self.items) (all_gathered c)

pub loop-here-smaller-in-loop-here : goal.loop-here-smaller-in-loop-here
loop-here-smaller-in-loop-here c =
    let earlier = subst (λ o. IfSome o (λ (origin : Origin). origin.rev < c.in_ok-lo.field-0.lo)) c.in-Some.is c.in_ok-lo.ensures.earlier in
    omega (arith, earlier, c.in_ok-lo.ensures.within)

pub loop-here-preserved-in-loop-here : goal.loop-here-preserved-in-loop-here
loop-here-preserved-in-loop-here c =
    let all = c.args.self.now.records in
    let location_at = λ (rev : ℕ). location same_name (trees_to all c.args.rev) c.args.path.now c.args.rev rev in
    let lo = c.in_ok-lo.field-0.lo in
    let origin = c.in-Some.origin in
    let there = subst (λ o. IfSome o (λ (o : Origin). IsThere all o.path o.rev)) c.in-Some.is c.in_ok-lo.ensures.there in
    let earlier = subst (λ o. IfSome o (λ (o : Origin). o.rev < lo)) c.in-Some.is c.in_ok-lo.ensures.earlier in
    let ends : (origin.path ≢ c.loop-here.here) ⊎ (origin.rev + 1 < lo) = elim c.then-ne.branch [
      | then-ne-via-then-ne w ↦ inl (other_by_ne origin.path c.loop-here.here w.if-ne.ensures)
      | then-ne-via-else-ne+then-at-lo w ↦ inr w.if-at-lo.true
    ] in
    let pushed = ap (map segment_view) c.in_ok-push-2.ensures.items
    ∙ map-append segment_view c.loop-here.segments.items (record { lo = lo; hi = c.loop-here.hi; path = Some c.loop-here.here } ∷ []) in
    let gap = gap_between origin.rev lo in
    subst (λ segments. IsGathered location_at c.args.rev segments origin.rev all origin.path origin.rev) (sym (ap (map segment_view) c.in_ok-push_gap.ensures ∙ map-append segment_view c.push-then-ne.new.self.items gap ∙ ap (λ front. front ++ map segment_view gap) pushed))
    (IsGathered_push location_at c.args.rev (map segment_view c.loop-here.segments.items) c.loop-here.hi c.args.self.now.records c.loop-here.here c.loop-here.at
    c.loop-here.invariant lo c.in_ok-lo.ensures.within c.in_ok-lo.ensures.stays origin there earlier
    (λ rev past. c.in_ok-lo.ensures.back rev past ∙ ap (location_before all rev) c.in-Some.is) ends)

pub loop-here-smaller : goal.loop-here-smaller
loop-here-smaller c =
    let earlier = subst (λ o. IfSome o (λ (origin : Origin). origin.rev < c.in_ok-lo.field-0.lo)) c.in-Some.is c.in_ok-lo.ensures.earlier in
    omega (arith, earlier, c.in_ok-lo.ensures.within)

pub loop-here-preserved : goal.loop-here-preserved
loop-here-preserved c =
    goes_on c.args.self.now.records c.args.path.now c.args.rev (map segment_view c.loop-here.segments.items) c.loop-here.hi c.loop-here.here c.loop-here.at
    c.loop-here.invariant c.in_ok-lo.field-0 c.in_ok-lo.ensures c.in-Some.origin c.in-Some.is c.if-ne.ensures c.if-at-lo.false

pub loop-here-preserved-else-at-lo : goal.loop-here-preserved-else-at-lo
loop-here-preserved-else-at-lo c =
    goes_on c.args.self.now.records c.args.path.now c.args.rev (map segment_view c.loop-here.segments.items) c.loop-here.hi c.loop-here.here c.loop-here.at
    c.loop-here.invariant c.in_ok-lo.field-0 c.in_ok-lo.ensures c.in-Some.origin c.in-Some.is c.if-ne.ensures c.if-at-lo.false
