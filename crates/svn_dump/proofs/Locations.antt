-- A location, one step back at a time.
use Rattle.svn_dump.proofs.Common.{◌≡◌, ℕ, zero, suc, ◌<◌, ◌≤◌, Bool, true, false, if◌then◌else◌, List, inl, inr, refl, sym, ap, ◌∙◌, arith, cases_lt, cases_order, eqb-true, ne_eqb, le-ltb, none-some, same_Some, option_and_then_some, origin_of, location_within, location, Tree, entry_at, is_there, tree_of}
use Rattle.std.proofs.Common.{◌==◌, nat_lt, Option, None, Some, option_and_then}
use Rattle.std.proofs.lemmas.Bool.{eq-eqb, lt-ltb, ltb-false}
use Rattle.svn_dump.proofs.Origins.{OriginsFall, OriginsAreThere}

-- what a step back to an origin finds, given what is found from there
abbrev pub step_back : {C : Type 0} → (List C → ℕ → Option (List C)) → ℕ → Option (List C × ℕ) → Option (List C)
step_back found wanted origin = option_and_then (λ from. if nat_lt from.1 wanted then None else found from.0 from.1) origin

-- two that agree at the origin find one and the same by a step back
pub step_back-same : {C : Type 0} (f g : List C → ℕ → Option (List C)) (wanted : ℕ) (o : Option (List C × ℕ))
    → ((from : List C × ℕ) → o ≡ Some from → f from.0 from.1 ≡ g from.0 from.1) → step_back f wanted o ≡ step_back g wanted o
step_back-same f g wanted None same = refl
step_back-same f g wanted (Some from) same = ap (λ r. if nat_lt from.1 wanted then None else r) (same from refl)

-- an origin before the wanted revision leads nowhere
no_step : {C : Type 0} (found : List C → ℕ → Option (List C)) (wanted : ℕ) (o : Option (List C × ℕ))
    → ((from : List C × ℕ) → o ≡ Some from → from.1 < wanted) → step_back found wanted o ≡ None
no_step found wanted None past = refl
no_step found wanted (Some from) past = ap (λ b. if b then None else found from.0 from.1) (lt-ltb from.1 wanted (past from refl))

-- one that leads somewhere is not before it
pub not_past : {X : Type 0} (b : Bool) (o : Option X) (x : X) → (if b then None else o) ≡ Some x → (b ≡ false) × (o ≡ Some x)
not_past true o x e = absurd (none-some x e)
not_past false o x e = (refl, e)

-- ---- enough steps are enough

module _ {C M : Type 0} (same : C → C → Bool) (trees : List (Tree C M)) (fall : OriginsFall same trees) where
  -- nothing in revision 0 came from anywhere
  pub no_origin_at_zero : (path : List C) (rev : ℕ) → rev ≤ 0 → origin_of same trees path rev ≡ None
  no_origin_at_zero path rev first = none_is (origin_of same trees path rev) refl
    where
      none_is : (o : Option (List C × ℕ)) → origin_of same trees path rev ≡ o → o ≡ None
      none_is None e = refl
      none_is (Some from) e = absurd (let lower : from.1 < rev = fall.falls path rev from.0 from.1 e in omega arith)

  no_steps : (steps : ℕ) (path : List C) (rev wanted : ℕ) → rev ≤ 0
      → location_within same trees 0 path rev wanted ≡ location_within same trees steps path rev wanted
  unfolding location_within
  no_steps zero path rev wanted first = refl
  no_steps (suc steps) path rev wanted first =
      ap (λ o. if rev == wanted then Some path else step_back (λ p r. location_within same trees steps p r wanted) wanted o)
      (sym (no_origin_at_zero path rev first))

  -- more steps than the revision's number change nothing
  pub traced_enough : (steps more : ℕ) (path : List C) (rev wanted : ℕ) → rev ≤ steps → rev ≤ more
      → location_within same trees steps path rev wanted ≡ location_within same trees more path rev wanted
  unfolding location_within
  traced_enough zero more path rev wanted enough also = no_steps more path rev wanted enough
  traced_enough (suc steps) zero path rev wanted enough also = sym (no_steps (suc steps) path rev wanted also)
  traced_enough (suc steps) (suc more) path rev wanted enough also =
      ap (λ r. if rev == wanted then Some path else r)
      (step_back-same (λ p r. location_within same trees steps p r wanted) (λ p r. location_within same trees more p r wanted) wanted (origin_of same trees path rev)
      (λ from e.
      let lower : from.1 < rev = fall.falls path rev from.0 from.1 e in
      traced_enough steps more from.0 from.1 wanted (omega arith) (omega arith)))

  -- a location, by one step back
  pub location_step : (path : List C) (rev wanted : ℕ)
      → location same trees path rev wanted
      ≡ (if rev == wanted then Some path
      else option_and_then (λ from. if nat_lt from.1 wanted then None else location same trees from.0 from.1 wanted)
      (origin_of same trees path rev))
  unfolding location_within
  location_step path zero wanted =
      ap (λ o. if 0 == wanted then Some path else step_back (λ p r. location same trees p r wanted) wanted o)
      (sym (no_origin_at_zero path 0 (omega arith)))
  location_step path (suc rev) wanted =
      ap (λ r. if suc rev == wanted then Some path else r)
      (step_back-same (λ p r. location_within same trees rev p r wanted) (λ p r. location same trees p r wanted) wanted (origin_of same trees path (suc rev))
      (λ from e.
      let lower : from.1 < suc rev = fall.falls path (suc rev) from.0 from.1 e in
      traced_enough rev from.1 from.0 from.1 wanted (omega arith) (omega arith)))

  -- a path stood in its own revision where it stands
  pub location_here : (path : List C) (rev : ℕ) → location same trees path rev rev ≡ Some path
  location_here path rev =
      location_step path rev rev
      ∙ ap (λ b. if b then Some path else step_back (λ p r. location same trees p r rev) rev (origin_of same trees path rev)) (eq-eqb rev rev refl)

  -- an earlier path stood nowhere in a later revision
  pub location_later : (path : List C) (rev wanted : ℕ) → rev < wanted → location same trees path rev wanted ≡ None
  location_later path rev wanted later =
      let found = λ (p : List C) (r : ℕ). location same trees p r wanted in
      location_step path rev wanted
      ∙ ap (λ b. if b then Some path else step_back found wanted (origin_of same trees path rev)) (ne_eqb rev wanted (λ e. omega (arith, e)))
      ∙ no_step found wanted (origin_of same trees path rev)
      (λ from e. let lower : from.1 < rev = fall.falls path rev from.0 from.1 e in omega arith)

  -- a location in an earlier revision is one from the origin
  pub location_back : (path : List C) (rev wanted : ℕ) → wanted < rev
      → location same trees path rev wanted ≡ step_back (λ p r. location same trees p r wanted) wanted (origin_of same trees path rev)
  location_back path rev wanted past =
      location_step path rev wanted
      ∙ ap (λ b. if b then Some path else step_back (λ p r. location same trees p r wanted) wanted (origin_of same trees path rev))
      (ne_eqb rev wanted (λ e. omega (arith, e, past)))

  -- where the origin is not before the wanted revision, it is that of the origin
  pub location_at_origin : (path : List C) (rev wanted : ℕ) (from : List C) (from_rev : ℕ) → wanted < rev → wanted ≤ from_rev
      → origin_of same trees path rev ≡ Some (from, from_rev) → location same trees path rev wanted ≡ location same trees from from_rev wanted
  location_at_origin path rev wanted from from_rev past within came =
      location_back path rev wanted past
      ∙ ap (step_back (λ p r. location same trees p r wanted) wanted) came
      ∙ ap (λ b. if b then None else location same trees from from_rev wanted) (le-ltb from_rev wanted within)

  -- where a path stood somewhere, its origin is not before the wanted revision and stood there too
  pub origin_from_location : (path at : List C) (rev wanted : ℕ) → wanted < rev → location same trees path rev wanted ≡ Some at
      → (from : List C × ℕ) × (origin_of same trees path rev ≡ Some from) × (wanted ≤ from.1) × (from.1 < rev) × (location same trees from.0 from.1 wanted ≡ Some at)
  origin_from_location path at rev wanted past stood =
      option_and_then_some (λ from. if nat_lt from.1 wanted then None else location same trees from.0 from.1 wanted) (origin_of same trees path rev) at
      (sym (location_back path rev wanted past) ∙ stood) (λ from came onward.
      let both = not_past (nat_lt from.1 wanted) (location same trees from.0 from.1 wanted) at onward in
      (from, came, ltb-false from.1 wanted both.0, fall.falls path rev from.0 from.1 came, both.1))

  -- ---- through revisions between

  -- through revisions in which the path came from itself it stands where it stood
  pub location_stays : (path : List C) (lo hi wanted : ℕ) → lo ≤ hi → wanted ≤ lo
      → ((rev : ℕ) → lo ≤ rev → rev < hi → origin_of same trees path (suc rev) ≡ Some (path, rev))
      → location same trees path hi wanted ≡ location same trees path lo wanted
  location_stays path lo zero wanted above low stays = let here : 0 ≡ lo = omega arith in ap (λ n. location same trees path n wanted) here
  location_stays path lo (suc hi) wanted above low stays = elim (cases_lt hi lo) [
    | inl past ↦ let here : suc hi ≡ lo = omega arith in ap (λ n. location same trees path n wanted) here
    | inr within ↦
        location_at_origin path (suc hi) wanted path hi (omega arith) (omega arith) (stays hi within (omega arith))
        ∙ location_stays path lo hi wanted within low (λ rev from to. stays rev from (omega arith))
  ]

  -- so in each of them it is the path
  pub location_stays_here : (path : List C) (lo hi wanted : ℕ) → lo ≤ wanted → wanted ≤ hi
      → ((rev : ℕ) → lo ≤ rev → rev < hi → origin_of same trees path (suc rev) ≡ Some (path, rev))
      → location same trees path hi wanted ≡ Some path
  location_stays_here path lo hi wanted low high stays =
      location_stays path wanted hi wanted high (omega arith) (λ rev from to. stays rev (omega arith) to)
      ∙ location_here path wanted

  through_here : (path at : List C) (rev between wanted : ℕ) → rev ≡ between → location same trees path rev between ≡ Some at
      → location same trees path rev wanted ≡ location same trees at between wanted
  through_here path at rev between wanted here stood =
      let itself : path ≡ at =
      same_Some path at (sym (location_here path rev) ∙ ap (location same trees path rev) here ∙ stood) in
      λ i. location same trees (itself i) (here i) wanted

  through : (most : ℕ) (path at : List C) (rev between wanted : ℕ) → rev ≤ most → wanted ≤ between → location same trees path rev between ≡ Some at
      → location same trees path rev wanted ≡ location same trees at between wanted
  through zero path at rev between wanted few order stood =
      elim (cases_order rev between) [
        | inl here ↦ through_here path at rev between wanted here stood
        | inr (inl before) ↦ absurd (none-some at (sym (location_later path rev between before) ∙ stood))
        | inr (inr after) ↦ absurd (omega arith)
      ]
  through (suc most) path at rev between wanted few order stood =
      elim (cases_order rev between) [
        | inl here ↦ through_here path at rev between wanted here stood
        | inr (inl before) ↦ absurd (none-some at (sym (location_later path rev between before) ∙ stood))
        | inr (inr after) ↦
            let (from, came, within, lower, there) = origin_from_location path at rev between after stood in
            location_at_origin path rev wanted from.0 from.1 (omega arith) (omega arith) came
            ∙ through most from.0 at from.1 between wanted (omega arith) order there
      ]

  -- a path stood where it stood in a revision between, from there
  pub location_through : (path at : List C) (rev between wanted : ℕ) → wanted ≤ between → location same trees path rev between ≡ Some at
      → location same trees path rev wanted ≡ location same trees at between wanted
  location_through path at rev between wanted order stood = through rev path at rev between wanted (omega arith) order stood

  -- a path that stood at the same path in the revision before came from there
  pub origin_stays : (path : List C) (rev : ℕ) → location same trees path (suc rev) rev ≡ Some path → origin_of same trees path (suc rev) ≡ Some (path, rev)
  origin_stays path rev stood =
      let (from, came, within, lower, there) = origin_from_location path path (suc rev) rev (omega arith) stood in
      let at : from.1 ≡ rev = omega arith in
      let here : location same trees from.0 rev rev ≡ Some path = ap (λ r. location same trees from.0 r rev) (sym at) ∙ there in
      let itself : from.0 ≡ path = same_Some from.0 path (sym (location_here from.0 rev) ∙ here) in
      came ∙ (λ i. Some (itself i, at i))

-- ---- other trees

module _ {C M : Type 0} (same : C → C → Bool) (trees others : List (Tree C M)) (fall : OriginsFall same trees) (last : ℕ)
    (agree : (rev : ℕ) → rev ≤ last → tree_of trees rev ≡ tree_of others rev) where
  traced_agree : (steps : ℕ) (path : List C) (rev wanted : ℕ) → rev ≤ last → location_within same trees steps path rev wanted ≡ location_within same others steps path rev wanted
  unfolding location_within
  traced_agree zero path rev wanted within = refl
  traced_agree (suc steps) path rev wanted within =
      let origin = origin_of same trees path rev in
      ap (λ r. if rev == wanted then Some path else r)
      (step_back-same (λ p r. location_within same trees steps p r wanted) (λ p r. location_within same others steps p r wanted) wanted origin
      (λ from came. let lower : from.1 < rev = fall.falls path rev from.0 from.1 came in traced_agree steps from.0 from.1 wanted (omega arith))
      ∙ ap (λ tree. step_back (λ p r. location_within same others steps p r wanted) wanted (option_and_then (λ entry. entry.origin) (entry_at same tree path))) (agree rev within))

  -- trees that agree up to a revision have the same locations from there back
  pub location_agree : (path : List C) (rev wanted : ℕ) → rev ≤ last → location same trees path rev wanted ≡ location same others path rev wanted
  location_agree path rev wanted within = traced_agree rev path rev wanted within

-- ---- what a location finds is there

module _ {C M : Type 0} (same : C → C → Bool) (trees : List (Tree C M)) (origins : OriginsAreThere same trees) where
  found_here : (path at : List C) (rev wanted : ℕ) (other : Option (List C)) → is_there same (tree_of trees rev) path ≡ true
      → (other ≡ Some at → is_there same (tree_of trees wanted) at ≡ true) → (if rev == wanted then Some path else other) ≡ Some at
      → is_there same (tree_of trees wanted) at ≡ true
  found_here path at rev wanted other there otherwise e = by_test (rev == wanted) refl e
    where
      by_test : (b : Bool) → (rev == wanted) ≡ b → (if b then Some path else other) ≡ Some at → is_there same (tree_of trees wanted) at ≡ true
      by_test true here e =
          (λ i. is_there same (tree_of trees (sym (eqb-true rev wanted here) i)) (sym (same_Some path at e) i)) ∙ there
      by_test false elsewhere e = otherwise e

  traced_there : (steps : ℕ) (path at : List C) (rev wanted : ℕ) → is_there same (tree_of trees rev) path ≡ true
      → location_within same trees steps path rev wanted ≡ Some at → is_there same (tree_of trees wanted) at ≡ true
  unfolding location_within
  traced_there zero path at rev wanted there e = found_here path at rev wanted None there (λ n. absurd (none-some at n)) e
  traced_there (suc steps) path at rev wanted there e =
      found_here path at rev wanted _ there
      (λ found. option_and_then_some _ (origin_of same trees path rev) at found
      (λ from came onward.
      traced_there steps from.0 at from.1 wanted (origins.there path rev from.0 from.1 came) (not_past (nat_lt from.1 wanted) _ at onward).1)) e

  -- a path that is there stood at one that was there
  pub location_is_there : (path at : List C) (rev wanted : ℕ) → is_there same (tree_of trees rev) path ≡ true
      → location same trees path rev wanted ≡ Some at → is_there same (tree_of trees wanted) at ≡ true
  location_is_there path at rev wanted there e = traced_there rev path at rev wanted there e
