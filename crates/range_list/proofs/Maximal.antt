-- The maximal runs of a set, number by number, are its canonical list.
use Rattle.std.proofs.Common.{◌≡◌, ℕ, zero, suc, ◌+◌, ◌<◌, ◌≤◌, Bool, false, ◌⊎◌, cond, List, [], ◌∷◌, Option, Some, None, All, refl, sym, ap, ◌∙◌, inl, inr, eq-eqb, eqb-true, arith}
use Rattle.std.specs.Cmp.{booleans_Decides}
use Rattle.std.proofs.lemmas.Bool.{and_parts, and_from, and_right, cases_Bool, cases_lt, both_ways, le-leb, or_from, or_parts}
use Rattle.std.proofs.lemmas.List.Elements.{All-head, All-tail}
use Rattle.range_list.specs.Canonical.{canonical_runs, continues, put_before, run_of_one, runs_from}
use Rattle.range_list.specs.Rangelist.{covers, is_in, is_inheritable, inheritability_of, HasSameNumbers, IsCanonical, IsRun}
use Rattle.svn_text.specs.Number.{greatest_revision}
use Rattle.range_list.specs.declared.run.Run.{Run}
use Rattle.range_list.proofs.Canonical.{BeginsFrom, BeginsFrom-tail, IsApartFromFirst, IsCanonical-apart, IsCanonical-cons, IsCanonical-head, IsCanonical-tail, IsOut, IsOut-below}
use Rattle.range_list.proofs.Places.{inheritability_of-first, inheritability_of-out, inheritability_of-skip}
use Rattle.range_list.proofs.Only.{only_canonical}
use Rattle.range_list.proofs.Same.{covers-above, covers-below, HasSameNumbers-sym, HasSameNumbers-trans}

-- what one more number makes of runs above it
record IsPutBefore (number : ℕ) (sort : Option Bool) (runs put : List Run) : Type 0 where
  canonical : IsCanonical put
  begins : BeginsFrom number put
  here : inheritability_of put number ≡ sort
  above : (n : ℕ) → number < n → inheritability_of put n ≡ inheritability_of runs n

module _ (number : ℕ) (from : 1 ≤ number) (to : number ≤ greatest_revision) where
  IsRun-one : (inheritable : Bool) → IsRun (run_of_one number inheritable)
  IsRun-one inheritable = record { first = from; ordered = omega arith; last = to }

  -- a first run that begins at the number
  inheritability_of-begins : (run : Run) (runs : List Run) → run.lo ≡ number → IsRun run → IsOut runs number → inheritability_of (run ∷ runs) number ≡ Some run.inheritable
  inheritability_of-begins run runs at is out =
      inheritability_of-first run runs number out (omega (arith, is.ordered)) ∙ ap (λ b. cond b (Some run.inheritable) None) (le-leb run.lo number (omega arith))

  IsPutBefore-alone : (inheritable : Bool) → IsPutBefore number (Some inheritable) [] (run_of_one number inheritable ∷ [])
  IsPutBefore-alone inheritable = record {
    canonical = IsRun-one inheritable;
    begins = omega arith;
    here = inheritability_of-begins (run_of_one number inheritable) [] refl (IsRun-one inheritable) (record { out = refl; not_inheritable = refl });
    above = λ n more. inheritability_of-skip (run_of_one number inheritable) [] n (covers-above (run_of_one number inheritable) n more);
  }

  module _ (run : Run) (runs : List Run) (canonical : IsCanonical (run ∷ runs)) (begins : suc number ≤ run.lo) where
    is_run : IsRun run
    is_run = IsCanonical-head run runs canonical

    out : IsOut runs number
    out = IsOut-below runs (run.hi + 1) number (IsCanonical-tail run runs canonical) (BeginsFrom-tail run runs canonical) (omega (arith, is_run.ordered))

    IsPutBefore-none : IsPutBefore number None (run ∷ runs) (run ∷ runs)
    IsPutBefore-none = record {
      canonical = canonical;
      begins = omega arith;
      here = inheritability_of-out (run ∷ runs) number (IsOut-below (run ∷ runs) (suc number) number canonical begins (omega arith));
      above = λ n more. refl;
    }

    IsPutBefore-apart : (inheritable : Bool) → continues number inheritable run ≡ false → IsPutBefore number (Some inheritable) (run ∷ runs) (run_of_one number inheritable ∷ run ∷ runs)
    IsPutBefore-apart inheritable stops = record {
      canonical = (
        IsRun-one inheritable,
        record { after = omega arith; maximal = λ next same. both_ways _ stops (and_from _ _ (eq-eqb (suc number) run.lo (omega arith)) ((booleans_Decides inheritable run.inheritable).1 same)) },
        canonical,
      );
      begins = omega arith;
      here = inheritability_of-begins (run_of_one number inheritable) (run ∷ runs) refl (IsRun-one inheritable) (IsOut-below (run ∷ runs) (suc number) number canonical begins (omega arith));
      above = λ n more. inheritability_of-skip (run_of_one number inheritable) (run ∷ runs) n (covers-above (run_of_one number inheritable) n more);
    }

    longer : Run
    longer = record { lo = number; hi = run.hi; inheritable = run.inheritable }

    IsApartFromFirst-longer : (runs : List Run) → IsApartFromFirst run runs → IsApartFromFirst (record { lo = number; hi = run.hi; inheritable = run.inheritable }) runs
    IsApartFromFirst-longer [] apart = tt
    IsApartFromFirst-longer (next ∷ runs) apart = record { after = apart.after; maximal = apart.maximal }

    IsPutBefore-longer : suc number ≡ run.lo → IsPutBefore number (Some run.inheritable) (run ∷ runs) (record { lo = number; hi = run.hi; inheritable = run.inheritable } ∷ runs)
    IsPutBefore-longer next =
        let is : IsRun (record { lo = number; hi = run.hi; inheritable = run.inheritable }) = record { first = from; ordered = omega (arith, is_run.ordered); last = is_run.last } in
        record {
          canonical = IsCanonical-cons (record { lo = number; hi = run.hi; inheritable = run.inheritable }) runs is (IsApartFromFirst-longer runs (IsCanonical-apart run runs canonical)) (IsCanonical-tail run runs canonical);
          begins = omega arith;
          here = inheritability_of-begins (record { lo = number; hi = run.hi; inheritable = run.inheritable }) runs refl is out;
          above = λ n more. rw (le-leb number n (omega arith), le-leb run.lo n (omega arith)) refl;
        }

    IsPutBefore-some : (inheritable : Bool) → IsPutBefore number (Some inheritable) (run ∷ runs) (put_before number (Some inheritable) (run ∷ runs))
    IsPutBefore-some inheritable = elim (cases_Bool (continues number inheritable run)) [
      | inl goes_on ↦
          let (next, same) = and_parts _ _ goes_on in
          rw (goes_on, (booleans_Decides inheritable run.inheritable).0 same) (IsPutBefore-longer (eqb-true (suc number) run.lo next))
      | inr stops ↦ rw stops (IsPutBefore-apart inheritable stops)
    ]

  IsPutBefore-put_before : (sort : Option Bool) (runs : List Run) → IsCanonical runs → BeginsFrom (suc number) runs → IsPutBefore number sort runs (put_before number sort runs)
  IsPutBefore-put_before None [] canonical begins = record { canonical = tt; begins = tt; here = refl; above = λ n more. refl }
  IsPutBefore-put_before None (run ∷ runs) canonical begins = IsPutBefore-none run runs canonical begins
  IsPutBefore-put_before (Some inheritable) [] canonical begins = IsPutBefore-alone inheritable
  IsPutBefore-put_before (Some inheritable) (run ∷ runs) canonical begins = IsPutBefore-some run runs canonical begins inheritable

-- ---- the runs of all numbers

record AreMaximal (sort : ℕ → Option Bool) (number count : ℕ) (runs : List Run) : Type 0 where
  canonical : IsCanonical runs
  begins : BeginsFrom number runs
  within : (n : ℕ) → number ≤ n → n < number + count → inheritability_of runs n ≡ sort n
  above : (n : ℕ) → number + count ≤ n → inheritability_of runs n ≡ None

AreMaximal-runs_from : (sort : ℕ → Option Bool) (count number : ℕ) → 1 ≤ number → number + count ≤ greatest_revision + 1 → AreMaximal sort number count (runs_from sort number count)
unfolding runs_from
AreMaximal-runs_from sort zero number from to = record { canonical = tt; begins = tt; within = λ n least below. absurd (omega arith); above = λ n more. refl }
AreMaximal-runs_from sort (suc count) number from to =
    let rest = AreMaximal-runs_from sort count (suc number) (omega arith) (omega arith) in
    let put = IsPutBefore-put_before number from (omega arith) (sort number) (runs_from sort (suc number) count) rest.canonical rest.begins in
    record {
      canonical = put.canonical;
      begins = put.begins;
      within = λ n least below. elim (cases_lt number n) [
        | inl more ↦ put.above n more ∙ rest.within n (omega arith) (omega arith)
        | inr most ↦ let same : number ≡ n = omega arith in ap (inheritability_of (put_before number (sort number) (runs_from sort (suc number) count))) (sym same) ∙ put.here ∙ ap sort same
      ];
      above = λ n more. put.above n (omega arith) ∙ rest.above n (omega arith);
    }

-- ---- the canonical list of a set

pub is_inheritable-out : (runs : List Run) (n : ℕ) → is_in runs n ≡ false → is_inheritable runs n ≡ false
is_inheritable-out [] n absent = refl
is_inheritable-out (run ∷ runs) n absent =
    let (first, rest) = or_parts (covers run n) (is_in runs n) absent in
    or_from _ _ (and_right run.inheritable (covers run n) first) (is_inheritable-out runs n rest)

-- lists that tell a number's sort alike
HasSameNumbers-inheritability_of : (a b : List Run) (n : ℕ) → inheritability_of a n ≡ inheritability_of b n → (is_in a n ≡ is_in b n) × (is_inheritable a n ≡ is_inheritable b n)
HasSameNumbers-inheritability_of a b n same = elim (cases_Bool (is_in a n)) [
  | inl in_a ↦ elim (cases_Bool (is_in b n)) [
    | inl in_b ↦ let told = rw (in_a, in_b) at same in (in_a ∙ sym in_b, cc)
    | inr out_b ↦ let told = rw (in_a, out_b) at same in cc
  ]
  | inr out_a ↦ elim (cases_Bool (is_in b n)) [
    | inl in_b ↦ let told = rw (out_a, in_b) at same in cc
    | inr out_b ↦ (out_a ∙ sym out_b, is_inheritable-out a n out_a ∙ sym (is_inheritable-out b n out_b))
  ]
]

-- no run has a number above the greatest, nor 0
inheritability_of-outside : (runs : List Run) (n : ℕ) → All IsRun runs → (n ≡ 0) ⊎ (greatest_revision < n) → inheritability_of runs n ≡ None
inheritability_of-outside [] n all outside = refl
inheritability_of-outside (run ∷ runs) n all outside =
    let is : IsRun run = All-head IsRun run runs all in
    let uncovered : covers run n ≡ false = elim outside [
      | inl none ↦ covers-below run n (omega (arith, is.first))
      | inr high ↦ covers-above run n (omega (arith, is.last))
    ] in
    inheritability_of-skip run runs n uncovered ∙ inheritability_of-outside runs n (All-tail IsRun run runs all) outside

module _ (runs : List Run) where
  pub canonical_runs-IsCanonical : IsCanonical (canonical_runs runs)
  unfolding canonical_runs
  canonical_runs-IsCanonical = (AreMaximal-runs_from (inheritability_of runs) greatest_revision 1 (omega arith) (omega arith)).canonical

  canonical_runs-inheritability_of : All IsRun runs → (n : ℕ) → inheritability_of (canonical_runs runs) n ≡ inheritability_of runs n
  unfolding canonical_runs
  canonical_runs-inheritability_of all n =
      let are = AreMaximal-runs_from (inheritability_of runs) greatest_revision 1 (omega arith) (omega arith) in
      elim (cases_lt n 1) [
        | inl none ↦
            inheritability_of-out (canonical_runs runs) n (IsOut-below (canonical_runs runs) 1 n are.canonical are.begins none)
            ∙ sym (inheritability_of-outside runs n all (inl (omega arith)))
        | inr some ↦ elim (cases_lt greatest_revision n) [
          | inl high ↦ are.above n (omega arith) ∙ sym (inheritability_of-outside runs n all (inr high))
          | inr low ↦ are.within n some (omega arith)
        ]
      ]

  pub canonical_runs-HasSameNumbers : All IsRun runs → HasSameNumbers (canonical_runs runs) runs
  canonical_runs-HasSameNumbers all n = HasSameNumbers-inheritability_of (canonical_runs runs) runs n (canonical_runs-inheritability_of all n)

  -- it is the only one
  pub canonical_runs-only : (other : List Run) → All IsRun runs → IsCanonical other → HasSameNumbers other runs → other ≡ canonical_runs runs
  canonical_runs-only other all canonical same =
      only_canonical other (canonical_runs runs) canonical canonical_runs-IsCanonical
      (HasSameNumbers-trans other runs (canonical_runs runs) same (HasSameNumbers-sym (canonical_runs runs) runs (canonical_runs-HasSameNumbers all)))
