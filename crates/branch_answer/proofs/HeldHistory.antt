-- The revisions of the history of a path, as a list and one by one.
use Rattle.std.proofs.Common.{◌≡◌, ◌∙◌, ℕ, zero, suc, ◌+◌, ◌<◌, ◌≤◌, ◌==◌, ◌&&◌, ◌||◌, Bool, true, false, inl, inr, Option, None, Some, List, [], ◌∷◌, filter, filter_map, is_some, map, reverse, refl, sym, ap, ap₂, arith, bytes_eq, eq-eqb, eqb-true, if◌then◌else◌}
use Rattle.std.specs.Prelude.{option_and_then}
use Rattle.std.specs.List.{cons_option, list_any, range_with_len}
use Rattle.std.proofs.lemmas.Bool.{and_right, cases_eq, cases_lt, le-leb, ne_eqb}
use Rattle.std.proofs.lemmas.List.{reverse-append}
use Rattle.std.proofs.lemmas.List.Folds.{list_any-append}
use Rattle.std.proofs.lemmas.Map.Views.{any-filter_same}
use Rattle.svn_path.specs.Path.{components_of}
use Rattle.svn_dump.proofs.Locations.{location_later}
use Rattle.svn_dump.proofs.Origins.{OriginsFall-trees_of}
use Rattle.svn_dump.specs.Dump.{DumpValue, history_in_bytes}
use Rattle.path_index.specs.Operative.{is_operative}
use Rattle.path_index.specs.Range.{is_in_range}
use Rattle.query_answer.specs.Answer.{operative_locations}
use Rattle.query_answer.specs.Merged.{operative_location}
use Rattle.query_answer.specs.Repo.{peg_in_bytes, trees_in_bytes}
use Rattle.query_answer.specs.declared.target.PathRev.{PathRev}
use Rattle.branch_answer.specs.HeldRevisions.{history_mark}
use Rattle.branch_answer.specs.KeptHoldings.{mark_of}
use Rattle.branch_answer.specs.declared.holding.Holding.TheVariants.{InHistory, Not}

-- ---- lists

list_any-map : {A B : Type 0} (f : A → B) (test : B → Bool) (xs : List A) → list_any test (map f xs) ≡ list_any (λ x. test (f x)) xs
list_any-map f test [] = refl
list_any-map f test (x ∷ xs) = ap (λ b. test (f x) || b) (list_any-map f test xs)

list_any-reverse : {A : Type 0} (test : A → Bool) (xs : List A) → list_any test (reverse xs) ≡ list_any test xs
list_any-reverse test [] = refl
list_any-reverse test (x ∷ xs) =
    ap (list_any test) (reverse-append (x ∷ []) xs) ∙ list_any-append test (reverse xs) (x ∷ [])
    ∙ ap (λ b. b || (test x || false)) (list_any-reverse test xs) ∙ by (list_any test xs) (test x)
  where
    by : (others first : Bool) → (others || (first || false)) ≡ (first || others)
    by true true = refl
    by true false = refl
    by false true = refl
    by false false = refl

list_any-range_with_len : (first n each : ℕ) → first ≤ each → each < first + n → list_any (λ x. x == each) (range_with_len first n) ≡ true
list_any-range_with_len first zero each from below = absurd (omega (arith, from, below))
list_any-range_with_len first (suc n) each from below = elim (cases_eq first each) [
  | inl here ↦ ap (λ b. b || list_any (λ x. x == each) (range_with_len (first + 1) n)) (eq-eqb first each here)
  | inr other ↦
      ap (λ b. b || list_any (λ x. x == each) (range_with_len (first + 1) n)) (ne_eqb first each other)
      ∙ list_any-range_with_len (first + 1) n each (omega (arith, from, other)) (omega (arith, below))
]

module _ {A : Type 0} (at : ℕ → Option A) (each : ℕ) where
  -- what is found in a revision, with the revision
  abbrev found : ℕ → Option (A × ℕ)
  found rev = option_and_then (λ here. Some (here, rev)) (at rev)

  -- whether the revision is among those in which something is found
  list_any-found : (revs : List ℕ) → list_any (λ one. one.1 == each) (filter_map found revs) ≡ (list_any (λ x. x == each) revs && is_some (at each))
  list_any-found [] = refl
  list_any-found (rev ∷ revs) = by (list_any-found revs) (at rev) refl (rev == each) refl
    where
      by : list_any (λ one. one.1 == each) (filter_map found revs) ≡ (list_any (λ x. x == each) revs && is_some (at each))
          → (here : Option A) → at rev ≡ here → (same : Bool) → (rev == each) ≡ same
          → list_any (λ one. one.1 == each) (cons_option (option_and_then (λ x. Some (x, rev)) here) (filter_map found revs)) ≡ ((same || list_any (λ x. x == each) revs) && is_some (at each))
      by so None is true same =
          let nothing : is_some (at each) ≡ false = ap (λ n. is_some (at n)) (sym (eqb-true rev each same)) ∙ ap is_some is in
          so ∙ ap (λ b. list_any (λ x. x == each) revs && b) nothing ∙ and_right (list_any (λ x. x == each) revs) false refl ∙ sym nothing
      by so None is false same = so
      by so (Some here) is true same =
          let something : is_some (at each) ≡ true = ap (λ n. is_some (at n)) (sym (eqb-true rev each same)) ∙ ap is_some is in
          ap (λ b. b || list_any (λ one. one.1 == each) (filter_map found revs)) same ∙ sym something
      by so (Some here) is false same = ap (λ b. b || list_any (λ one. one.1 == each) (filter_map found revs)) same ∙ so

-- ---- in the history

module _ (dump : DumpValue) (at : PathRev) where
  abbrev located : ℕ → Option (List (List ℕ))
  located rev = operative_location bytes_eq (history_in_bytes dump) (trees_in_bytes dump) (components_of dump.names at.path) at.rev rev

  -- a revision after that of the path is not in its history
  located-later : (rev : ℕ) → at.rev < rev → located rev ≡ None
  located-later rev later =
      let trees = trees_in_bytes dump in
      ap (option_and_then (λ here. if is_operative bytes_eq (history_in_bytes dump) trees here rev then Some here else None))
      (location_later bytes_eq trees (OriginsFall-trees_of bytes_eq (history_in_bytes dump)) (components_of dump.names at.path) at.rev rev later)

  among : (rev : ℕ) → (list_any (λ x. x == rev) (range_with_len 0 (at.rev + 1)) && is_some (located rev)) ≡ is_some (located rev)
  among rev = elim (cases_lt at.rev rev) [
    | inl later ↦ ap (λ o. list_any (λ x. x == rev) (range_with_len 0 (at.rev + 1)) && is_some o) (located-later rev later) ∙ and_right (list_any (λ x. x == rev) (range_with_len 0 (at.rev + 1))) false refl ∙ sym (ap is_some (located-later rev later))
    | inr to ↦ ap (λ b. b && is_some (located rev)) (list_any-range_with_len 0 (at.rev + 1) rev (omega arith) (omega (arith, to)))
  ]

  module _ (range : ℕ × ℕ) (revs : List ℕ)
      (are : revs ≡ filter (λ rev. is_in_range (Some range) rev) (map (λ one. one.1) (operative_locations (history_in_bytes dump) (trees_in_bytes dump) (peg_in_bytes dump at)))) where
    pub listed-history_mark : (rev : ℕ) → range.0 ≤ rev → rev ≤ range.1 → mark_of revs (λ _. InHistory) rev ≡ history_mark dump at rev
    listed-history_mark rev from to =
        let all = filter_map (found located rev) (range_with_len 0 (at.rev + 1)) in
        let within : is_in_range (Some range) rev ≡ true = ap₂ (λ a b. a && b) (le-leb range.0 rev from) (le-leb rev range.1 to) in
        ap (λ b. if b then InHistory else Not)
        (ap (list_any (λ x. x == rev)) are
        ∙ any-filter_same (λ x. x == rev) (is_in_range (Some range)) true (λ x same. ap (is_in_range (Some range)) (eqb-true x rev same) ∙ within) (map (λ one. one.1) (reverse all))
        ∙ list_any-map (λ one. one.1) (λ x. x == rev) (reverse all)
        ∙ list_any-reverse (λ one. one.1 == rev) all
        ∙ list_any-found located rev (range_with_len 0 (at.rev + 1))
        ∙ among rev)
