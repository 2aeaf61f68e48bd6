-- Results that are put into slots.
use Rattle.query_pool.proofs.Common.{◌≡◌, ◌≢◌, ℕ, zero, suc, ◌<◌, ◌≤◌, List, [], ◌∷◌, ◌++◌, Option, None, Some, inl, inr, length, replicate, set, refl, sym, subst, ap, ◌∙◌, append_assoc, arith, slice_get, eqb_tells, nat_tests, get_or-replicate, get_or-set_same, length-replicate, length-set, All-nil, All-push, All-weaker, none-some, same_Some, slice_get_cases, slice_get-get_or, slice_get_past, slice_get_within, HasEachAtMostOnce, IsFirstMisplaced, IsGatherError, count_at, results_of, Adds, Holds, IsAddError, count_in, GatherError, Stranger, Double}
use Rattle.std.specs.Prelude.{if◌then◌else◌, nat_lt}
use Rattle.std.proofs.lemmas.Grind.{flat_map-append}
use Rattle.query_pool.specs.declared.part.Part.{Part}
use Rattle.query_pool.proofs.Counts.{count_at-append, count_at-other, count_at-same}

at_most_one : (count place n : ℕ) → count ≤ 1 → (n ≤ place → count ≡ 0) → count ≤ (if nat_lt place n then 1 else 0)
at_most_one count place n most past = grind (arith, nat_tests)

pub one_within : (count place n : ℕ) → (place < n → count ≡ 1) → (n ≤ place → count ≡ 0) → count ≡ (if nat_lt place n then 1 else 0)
one_within count place n within past = grind (arith, nat_tests)

count_in-none : (X : Type 0) (n place : ℕ) → count_in {X = X} (slice_get (replicate n None) place) ≡ 0
count_in-none X n place =
    elim (slice_get_cases {X = Option X} (replicate n None) place).1 [
      | inl (slot, within, is, read) ↦
          ap count_in (is ∙ ap Some (sym read ∙ get_or-replicate n place None slot (omega (arith, within, length-replicate {A = Option X} n None))))
      | inr (past, none) ↦ ap count_in none
    ]

module _ {X : Type 0} where
  count_in-most : (slot : Option (Option X)) → count_in slot ≤ 1
  count_in-most None = omega arith
  count_in-most (Some None) = omega arith
  count_in-most (Some (Some found)) = omega arith

  pub count_in-past : (slots : List (Option X)) (place : ℕ) → length slots ≤ place → count_in (slice_get slots place) ≡ 0
  count_in-past slots place past = ap count_in (slice_get_past slots place past)

  slice_get-set_same : (slots : List X) (place : ℕ) (found : X) → place < length slots → slice_get (set slots place found) place ≡ Some found
  slice_get-set_same slots place found within =
      slice_get-get_or (set slots place found) place found (omega (arith, length-set slots place found))
      ∙ ap Some (get_or-set_same slots place found found within)

  slice_get-set_other : (slots : List X) (place other : ℕ) (found : X) → other ≢ place → slice_get (set slots place found) other ≡ slice_get slots other
  slice_get-set_other [] place other found apart = refl
  slice_get-set_other (slot ∷ slots) zero zero found apart = absurd (apart refl)
  slice_get-set_other (slot ∷ slots) zero (suc other) found apart = refl
  slice_get-set_other (slot ∷ slots) (suc place) zero found apart = refl
  slice_get-set_other (slot ∷ slots) (suc place) (suc other) found apart =
      slice_get-set_other slots place other found (λ same. apart (ap suc same))

  -- empty slots hold nothing
  pub Holds-none : (n : ℕ) → Holds {X = X} (replicate n None) []
  Holds-none n = record {
    counts = λ place. sym (count_in-none X n place);
    stands = All-nil (λ each. slice_get (replicate n None) each.0 ≡ Some (Some each.1));
  }

module _ {X : Type 0} (slots : List (Option X)) (results : List (ℕ × X)) (held : Holds slots results) where
  pub at_most_once : HasEachAtMostOnce (length slots) results
  at_most_once place =
      at_most_one (count_at place results) place (length slots) (omega (arith, held.counts place, count_in-most (slice_get slots place)))
      (λ past. held.counts place ∙ count_in-past slots place past)

  -- a result is misplaced where there is no empty slot for it
  misplaced : (place : ℕ) (found : X) (back : List (ℕ × X)) → count_in (slice_get slots place) ≡ (if nat_lt place (length slots) then 1 else 0) → IsFirstMisplaced (length slots) (results ++ (place, found) ∷ [] ++ back) place
  misplaced place found back taken = record {
    front = results;
    result = found;
    back = back;
    all = append_assoc results ((place, found) ∷ []) back;
    front_in_order = at_most_once;
    taken = held.counts place ∙ taken;
  }

module _ {X : Type 0} (slots : List (Option X)) (place : ℕ) (found : X) where
  pub IsAddError-stranger : length slots ≤ place → IsAddError slots ((place, found) ∷ []) (Stranger place)
  IsAddError-stranger past results back held =
      let taken = one_within _ place (length slots) (λ within. absurd (omega (arith, within, past))) (count_in-past slots place) in
      (past, misplaced slots results held place found back taken)

  pub IsAddError-double : (other : X) → slice_get slots place ≡ Some (Some other) → IsAddError slots ((place, found) ∷ []) (Double place)
  IsAddError-double other is results back held =
      let taken = one_within _ place (length slots) (λ within. ap count_in is) (count_in-past slots place) in
      (slice_get_within slots place (Some other) is, misplaced slots results held place found back taken)

  module _ (empty : slice_get slots place ≡ Some None) where
    stands_now : slice_get (set slots place (Some found)) place ≡ Some (Some found)
    stands_now = slice_get-set_same slots place (Some found) (slice_get_within slots place None empty)

    stands_still : (each : ℕ × X) → slice_get slots each.0 ≡ Some (Some each.1) → slice_get (set slots place (Some found)) each.0 ≡ Some (Some each.1)
    stands_still each stood =
        slice_get-set_other slots place each.0 (Some found)
        (λ same. none-some each.1 (same_Some _ _ (sym empty ∙ subst (λ k. slice_get slots k ≡ Some (Some each.1)) same stood)))
        ∙ stood

    counts_now : (results : List (ℕ × X)) → Holds slots results → (other : ℕ) → count_at other (results ++ (place, found) ∷ []) ≡ count_in (slice_get (set slots place (Some found)) other)
    counts_now results held other =
        count_at-append other results ((place, found) ∷ [])
        ∙ elim (eqb_tells place other) [
          | inl (test, same) ↦
              let before = ap count_in (subst (λ k. slice_get slots k ≡ Some None) same empty) in
              let now = ap count_in (subst (λ k. slice_get (set slots place (Some found)) k ≡ Some (Some found)) same stands_now) in
              omega (arith, held.counts other, count_at-same other (place, found) [] same, before, now)
          | inr (test, apart) ↦
              let now = ap count_in (slice_get-set_other slots place other (Some found) (λ same. apart (sym same))) in
              omega (arith, held.counts other, count_at-other other (place, found) [] apart, now)
        ]

    -- a result is put into an empty slot
    pub Adds-put : Adds slots ((place, found) ∷ []) (set slots place (Some found))
    Adds-put = record {
      len = length-set slots place (Some found);
      holds = λ results held. record {
        counts = counts_now results held;
        stands = All-push (λ each. slice_get (set slots place (Some found)) each.0 ≡ Some (Some each.1)) results (place, found)
            (All-weaker (λ each. slice_get slots each.0 ≡ Some (Some each.1)) (λ each. slice_get (set slots place (Some found)) each.0 ≡ Some (Some each.1)) stands_still results held.stands)
            stands_now;
      };
    }

module _ {X : Type 0} (old : List (Option X)) (front : List (ℕ × X)) (slots : List (Option X)) (added : Adds old front slots) (more : List (ℕ × X)) where
  pub Adds-more : (new : List (Option X)) → Adds slots more new → Adds old (front ++ more) new
  Adds-more new next = record {
    len = next.len ∙ added.len;
    holds = λ results held. subst (Holds new) (append_assoc results front more) (next.holds (results ++ front) (added.holds results held));
  }

  pub IsAddError-more : (error : GatherError) → IsAddError slots more error → (rest all : List (ℕ × X)) → front ++ (more ++ rest) ≡ all → IsAddError old all error
  IsAddError-more error is rest all whole results back held =
      let regrouped : results ++ front ++ more ++ (rest ++ back) ≡ results ++ all ++ back =
      simp append_assoc (ap (λ (middle : List (ℕ × X)). results ++ middle) (simp append_assoc at (ap (λ (given : List (ℕ × X)). given ++ back) whole))) in
      subst (λ given. IsGatherError (length old) given error) regrouped
      (subst (λ n. IsGatherError n (results ++ front ++ more ++ (rest ++ back)) error) added.len (is (results ++ front) (rest ++ back) (added.holds results held)))

-- the results of one of the parts stand between those of the others
pub results_of_cut : {X : Type 0} (front : List (Part X)) (part : Part X) (back all : List (Part X)) → front ++ part ∷ back ≡ all → results_of front ++ part.done.items ++ results_of back ≡ results_of all
results_of_cut front part back all whole =
    append_assoc (results_of front) part.done.items (results_of back)
    ∙ sym (flat_map-append (λ part. part.done.items) front (part ∷ back))
    ∙ ap results_of whole
