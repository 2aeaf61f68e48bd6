-- A list of numbers in which those that pass a test come before those that fail it.
use Rattle.std.proofs.Common.{◌≡◌, ◌∙◌, ℕ, ◌-◌, ◌<◌, ◌≤◌, Bool, true, false, inl, inr, All, List, ◌++◌, ap, arith, drop, get_or, length, refl, subst, sym, take}
use Rattle.std.proofs.lemmas.Bool.{both_ways, cases_lt, cases_order}
use Rattle.std.proofs.lemmas.List.{drop_at, get_or-append_right, get_or_append_left, length-append, take_at}
use Rattle.std.specs.List.Sorted.{IsPartitionPoint, IsPartitionedBy}

module _ (p : ℕ → Bool) (front back : List ℕ) (pass : All (λ x. p x ≡ true) front) (fail : All (λ x. p x ≡ false) back) where
  abbrev all : List ℕ
  all = front ++ back

  passes_at : (i d : ℕ) → i < length front → p (get_or all i d) ≡ true
  passes_at i d low = ap p (get_or_append_left front back d i low) ∙ pass i d low

  fails_at : (i d : ℕ) → length front ≤ i → i < length all → p (get_or all i d) ≡ false
  fails_at i d high within =
      ap p (get_or-append_right front back (length front) i d refl high)
      ∙ fail (i - length front) d (omega (arith, high, within, length-append front back))

  pub IsPartitionedBy-append : IsPartitionedBy p all
  IsPartitionedBy-append i j d ordered within holds = elim (cases_lt i (length front)) [
    | inl low ↦ passes_at i d low
    | inr high ↦ absurd (both_ways _ (fails_at j d (omega (arith, ordered, high)) within) holds)
  ]

  pub partition_point-append : (i : ℕ) → i ≤ length all → IsPartitionPoint (λ y. p y ≡ true) (λ y. p y ≡ false) all i → length front ≡ i
  partition_point-append i bound point = elim (cases_order i (length front)) [
    | inl same ↦ sym same
    | inr (inl low) ↦ absurd (both_ways _ (point.1 i 0 (omega arith) (omega (arith, low, length-append front back))) (passes_at i 0 low))
    | inr (inr high) ↦ absurd (both_ways _ (fails_at (length front) 0 (omega arith) (omega (arith, high, bound))) (point.0 (length front) 0 (omega arith) high))
  ]

-- the place at which they are parted
pub record ArePartedAt (all front back : List ℕ) (i : ℕ) : Type 0 where
  pub front_is : take i all ≡ front
  pub back_is : drop i all ≡ back

pub ArePartedAt-point : (p : ℕ → Bool) (all front back : List ℕ) (i : ℕ) → All (λ x. p x ≡ true) front → All (λ x. p x ≡ false) back → all ≡ front ++ back → i ≤ length all
    → (IsPartitionedBy p all → IsPartitionPoint (λ y. p y ≡ true) (λ y. p y ≡ false) all i) → ArePartedAt all front back i
ArePartedAt-point p all front back i pass fail is bound clause =
    let parted = subst (IsPartitionedBy p) (sym is) (IsPartitionedBy-append p front back pass fail) in
    let at : length front ≡ i =
    partition_point-append p front back pass fail i (omega (arith, bound, ap length is)) (subst (λ xs. IsPartitionPoint (λ y. p y ≡ true) (λ y. p y ≡ false) xs i) is (clause parted)) in
    record { front_is = ap (take i) is ∙ take_at front back i at; back_is = ap (drop i) is ∙ drop_at front back i at }
