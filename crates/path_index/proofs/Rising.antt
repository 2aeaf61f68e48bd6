-- Records in the order of their revisions, and those of the revisions up to one.
use Rattle.path_index.proofs.Common.{◌≡◌, ◌≢◌, ℕ, ◌≤◌, ◌==◌, Bool, true, false, List, AllPairs, inl, inr, [], ◌∷◌, ◌++◌, All, get_or, if◌then◌else◌, length, map, filter, refl, ap, subst, ◌∙◌, arith, length-append, IsNonDecreasingBy, cases_lt, ne_eqb, All-head, All-tail, record_view, NodeRecord, AreRising, records_of}
use Rattle.std.proofs.Math.ListN.{get_or-append}
use Rattle.std.proofs.Math.Seq.{get_or-append_seam}

-- no record is of a later revision
abbrev pub AreUpTo : ℕ → List NodeRecord → Type 0
AreUpTo rev records = All (λ each. each.rev ≤ rev) records

-- ---- parts of a list

-- a test that each element passes keeps all
pub filter_all : {X : Type 0} (p : X → Bool) (xs : List X) → All (λ x. p x ≡ true) xs → filter p xs ≡ xs
filter_all p [] all = refl
filter_all p (x ∷ xs) all = rw (All-head (λ x. p x ≡ true) x xs all) (ap (λ rest. x ∷ rest) (filter_all p xs (All-tail (λ x. p x ≡ true) x xs all)))

-- a test that none passes keeps none
pub filter_none : {X : Type 0} (p : X → Bool) (xs : List X) → All (λ x. p x ≡ false) xs → filter p xs ≡ []
filter_none p [] all = refl
filter_none p (x ∷ xs) all = rw (All-head (λ x. p x ≡ false) x xs all) (filter_none p xs (All-tail (λ x. p x ≡ false) x xs all))

-- ---- lists in an order

pub IsNonDecreasingBy-AllPairs : {X : Type 0} (n : X → ℕ) (xs : List X) → AllPairs (λ x y. n x ≤ n y) xs → IsNonDecreasingBy n xs
IsNonDecreasingBy-AllPairs n xs rising i j d before within = elim (cases_lt i j) [
  | inl less ↦ rising i j d less within
  | inr same ↦ let e : j ≡ i = omega arith in rw e (omega arith)
]

-- ---- records in the order of their revisions

-- the records before one are of no later revision
pub AreUpTo-before : (front : List NodeRecord) (each : NodeRecord) (more : List NodeRecord) → AreRising (front ++ each ∷ more) → AreUpTo each.rev front
AreUpTo-before front each more rising k d within =
    let ordered = rising k (length front) d within (omega (arith, length-append front (each ∷ more))) in
    subst (λ (e : NodeRecord). e.rev ≤ each.rev) (get_or-append front (each ∷ more) d k within)
    (subst (λ (e : NodeRecord). (get_or (front ++ each ∷ more) k d).rev ≤ e.rev) (get_or-append_seam front each more d) ordered)

-- ---- the records of one revision

-- records of other revisions
pub records_of-others : (records : List NodeRecord) (rev : ℕ) → All (λ each. each.rev ≢ rev) records → records_of records rev ≡ []
records_of-others [] rev others = refl
records_of-others (each ∷ records) rev others =
    let P = λ (e : NodeRecord). e.rev ≢ rev in
    ap (λ b. map record_view (if b then each ∷ filter (λ e. e.rev == rev) records else filter (λ e. e.rev == rev) records))
    (ne_eqb each.rev rev (All-head P each records others))
    ∙ records_of-others records rev (All-tail P each records others)
