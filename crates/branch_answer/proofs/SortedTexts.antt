-- Entries in the order of their texts: what is found among them, whatever the order in which they came.
use Rattle.std.proofs.Common.{◌≡◌, ◌⊎◌, ℕ, zero, suc, ◌∙◌, true, false, cond, inl, inr, List, [], ◌∷◌, Option, None, Some, refl, sym, ap, subst, arith, bytes_eq, is_some, map}
use Rattle.std.proofs.lemmas.Bool.{both_ways, cases_Bool}
use Rattle.std.proofs.lemmas.Cmp.{nat_list_cmp_total}
use Rattle.std.proofs.lemmas.List.Elements.{All-cons, All-head, All-nil, All-tail}
use Rattle.std.proofs.lemmas.Map.Lookups.{exact_bytes}
use Rattle.std.proofs.lemmas.Map.Text.{is_eq-slice_cmp}
use Rattle.std.proofs.lemmas.Option.{none-some, same_Some}
use Rattle.std.proofs.lemmas.Slice.Eq.{bytes_eq-Decides}
use Rattle.std.specs.BTreeMap.{insert_entry}
use Rattle.std.specs.Cmp.Lexicographic.{slice_cmp}
use Rattle.std.specs.FinMap.{nat_cmp-IsAntisymmetric, slice_cmp-IsAntisymmetric}
use Rattle.std.specs.FinMap.Entries.{by_order, find, find-put, is_sorted, is_sorted-put, put, same_entries}
use Rattle.std.specs.List.{All, Contains}
use Rattle.std.specs.Ordering.{match_ordering, nat_cmp}
use Rattle.std.specs.declared.cmp.Ordering.{Ordering}
use Rattle.std.specs.declared.cmp.Ordering.TheVariants.{Less, Equal, Greater}
use Rattle.std.specs.Prelude.{T, fold}
use Rattle.branch_answer.specs.TextOrder.{sorted_by_text, with_text}

abbrev text_cmp : List ℕ → List ℕ → Ordering
text_cmp = slice_cmp nat_cmp

-- these entries with more of them in their places
abbrev sorted_from : {X : Type 0} → List (List ℕ × X) → List (List ℕ × X) → List (List ℕ × X)
sorted_from sorted more = fold with_text sorted more

module _ {X : Type 0} where
  -- std's maps and its finite maps as values put an entry in the same place
  insert_entry-put : (entries : List (List ℕ × X)) (text : List ℕ) (x : X) → insert_entry text_cmp entries text x ≡ put text_cmp text x entries
  insert_entry-put [] text x = refl
  insert_entry-put (e ∷ entries) text x =
      elim (text_cmp text e.0) as (λ o. match_ordering o ((text, x) ∷ e ∷ entries) ((e.0, x) ∷ entries) (e ∷ insert_entry text_cmp entries text x)
      ≡ by_order o ((text, x) ∷ e ∷ entries) ((e.0, x) ∷ entries) (e ∷ put text_cmp text x entries)) [
        | Less ↦ refl
        | Equal ↦ refl
        | Greater ↦ ap (λ more. e ∷ more) (insert_entry-put entries text x)
      ]

  AreSorted-with : (entries : List (List ℕ × X)) (each : List ℕ × X) → T (is_sorted text_cmp entries) → T (is_sorted text_cmp (with_text entries each))
  AreSorted-with entries each sorted =
      subst (λ all. T (is_sorted text_cmp all)) (sym (insert_entry-put entries each.0 each.1)) (is_sorted-put text_cmp nat_list_cmp_total each.0 each.1 entries sorted)

  AreSorted-from : (more entries : List (List ℕ × X)) → T (is_sorted text_cmp entries) → T (is_sorted text_cmp (sorted_from entries more))
  AreSorted-from [] entries sorted = sorted
  AreSorted-from (each ∷ more) entries sorted = AreSorted-from more (with_text entries each) (AreSorted-with entries each sorted)

  -- an entry is found at its text, and those at other texts as before
  find-with : (entries : List (List ℕ × X)) (each : List ℕ × X) (text : List ℕ)
      → find text_cmp text (with_text entries each) ≡ cond (bytes_eq text each.0) (Some each.1) (find text_cmp text entries)
  find-with entries each text =
      ap (find text_cmp text) (insert_entry-put entries each.0 each.1) ∙ find-put text_cmp nat_list_cmp_total text each.0 each.1 entries
      ∙ ap (λ same. cond same (Some each.1) (find text_cmp text entries)) (is_eq-slice_cmp text each.0)

  -- what is found was there, or came with a text
  found_among : (more entries : List (List ℕ × X)) (text : List ℕ) (x : X) → find text_cmp text (sorted_from entries more) ≡ Some x
      → (find text_cmp text entries ≡ Some x) ⊎ Contains more (text, x)
  found_among [] entries text x found = inl found
  found_among (each ∷ more) entries text x found = elim (found_among more (with_text entries each) text x found) [
    | inl before ↦ elim (cases_Bool (bytes_eq text each.0)) [
      | inl same ↦
          let is : Some each.1 ≡ Some x =
          sym (find-with entries each text ∙ ap (λ b. cond b (Some each.1) (find text_cmp text entries)) same) ∙ before in
          inr (zero, omega arith, λ i. (sym ((bytes_eq-Decides text each.0).0 same) i, same_Some each.1 x is i))
      | inr other ↦
          inl (sym (find-with entries each text ∙ ap (λ b. cond b (Some each.1) (find text_cmp text entries)) other) ∙ before)
    ]
    | inr (k, within, is) ↦ inr (suc k, omega (arith, within), is)
  ]

  -- a text that is there stays
  stays : (more entries : List (List ℕ × X)) (text : List ℕ) → is_some (find text_cmp text entries) ≡ true → is_some (find text_cmp text (sorted_from entries more)) ≡ true
  stays [] entries text there = there
  stays (each ∷ more) entries text there =
      stays more (with_text entries each) text
      (ap is_some (find-with entries each text)
      ∙ elim (bytes_eq text each.0) as (λ b. is_some (cond b (Some each.1) (find text_cmp text entries)) ≡ true) [ true ↦ refl | false ↦ there ])

  -- the text of each entry is there
  is_found : (more entries : List (List ℕ × X)) (each : List ℕ × X) → Contains more each → is_some (find text_cmp each.0 (sorted_from entries more)) ≡ true
  is_found [] entries each (k, within, is) = absurd (omega (arith, within))
  is_found (first ∷ more) entries each (zero, within, is) =
      let there : is_some (find text_cmp first.0 (with_text entries first)) ≡ true =
      ap is_some (find-with entries first first.0)
      ∙ ap (λ b. is_some (cond b (Some first.1) (find text_cmp first.0 entries))) ((bytes_eq-Decides first.0 first.0).1 refl) in
      subst (λ (one : List ℕ × X). is_some (find text_cmp one.0 (sorted_from entries (first ∷ more))) ≡ true) is
      (stays more (with_text entries first) first.0 there)
  is_found (first ∷ more) entries each (suc k, within, is) = is_found more (with_text entries first) each (k, omega (arith, within), is)

  -- no text has two
  abbrev pub HaveOneEach : List (List ℕ × X) → Type 0
  HaveOneEach entries = (text : List ℕ) (x y : X) → Contains entries (text, x) → Contains entries (text, y) → x ≡ y

  found_at : (entries : List (List ℕ × X)) → HaveOneEach entries → (text : List ℕ) (x : X) → Contains entries (text, x) → find text_cmp text (sorted_by_text entries) ≡ Some x
  found_at entries one text x has = by (find text_cmp text (sorted_by_text entries)) refl
    where
      by : (found : Option X) → find text_cmp text (sorted_by_text entries) ≡ found → find text_cmp text (sorted_by_text entries) ≡ Some x
      by None none = absurd (both_ways _ (ap is_some none) (is_found entries [] (text, x) has))
      by (Some y) some = elim (found_among entries [] text y some) [
        | inl never ↦ absurd (none-some y never)
        | inr among ↦ some ∙ ap Some (one text y x among has)
      ]

  -- the same entries come in the same order
  pub sorted_by_text-same : (one other : List (List ℕ × X)) → HaveOneEach one → HaveOneEach other
      → ((text : List ℕ) (x : X) → Contains one (text, x) → Contains other (text, x))
      → ((text : List ℕ) (x : X) → Contains other (text, x) → Contains one (text, x)) → sorted_by_text one ≡ sorted_by_text other
  sorted_by_text-same one other one_each other_each to back =
      same_entries text_cmp nat_list_cmp_total (slice_cmp-IsAntisymmetric nat_cmp-IsAntisymmetric) (sorted_by_text one) (sorted_by_text other)
      (AreSorted-from one [] tt) (AreSorted-from other [] tt) (λ text. by text (find text_cmp text (sorted_by_text one)) refl (find text_cmp text (sorted_by_text other)) refl)
    where
      by : (text : List ℕ) (x : Option X) → find text_cmp text (sorted_by_text one) ≡ x → (y : Option X) → find text_cmp text (sorted_by_text other) ≡ y
          → find text_cmp text (sorted_by_text one) ≡ find text_cmp text (sorted_by_text other)
      by text None at None at_other = at ∙ sym at_other
      by text (Some x) at y at_other = elim (found_among one [] text x at) [
        | inl never ↦ absurd (none-some x never)
        | inr among ↦ at ∙ sym (found_at other other_each text x (to text x among))
      ]
      by text None at (Some y) at_other = elim (found_among other [] text y at_other) [
        | inl never ↦ absurd (none-some y never)
        | inr among ↦ found_at one one_each text y (back text y among) ∙ sym at_other
      ]

  -- the text of each entry is among those in order
  abbrev texts : List (List ℕ × X) → List (List ℕ)
  texts entries = map (λ each. each.0) entries

  texts-new : (entries : List (List ℕ × X)) (each : List ℕ × X) → Contains (texts (with_text entries each)) each.0
  texts-new [] each = (zero, omega arith, refl)
  texts-new (e ∷ entries) each = by (text_cmp each.0 e.0) refl (texts-new entries each)
    where
      by : (o : Ordering) → text_cmp each.0 e.0 ≡ o → Contains (texts (with_text entries each)) each.0
          → Contains (texts (match_ordering o (each ∷ e ∷ entries) ((e.0, each.1) ∷ entries) (e ∷ with_text entries each))) each.0
      by Less at rest = (zero, omega arith, refl)
      by Equal at rest = (zero, omega arith, sym (exact_bytes each.0 e.0 at))
      by Greater at (k, within, is) = (suc k, omega (arith, within), is)

  texts-old : (entries : List (List ℕ × X)) (each : List ℕ × X) (text : List ℕ) → Contains (texts entries) text → Contains (texts (with_text entries each)) text
  texts-old [] each text (k, within, is) = absurd (omega (arith, within))
  texts-old (e ∷ entries) each text has = by (text_cmp each.0 e.0) has (texts-old entries each text)
    where
      by : (o : Ordering) → Contains (texts (e ∷ entries)) text → (Contains (texts entries) text → Contains (texts (with_text entries each)) text)
          → Contains (texts (match_ordering o (each ∷ e ∷ entries) ((e.0, each.1) ∷ entries) (e ∷ with_text entries each))) text
      by Less (k, within, is) rest = (suc k, omega (arith, within), is)
      by Equal (zero, within, is) rest = (zero, omega (arith, within), is)
      by Equal (suc k, within, is) rest = (suc k, omega (arith, within), is)
      by Greater (zero, within, is) rest = (zero, omega arith, is)
      by Greater (suc k, within, is) rest = let (j, inside, same) = rest (k, omega (arith, within), is) in (suc j, omega (arith, inside), same)

  texts-stay : (more entries : List (List ℕ × X)) (text : List ℕ) → Contains (texts entries) text → Contains (texts (sorted_from entries more)) text
  texts-stay [] entries text has = has
  texts-stay (each ∷ more) entries text has = texts-stay more (with_text entries each) text (texts-old entries each text has)

  texts-come : (more entries : List (List ℕ × X)) (text : List ℕ) → Contains (texts more) text → Contains (texts (sorted_from entries more)) text
  texts-come [] entries text (k, within, is) = absurd (omega (arith, within))
  texts-come (each ∷ more) entries text (zero, within, is) =
      texts-stay more (with_text entries each) text (subst (Contains (texts (with_text entries each))) is (texts-new entries each))
  texts-come (each ∷ more) entries text (suc k, within, is) = texts-come more (with_text entries each) text (k, omega (arith, within), is)

  pub Contains-sorted_by_text : (entries : List (List ℕ × X)) (text : List ℕ) → Contains (map (λ each. each.0) entries) text → Contains (map (λ each. each.0) (sorted_by_text entries)) text
  Contains-sorted_by_text entries text has = texts-come entries [] text has

  -- what holds of each entry holds of each in order
  module _ (P : List ℕ × X → Type 0) where
    All-with : (entries : List (List ℕ × X)) (each : List ℕ × X) → P each → All P entries → All P (with_text entries each)
    All-with [] each here all = All-cons P each [] here (All-nil P)
    All-with (e ∷ entries) each here all = by (text_cmp each.0 e.0) refl (All-with entries each here (All-tail P e entries all))
      where
        by : (o : Ordering) → text_cmp each.0 e.0 ≡ o → All P (with_text entries each)
            → All P (match_ordering o (each ∷ e ∷ entries) ((e.0, each.1) ∷ entries) (e ∷ with_text entries each))
        by Less at more = All-cons P each (e ∷ entries) here all
        by Equal at more = All-cons P (e.0, each.1) entries (subst (λ text. P (text, each.1)) (exact_bytes each.0 e.0 at) here) (All-tail P e entries all)
        by Greater at more = All-cons P e (with_text entries each) (All-head P e entries all) more

    All-from : (more entries : List (List ℕ × X)) → All P more → All P entries → All P (sorted_from entries more)
    All-from [] entries each all = all
    All-from (e ∷ more) entries each all = All-from more (with_text entries e) (All-tail P e more each) (All-with entries e (All-head P e more each) all)

    pub All-sorted_by_text : (entries : List (List ℕ × X)) → All P entries → All P (sorted_by_text entries)
    All-sorted_by_text entries all = All-from entries [] all (All-nil P)

-- other things at the same texts come in the same order
module _ {X Y : Type 0} (f : X → Y) where
  abbrev pub with_other : List ℕ × X → List ℕ × Y
  with_other each = (each.0, f each.1)

  map-with : (entries : List (List ℕ × X)) (each : List ℕ × X) → map with_other (with_text entries each) ≡ with_text (map with_other entries) (with_other each)
  map-with [] each = refl
  map-with (e ∷ entries) each =
      elim (text_cmp each.0 e.0) as (λ o. map with_other (match_ordering o (each ∷ e ∷ entries) ((e.0, each.1) ∷ entries) (e ∷ with_text entries each))
      ≡ match_ordering o (with_other each ∷ map with_other (e ∷ entries)) ((e.0, f each.1) ∷ map with_other entries) (with_other e ∷ with_text (map with_other entries) (with_other each))) [
        | Less ↦ refl
        | Equal ↦ refl
        | Greater ↦ ap (λ more. with_other e ∷ more) (map-with entries each)
      ]

  map-from : (more entries : List (List ℕ × X)) → map with_other (sorted_from entries more) ≡ sorted_from (map with_other entries) (map with_other more)
  map-from [] entries = refl
  map-from (each ∷ more) entries =
      map-from more (with_text entries each) ∙ ap (λ sorted. sorted_from sorted (map with_other more)) (map-with entries each)

  pub map-sorted_by_text : (entries : List (List ℕ × X)) → map with_other (sorted_by_text entries) ≡ sorted_by_text (map with_other entries)
  map-sorted_by_text entries = map-from entries []
