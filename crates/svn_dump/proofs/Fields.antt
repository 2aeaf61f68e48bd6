-- The headers that are read, by their indices, and what one more line makes of them.
use Rattle.svn_dump.proofs.Common.{◌≡◌, ℕ, zero, suc, ◌+◌, ◌<◌, ◌≤◌, Bool, true, false, cond, List, [], ◌∷◌, ◌++◌, map, length, get_or, set, refl, sym, ap, ap₂, ◌∙◌, subst, inl, inr, arith, rules, Bor, Option, Some, None, option_map, option_copied, is_some, All, IsFalse, bytes_eq, count_by, slice_get, IsDistinct, option_or, same_Some, slice_get_within, get_or_from_slice_get, slice_get-map, cases_Bool, cond-true, cond-false, both_ways, All-head, All-tail, All-from_recursion, sum_by-cons, sum_by_push, bytes_eq-Decides, field, is_header_named, header_name, header_value, listed_names, field_index, fields_of, AreHeaders, AreOnce, Uuid, RevisionNumber, NodePath, NodeKind, CopyfromRevision, CopyfromPath, PropertiesLength, TextLength, ContentLength, PropertiesDelta, TextDelta}
use Rattle.std.proofs.lemmas.Cmp.{nat_list_eq_equiv}
use Rattle.svn_dump.specs.contracts.grammar.field.Field.{the_type}
use Rattle.svn_dump.specs.declared.grammar.field.Field.{Field}
use Rattle.svn_dump.specs.declared.grammar.field.Field.TheVariants.{NodeAction}
use denote.Enum.Declared.{tag_of}

-- the number of a variant is its index
pub tag_of-field : (field : Field) → tag_of the_type field ≡ field_index field
tag_of-field Uuid = refl
tag_of-field RevisionNumber = refl
tag_of-field NodePath = refl
tag_of-field NodeKind = refl
tag_of-field NodeAction = refl
tag_of-field CopyfromRevision = refl
tag_of-field CopyfromPath = refl
tag_of-field PropertiesLength = refl
tag_of-field TextLength = refl
tag_of-field ContentLength = refl
tag_of-field PropertiesDelta = refl
tag_of-field TextDelta = refl

pub get_or-mapped : {X Y : Type 0} (f : X → Y) (xs : List X) (i : ℕ) (d : X) → get_or (map f xs) i (f d) ≡ f (get_or xs i d)
get_or-mapped f [] i d = refl
get_or-mapped f (x ∷ xs) zero d = refl
get_or-mapped f (x ∷ xs) (suc i) d = get_or-mapped f xs i d

-- ---- one name in one more line

-- the value of a name after one more line
abbrev with_line : Bool → Option (List ℕ) → List ℕ → Option (List ℕ)
with_line named before line = cond named (option_or before (Some (header_value line))) before

with_line-Some : (named : Bool) (value line : List ℕ) → with_line named (Some value) line ≡ Some value
with_line-Some true value line = refl
with_line-Some false value line = refl

field-first : (name each : List ℕ) (lines : List (List ℕ)) → is_header_named name each ≡ true → field name (each ∷ lines) ≡ Some (header_value each)
field-first name each lines named = cond-true _ _ _ named

field-later : (name each : List ℕ) (lines : List (List ℕ)) → is_header_named name each ≡ false → field name (each ∷ lines) ≡ field name lines
field-later name each lines other = cond-false _ _ _ other

field-push : (name : List ℕ) (lines : List (List ℕ)) (line : List ℕ) → field name (lines ++ line ∷ []) ≡ with_line (is_header_named name line) (field name lines) line
field-push name [] line = refl
field-push name (each ∷ lines) line =
    elim (cases_Bool (is_header_named name each)) [
      | inl named ↦
          field-first name each (lines ++ line ∷ []) named ∙ sym (with_line-Some (is_header_named name line) (header_value each) line)
          ∙ ap (λ before. with_line (is_header_named name line) before line) (sym (field-first name each lines named))
      | inr other ↦
          field-later name each (lines ++ line ∷ []) other ∙ field-push name lines line
          ∙ ap (λ before. with_line (is_header_named name line) before line) (sym (field-later name each lines other))
    ]

-- ---- how often a name stands

count_by-push : (name : List ℕ) (lines : List (List ℕ)) (line : List ℕ) → count_by (is_header_named name) (lines ++ line ∷ []) ≡ count_by (is_header_named name) lines + cond (is_header_named name line) 1 0
count_by-push name lines line = sum_by_push (λ each. cond (is_header_named name each) 1 0) lines line

count_by-cons : (name each : List ℕ) (lines : List (List ℕ)) → count_by (is_header_named name) (each ∷ lines) ≡ cond (is_header_named name each) 1 0 + count_by (is_header_named name) lines
count_by-cons name each lines = sum_by-cons (λ line. cond (is_header_named name line) 1 0) each lines

-- a name without a value stands in no line
count_by-None : (name : List ℕ) (lines : List (List ℕ)) → field name lines ≡ None → count_by (is_header_named name) lines ≡ 0
count_by-None name [] none = refl
count_by-None name (each ∷ lines) none =
    elim (cases_Bool (is_header_named name each)) [
      | inl named ↦ let some = field-first name each lines named in absurd (cc)
      | inr other ↦
          let rest = count_by-None name lines (sym (field-later name each lines other) ∙ none) in
          omega (arith, count_by-cons name each lines, cond-false {A = ℕ} _ 1 0 other)
    ]

-- one with a value stands in some
count_by-Some : (name value : List ℕ) (lines : List (List ℕ)) → field name lines ≡ Some value → 1 ≤ count_by (is_header_named name) lines
count_by-Some name value [] some = absurd (cc)
count_by-Some name value (each ∷ lines) some =
    elim (cases_Bool (is_header_named name each)) [
      | inl named ↦ omega (arith, count_by-cons name each lines, cond-true {A = ℕ} _ 1 0 named)
      | inr other ↦
          omega (arith, count_by-cons name each lines, count_by-Some name value lines (sym (field-later name each lines other) ∙ some))
    ]

-- ---- the listed names

listed_apart : IsDistinct bytes_eq listed_names
unfolding IsDistinct
listed_apart = search rules

same_maps : {X Y : Type 0} (f g : X → Y) (xs : List X) → ((x : X) → f x ≡ g x) → map f xs ≡ map g xs
same_maps f g [] same = refl
same_maps f g (x ∷ xs) same = ap₂ (λ y ys. y ∷ ys) (same x) (same_maps f g xs same)

-- a function of each name, and of whether it is the given one
module _ {Y : Type 0} (F : List ℕ → Bool → Y) (name : List ℕ) where
  map_other : (names : List (List ℕ)) → All (λ each. bytes_eq name each ≡ false) names → map (λ each. F each (bytes_eq name each)) names ≡ map (λ each. F each false) names
  map_other [] others = refl
  map_other (each ∷ names) others =
      ap₂ (λ y ys. y ∷ ys) (ap (F each) (All-head (λ one. bytes_eq name one ≡ false) each names others)) (map_other names (All-tail (λ one. bytes_eq name one ≡ false) each names others))

  map_at : (names : List (List ℕ)) (i : ℕ) → IsDistinct bytes_eq names → slice_get names i ≡ Some name → map (λ each. F each (bytes_eq name each)) names ≡ set (map (λ each. F each false) names) i (F name true)
  unfolding IsDistinct
  map_at [] i apart at = absurd (cc)
  map_at (each ∷ names) zero apart at =
      let here = same_Some each name at in
      let others = All-from_recursion (λ one. bytes_eq each one ≡ false) names apart.0 in
      ap₂ (λ y ys. y ∷ ys) (ap (λ one. F one (bytes_eq name one)) here ∙ ap (F name) ((bytes_eq-Decides name name).1 refl))
      (map_other names (subst (λ one. All (λ other. bytes_eq one other ≡ false) names) here others))
  map_at (each ∷ names) (suc i) apart at =
      let others = All-from_recursion (λ one. bytes_eq each one ≡ false) names apart.0 in
      let other = nat_list_eq_equiv.symm name each ∙ ap (bytes_eq each) (sym (get_or_from_slice_get names i name name at)) ∙ others i name (slice_get_within names i name at) in
      ap₂ (λ y ys. y ∷ ys) (ap (F each) other) (map_at names i apart.1 at)

-- ---- one more line

fields_of-push : (lines : List (List ℕ)) (line : List ℕ) → fields_of (lines ++ line ∷ []) ≡ map (λ name. with_line (bytes_eq (header_name line) name) (field name lines) line) listed_names
fields_of-push lines line = same_maps (λ name. field name (lines ++ line ∷ [])) _ listed_names (λ name. field-push name lines line)

-- the value at a listed name's index
pub fields_of-at : (lines : List (List ℕ)) (index : ℕ) (name : List ℕ) → slice_get listed_names index ≡ Some name → get_or (fields_of lines) index None ≡ field name lines
fields_of-at lines index name listed =
    get_or_from_slice_get (fields_of lines) index (field name lines) None
    (slice_get-map (λ each. field each lines) listed_names index ∙ ap (option_map (λ each. field each lines)) listed)

-- a name that stood at most once still does, if it isn't the line's or stood nowhere
count_by-push-le : (name : List ℕ) (lines : List (List ℕ)) (line : List ℕ) → count_by (is_header_named name) lines ≤ 1 → (is_header_named name line ≡ true → field name lines ≡ None) → count_by (is_header_named name) (lines ++ line ∷ []) ≤ 1
count_by-push-le name lines line once none =
    elim (cases_Bool (is_header_named name line)) [
      | inl named ↦ omega (arith, count_by-push name lines line, cond-true {A = ℕ} _ 1 0 named, count_by-None name lines (none named))
      | inr other ↦ omega (arith, count_by-push name lines line, cond-false {A = ℕ} _ 1 0 other)
    ]

module _ (lines : List (List ℕ)) (line name : List ℕ) (named : header_name line ≡ name) where
  line_name : (each : List ℕ) → is_header_named each line ≡ bytes_eq name each
  line_name each = ap (λ one. bytes_eq one each) named

  fields_of-named : fields_of (lines ++ line ∷ []) ≡ map (λ each. with_line (bytes_eq name each) (field each lines) line) listed_names
  fields_of-named = fields_of-push lines line ∙ ap (λ one. map (λ each. with_line (bytes_eq one each) (field each lines) line) listed_names) named

  -- of a name that isn't listed
  pub AreHeaders-unlisted : (values : List (Option (List ℕ))) → All (λ listed. IsFalse (bytes_eq listed name)) listed_names → AreHeaders values lines → AreHeaders values (lines ++ line ∷ [])
  AreHeaders-unlisted values unlisted before =
      let other = λ (k : ℕ) (d : List ℕ) (h : k < length listed_names). nat_list_eq_equiv.symm name (get_or listed_names k d) ∙ unlisted k d h in record {
        fields = before.fields ∙ sym (fields_of-named ∙ map_other (λ each is. with_line is (field each lines) line) name listed_names other);
        once = λ k d h. count_by-push-le (get_or listed_names k d) lines line (before.once k d h) (λ is. absurd (both_ways _ (other k d h) (sym (line_name (get_or listed_names k d)) ∙ is)));
      }

  -- of a listed name that has no value yet
  pub AreHeaders-listed : (values : List (Option (List ℕ))) (index : ℕ) → slice_get listed_names index ≡ Some name → get_or values index None ≡ None → AreHeaders values lines → AreHeaders (set values index (Some (header_value line))) (lines ++ line ∷ [])
  AreHeaders-listed values index listed none before =
      let none_yet : field name lines ≡ None = sym (fields_of-at lines index name listed) ∙ ap (λ all. get_or all index None) (sym before.fields) ∙ none in record {
        fields =
            ap (λ all. set all index (Some (header_value line))) before.fields
            ∙ ap (λ o. set (fields_of lines) index (option_or o (Some (header_value line)))) (sym none_yet)
            ∙ sym (fields_of-named ∙ map_at (λ each is. with_line is (field each lines) line) name listed_names index listed_apart listed);
        once = λ k d h. count_by-push-le (get_or listed_names k d) lines line (before.once k d h) (λ is.
            let same = (bytes_eq-Decides name (get_or listed_names k d)).0 (sym (line_name (get_or listed_names k d)) ∙ is) in
            ap (λ each. field each lines) (sym same) ∙ none_yet);
      }

  -- of a listed name that has a value
  pub AreHeaders-twice : (values : List (Option (List ℕ))) (index : ℕ) (value : List ℕ) → slice_get listed_names index ≡ Some name → get_or values index None ≡ Some value → AreHeaders values lines → AreOnce (lines ++ line ∷ []) → ⊥
  AreHeaders-twice values index value listed some before once =
      let valued : field name lines ≡ Some value = sym (fields_of-at lines index name listed) ∙ ap (λ all. get_or all index None) (sym before.fields) ∙ some in
      let here : is_header_named name line ≡ true = line_name name ∙ (bytes_eq-Decides name name).1 refl in
      let most = once index name (slice_get_within listed_names index name listed) in
      let at : get_or listed_names index name ≡ name = get_or_from_slice_get listed_names index name name listed in
      let most' : count_by (is_header_named name) (lines ++ line ∷ []) ≤ 1 = subst (λ each. count_by (is_header_named each) (lines ++ line ∷ []) ≤ 1) at most in
      omega (arith, count_by-push name lines line, cond-true {A = ℕ} _ 1 0 here, count_by-Some name value lines valued)

-- what a reference in an option is to
pub copied_some : (o : Option (Bor (List ℕ))) → is_some o ≡ true → (value : List ℕ) × (option_copied o ≡ Some value)
copied_some None e = absurd (cc)
copied_some (Some x) e = (x.now, refl)

pub copied_none : (o : Option (Bor (List ℕ))) → is_some o ≡ false → option_copied o ≡ None
copied_none None e = refl
copied_none (Some x) e = absurd (cc)
