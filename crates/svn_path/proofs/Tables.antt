-- A table of names: what more names change, and what numbers stand for.
use Rattle.std.proofs.Common.{◌≡◌, ◌≢◌, ℕ, ◌+◌, ◌<◌, ◌≤◌, ◌==◌, true, false, inl, inr, List, [], ◌∷◌, ◌++◌, length, get_or, replicate, All, bytes_eq, refl, sym, ap, subst, ◌∙◌, add-one, arith, length-append}
use Rattle.std.proofs.lemmas.Bool.{cases_Bool, cases_lt, cases_order, both_ways, cond-true, cond-false, false_from_ne_true}
use Rattle.std.proofs.lemmas.Bool.Decides.{same_from_decides, Decides-eqb}
use Rattle.std.proofs.lemmas.List.{append-nil, append_assoc, get_or_append_left, get_or_default, get_or_past, length-replicate}
use Rattle.std.proofs.lemmas.List.Elements.{All-nil, All-head, All-tail, All-weaker, All-get_or, All-map, All-push}
use Rattle.std.proofs.lemmas.List.Folds.{list_any_at}
use Rattle.std.proofs.lemmas.Map.Keys.{apart_from_distinct}
use Rattle.std.proofs.lemmas.Slice.Eq.{bytes_eq-Decides}
use Rattle.std.specs.List.{IsDistinct}
use Rattle.svn_path.specs.Components.{IsComponent}
use Rattle.svn_path.specs.Names.{has_name, with_name, with_names, name_of, IsTable}
use Rattle.svn_path.specs.Path.{IsPathOf, components_of}
use Rattle.svn_path.specs.declared.names.NameId.{NameId}

-- ---- the names of numbers

-- more names change no number's name
pub name_of-append : (names more : List (List ℕ)) (number : ℕ) → number < length names → name_of (names ++ more) number ≡ name_of names number
name_of-append names more number below = get_or_append_left names more _ number below

-- a number below the length has a name of the table
pub has_name-name_of : (names : List (List ℕ)) (number : ℕ) → number < length names → has_name names (name_of names number) ≡ true
has_name-name_of names number below =
    list_any_at (λ each. bytes_eq each (name_of names number)) names number (replicate (number + 1) 47) below ((bytes_eq-Decides (name_of names number) (name_of names number)).1 refl)

slashes_no_component : (n : ℕ) → IsComponent (replicate (n + 1) 47) → ⊥
slashes_no_component n component = both_ways true (rw add-one at component.no_slash) refl

-- past the table's end a number's name is no component
pub name_of_past : (names : List (List ℕ)) (number : ℕ) → length names ≤ number → IsComponent (name_of names number) → ⊥
name_of_past names number past component = slashes_no_component number (subst IsComponent (get_or_past names number _ past) component)

-- a component that the table lacks is the name of no number
pub name_of-unknown : (names : List (List ℕ)) (name : List ℕ) → IsComponent name → has_name names name ≡ false → (number : ℕ) → name_of names number ≢ name
name_of-unknown names name component unknown number same =
    elim (cases_lt number (length names)) [
      | inl below ↦ both_ways _ unknown (subst (λ each. has_name names each ≡ true) same (has_name-name_of names number below))
      | inr past ↦ name_of_past names number past (subst IsComponent (sym same) component)
    ]

-- two numbers of the table with one name are one
same_number_below : (names : List (List ℕ)) (a b : ℕ) → IsDistinct bytes_eq names → a < b → b < length names → name_of names a ≢ name_of names b
same_number_below names a b distinct less below same =
    let same' : get_or names a [] ≡ get_or names b [] = get_or_default names a [] _ (omega arith) ∙ same ∙ get_or_default names b _ [] below in
    both_ways _ (apart_from_distinct bytes_eq names a b [] distinct less below) ((bytes_eq-Decides (get_or names a []) (get_or names b [])).1 same')

-- a number of the table has no name of a number past its end
same_number_across : (names : List (List ℕ)) (a b : ℕ) → All IsComponent names → a < length names → length names ≤ b → name_of names a ≢ name_of names b
same_number_across names a b components below past same =
    name_of_past names b past (subst IsComponent same (components a _ below))

same_slashes : (slash a b : ℕ) → replicate (a + 1) slash ≡ replicate (b + 1) slash → a ≡ b
same_slashes slash a b same = omega (arith, sym (length-replicate (a + 1) slash) ∙ ap length same ∙ length-replicate (b + 1) slash)

same_number_past : (names : List (List ℕ)) (a b : ℕ) → length names ≤ a → length names ≤ b → name_of names a ≡ name_of names b → a ≡ b
same_number_past names a b past past' same = same_slashes 47 a b (sym (get_or_past names a _ past) ∙ same ∙ get_or_past names b _ past')

-- different numbers have different names, of the table or not
pub name_of-same : {names : List (List ℕ)} → IsTable names → (a b : ℕ) → name_of names a ≡ name_of names b → a ≡ b
name_of-same {names} table a b same =
    elim (cases_lt a (length names)) [
      | inl below ↦ elim (cases_lt b (length names)) [
        | inl below' ↦ elim (cases_order a b) [
          | inl e ↦ e
          | inr (inl less) ↦ absurd (same_number_below names a b table.distinct less below' same)
          | inr (inr more) ↦ absurd (same_number_below names b a table.distinct more below (sym same))
        ]
        | inr past' ↦ absurd (same_number_across names a b table.components below past' same)
      ]
      | inr past ↦ elim (cases_lt b (length names)) [
        | inl below' ↦ absurd (same_number_across names b a table.components below' past (sym same))
        | inr past' ↦ same_number_past names a b past past' same
      ]
    ]

-- names agree exactly where numbers do, as tests
pub bytes_eq-name_of : {names : List (List ℕ)} → IsTable names → (a b : ℕ) → bytes_eq (name_of names a) (name_of names b) ≡ (a == b)
bytes_eq-name_of {names} table a b =
    let texts = bytes_eq-Decides (name_of names a) (name_of names b) in
    let numbers = Decides-eqb a b in
    same_from_decides {P = a ≡ b} _ _ (λ e. name_of-same table a b (texts.0 e), λ e. texts.1 (ap (name_of names) e)) numbers

-- a component that the table lacks differs from each number's name
pub bytes_eq-unknown : (names : List (List ℕ)) (name : List ℕ) → IsComponent name → has_name names name ≡ false → (number : ℕ) → bytes_eq (name_of names number) name ≡ false
bytes_eq-unknown names name component unknown number =
    false_from_ne_true _ (λ e. name_of-unknown names name component unknown number ((bytes_eq-Decides (name_of names number) name).0 e))

-- ---- the paths of numbers

-- what a path spells in a table stays as the table grows
pub components_of-append : (names more : List (List ℕ)) (path : List NameId) → IsPathOf names path → components_of (names ++ more) path ≡ components_of names path
components_of-append names more [] known = refl
components_of-append names more (name ∷ path) known =
    rw (name_of-append names more name.0 (All-head (λ each. each.0 < length names) name path known), components_of-append names more path (All-tail (λ each. each.0 < length names) name path known))

-- and its numbers stay numbers of the table
pub IsPathOf-append : (names more : List (List ℕ)) (path : List NameId) → IsPathOf names path → IsPathOf (names ++ more) path
IsPathOf-append names more path known =
    All-weaker (λ each. each.0 < length names) (λ each. each.0 < length (names ++ more)) (λ each below. omega (arith, length-append names more)) path known

-- paths that spell the same are the same
pub components_of-same : {names : List (List ℕ)} → IsTable names → (p q : List NameId) → components_of names p ≡ components_of names q → p ≡ q
components_of-same table [] [] same = refl
components_of-same table [] (b ∷ q) same = cc
components_of-same table (a ∷ p) [] same = cc
components_of-same {names} table (a ∷ p) (b ∷ q) same =
    let head : name_of names a.0 ≡ name_of names b.0 = cc in
    let tail : components_of names p ≡ components_of names q = cc in
    let number : a ≡ b = ap (λ n. let id : NameId = record { 0 = n } in id) (name_of-same table a.0 b.0 head) in
    let rest : p ≡ q = components_of-same table p q tail in
    cc

-- ---- one name more, or several

-- a name that the table has changes nothing
pub with_name-known : (names : List (List ℕ)) (name : List ℕ) → has_name names name ≡ true → with_name names name ≡ names
with_name-known names name known = cond-true _ _ _ known

-- another one goes last
pub with_name-new : (names : List (List ℕ)) (name : List ℕ) → has_name names name ≡ false → with_name names name ≡ names ++ name ∷ []
with_name-new names name unknown = cond-false _ _ _ unknown

-- what holds of the names and of one more
pub All-with_name : (P : List ℕ → Type 0) (names : List (List ℕ)) (name : List ℕ) → All P names → P name → All P (with_name names name)
All-with_name P names name of_names of_name =
    elim (cases_Bool (has_name names name)) [
      | inl known ↦ subst (All P) (sym (with_name-known names name known)) of_names
      | inr unknown ↦ subst (All P) (sym (with_name-new names name unknown)) (All-push P names name of_names of_name)
    ]

-- a table grows at its end, with one name
pub with_name-append : (names : List (List ℕ)) (name : List ℕ) → (more : List (List ℕ)) × (with_name names name ≡ names ++ more)
with_name-append names name =
    elim (cases_Bool (has_name names name)) [
      | inl known ↦ ([], with_name-known names name known ∙ sym (append-nil names))
      | inr unknown ↦ (name ∷ [], with_name-new names name unknown)
    ]

-- or with several
pub with_names-append : (names added : List (List ℕ)) → (more : List (List ℕ)) × (with_names names added ≡ names ++ more)
with_names-append names [] = ([], sym (append-nil names))
with_names-append names (name ∷ added) =
    let first = with_name-append names name in
    let rest = with_names-append (with_name names name) added in
    (first.0 ++ rest.0, rest.1 ∙ ap (λ front. front ++ rest.0) first.1 ∙ append_assoc names first.0 rest.0)

-- what holds of every table holds of the empty one
pub IsTable-nil : IsTable []
unfolding IsDistinct
IsTable-nil = record { few = omega arith; components = All-nil IsComponent; distinct = tt }

-- each component of a path of the table is one
pub components_of-components : (names : List (List ℕ)) (path : List NameId) → All IsComponent names → IsPathOf names path → All IsComponent (components_of names path)
components_of-components names path components of =
    All-map IsComponent (λ name. name_of names name.0) path (λ k d below. All-get_or IsComponent names (get_or path k d).0 (replicate ((get_or path k d).0 + 1) 47) (of k d below) components)
