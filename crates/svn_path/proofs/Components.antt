-- Cutting bytes into the components of a path.
use Rattle.std.proofs.Common.{◌≡◌, ℕ, zero, suc, ◌<◌, ◌≤◌, true, false, List, [], ◌∷◌, ◌++◌, length, get_or, take, drop, All, IsFalse, Option, Some, None, inl, inr, unwrap_or, add-zero, refl, sym, ap, ◌∙◌, arith}
use Rattle.std.proofs.lemmas.List.{take-append-drop, append-nil, drop_all, length-take-le, length-drop, get_or-take, get_or-drop}
use Rattle.std.proofs.lemmas.Bool.{cases_Bool, false_from_ne_true, both_ways, or_from}
use Rattle.std.proofs.lemmas.List.Elements.{All-nil, All-cons, All-head, All-tail, All-filter, All-from_get_or, filter_passes}
use Rattle.std.proofs.lemmas.List.Folds.{list_any_at}
use Rattle.std.proofs.lemmas.List.Splits.{slice_split_none, slice_split_at}
use Rattle.std.specs.List.{slice_split, onto_first, list_any}
use Rattle.memchr.specs.Find.{IsFirstByte, is_byte}
use Rattle.svn_path.specs.Components.{is_slash, is_dot, parts_of, parts_text, path_text, IsComponent}
use Rattle.svn_text.specs.Bytes.{is_not_empty}

-- slashes at the front change nothing
pub parts_of-start : (bytes : List ℕ) (start : ℕ) → ((k : ℕ) → k < start → is_slash (get_or bytes k 0) ≡ true) → parts_of bytes ≡ parts_of (drop start bytes)
parts_of-start bytes zero slashes = refl
parts_of-start [] (suc start) slashes = refl
parts_of-start (byte ∷ bytes) (suc start) slashes =
    let first : is_slash byte ≡ true = slashes 0 (omega arith) in
    rw first (parts_of-start bytes start (λ k below. slashes (suc k) (omega arith)))

-- bytes that are all slashes have no part
pub parts_of-slashes : (bytes : List ℕ) → ((k : ℕ) → k < length bytes → is_slash (get_or bytes k 0) ≡ true) → parts_of bytes ≡ []
parts_of-slashes bytes slashes = parts_of-start bytes (length bytes) slashes ∙ ap parts_of (drop_all (length bytes) bytes (omega arith))

-- a part ends at the end or at a slash
parts_of-part : (part back : List ℕ) → is_not_empty part ≡ true → All (λ byte. is_slash byte ≡ false) part → (0 < length back → is_slash (get_or back 0 0) ≡ true) → parts_of (part ++ back) ≡ part ∷ parts_of back
parts_of-part part [] some none ends = rw (append-nil, slice_split_none is_slash part none, some)
parts_of-part part (byte ∷ back) some none ends =
    let slash : is_slash byte ≡ true = ends (omega arith) in
    rw (slice_split_at is_slash part byte back none slash, some, slash)

not_empty-take : (bytes : List ℕ) (end : ℕ) → 0 < end → end ≤ length bytes → is_not_empty (take end bytes) ≡ true
not_empty-take bytes zero some fits = absurd (omega arith)
not_empty-take [] (suc end) some fits = absurd (omega arith)
not_empty-take (byte ∷ bytes) (suc end) some fits = refl

-- the first part ends at the first slash, which is not the first byte
pub parts_of-cut : (bytes : List ℕ) (end : ℕ) → 0 < end → end ≤ length bytes → ((k : ℕ) → k < end → is_slash (get_or bytes k 0) ≡ false) → (end < length bytes → is_slash (get_or bytes end 0) ≡ true) → parts_of bytes ≡ take end bytes ∷ parts_of (drop end bytes)
parts_of-cut bytes end some fits none ends =
    ap parts_of (sym (take-append-drop end bytes)) ∙ parts_of-part (take end bytes) (drop end bytes) (not_empty-take bytes end some fits)
    (All-from_get_or (λ byte. is_slash byte ≡ false) (take end bytes) 0 (λ i below. before i (omega (arith, length-take-le end bytes fits, below)))) (λ more. after (omega (arith, length-drop end bytes, more)))
  where
    before : (i : ℕ) → i < end → is_slash (get_or (take end bytes) i 0) ≡ false
    before i below = rw (get_or-take end bytes i 0 below) (none i below)

    after : end < length bytes → is_slash (get_or (drop end bytes) 0 0) ≡ true
    after more = rw (get_or-drop end bytes 0 0, add-zero) (ends more)

-- what a search for the first slash cuts off, where the first byte is none
pub parts_of-found : (bytes : List ℕ) (found : Option ℕ) → IsFirstByte (is_byte 47) bytes found → 0 < length bytes → is_slash (get_or bytes 0 0) ≡ false → parts_of bytes ≡ take (unwrap_or found (length bytes)) bytes ∷ parts_of (drop (unwrap_or found (length bytes)) bytes)
parts_of-found bytes None nowhere some first =
    parts_of-cut bytes (length bytes) some (omega arith) (λ k below. false_from_ne_true _ (nowhere k (omega arith) below)) (λ more. absurd (omega arith))
parts_of-found bytes (Some zero) at some first = absurd (both_ways _ first at.1)
parts_of-found bytes (Some (suc k)) at some first =
    let high = at.0.high in
    parts_of-cut bytes (suc k) (omega arith) (omega arith) (λ i below. false_from_ne_true _ (at.0.before i (omega arith) below)) (λ more. at.1)

-- ---- each part is a component

onto_first-no_slash : (byte : ℕ) (parts : List (List ℕ)) → is_slash byte ≡ false → All (λ part. list_any is_slash part ≡ false) parts → All (λ part. list_any is_slash part ≡ false) (onto_first byte parts)
onto_first-no_slash byte [] other none = All-cons (λ part. list_any is_slash part ≡ false) (byte ∷ []) [] (or_from _ _ other refl) none
onto_first-no_slash byte (part ∷ parts) other none =
    All-cons (λ part. list_any is_slash part ≡ false) (byte ∷ part) parts
    (or_from _ _ other (All-head (λ part. list_any is_slash part ≡ false) part parts none)) (All-tail (λ part. list_any is_slash part ≡ false) part parts none)

slice_split-no_slash : (bytes : List ℕ) → All (λ part. list_any is_slash part ≡ false) (slice_split is_slash bytes)
slice_split-no_slash [] = All-cons (λ part. list_any is_slash part ≡ false) [] [] refl (All-nil (λ part. list_any is_slash part ≡ false))
slice_split-no_slash (byte ∷ bytes) =
    elim (cases_Bool (is_slash byte)) [
      | inl slash ↦ rw slash (All-cons (λ part. list_any is_slash part ≡ false) [] (slice_split is_slash bytes) refl (slice_split-no_slash bytes))
      | inr other ↦ rw other (onto_first-no_slash byte (slice_split is_slash bytes) other (slice_split-no_slash bytes))
    ]

-- the parts of bytes without dots are components
pub components-parts_of : (bytes : List ℕ) → IsFalse (list_any is_dot (parts_of bytes)) → All IsComponent (parts_of bytes)
components-parts_of bytes no_dots = λ k d below. record {
  not_empty = filter_passes is_not_empty (slice_split is_slash bytes) k d below;
  no_slash = All-filter is_not_empty (λ part. list_any is_slash part ≡ false) (slice_split is_slash bytes) (slice_split-no_slash bytes) k d below;
  not_dot = false_from_ne_true _ (λ dot. both_ways _ no_dots (list_any_at is_dot (parts_of bytes) k d below dot));
}

-- ---- a printed path has the parts that were printed

no_slash-part : (part : List ℕ) → IsFalse (list_any is_slash part) → All (λ byte. is_slash byte ≡ false) part
no_slash-part part none =
    All-from_get_or (λ byte. is_slash byte ≡ false) part 0 (λ i below. false_from_ne_true _ (λ slash. both_ways _ none (list_any_at is_slash part i 0 below slash)))

first_slash-parts_text : (parts : List (List ℕ)) → 0 < length (parts_text parts) → is_slash (get_or (parts_text parts) 0 0) ≡ true
first_slash-parts_text [] some = absurd (omega arith)
first_slash-parts_text (part ∷ parts) some = refl

pub parts_of-parts_text : (parts : List (List ℕ)) → All IsComponent parts → parts_of (parts_text parts) ≡ parts
parts_of-parts_text [] all = refl
parts_of-parts_text (part ∷ parts) all =
    let is : IsComponent part = All-head IsComponent part parts all in
    parts_of-part part (parts_text parts) is.not_empty (no_slash-part part is.no_slash) (first_slash-parts_text parts)
    ∙ ap (λ more. part ∷ more) (parts_of-parts_text parts (All-tail IsComponent part parts all))

pub parts_of-path_text : (parts : List (List ℕ)) → All IsComponent parts → parts_of (path_text parts) ≡ parts
parts_of-path_text [] all = refl
parts_of-path_text (part ∷ parts) all = parts_of-parts_text (part ∷ parts) all
