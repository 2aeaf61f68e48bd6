-- The locations of a path in its operative revisions, by its segments and their operative revisions.
use Rattle.query_answer.proofs.Common.{◌≡◌, ℕ, zero, suc, ◌+◌, ◌-◌, ◌<◌, ◌≤◌, Bool, true, false, if◌then◌else◌, List, [], ◌∷◌, ◌++◌, Option, Some, None, All, drop, filter, get_or, length, map, reverse, option_map, slice_get, take, refl, sym, ap, ap₂, ◌∙◌, append-nil, arith, filter_map, option_and_then, cons_option, range_with_len, map-id, reverse-append, take_more, All-append, All-cons, All-nil, filter_map-append, History, rename_history, location, Tree, rename_tree, down_from, hit_at, is_operative, operative_from, operative_in, operative_of, AreSegments, IsSegment, Segment, Hit, is_operative-rename, found_in, operative_location}
use Rattle.std.proofs.lemmas.List.FromFn.{map-range_with_len_more}
use Rattle.path_index.proofs.DownFrom.{down_from-append}
use Rattle.svn_dump.proofs.Renaming.Locations.{location-rename}
use Rattle.svn_dump.proofs.Renaming.Paths.{KeepsSame}

-- ---- lists the other way round

reverse-cons : {A : Type 0} (x : A) (xs : List A) → reverse (x ∷ xs) ≡ reverse xs ++ x ∷ []
reverse-cons x xs = reverse-append (x ∷ []) xs

-- what is found of the elements the other way round
filter_map-reverse : {A B : Type 0} (f : A → Option B) (xs : List A) → reverse (filter_map f xs) ≡ filter_map f (reverse xs)
filter_map-reverse f [] = refl
filter_map-reverse {B = B} f (x ∷ xs) =
    by_found (f x) (filter_map f xs) ∙ ap (λ found. found ++ cons_option (f x) []) (filter_map-reverse f xs)
    ∙ sym (ap (filter_map f) (reverse-cons x xs) ∙ filter_map-append f (reverse xs) (x ∷ []))
  where
    by_found : (o : Option B) (ys : List B) → reverse (cons_option o ys) ≡ reverse ys ++ cons_option o []
    by_found None ys = sym (append-nil (reverse ys))
    by_found (Some y) ys = reverse-cons y ys

-- the numbers from 0 to n, downwards and upwards
reverse-down_from : (n : ℕ) → reverse (down_from (suc n) n) ≡ range_with_len 0 (suc n)
reverse-down_from zero = refl
reverse-down_from (suc n) =
    let e : suc n + 1 ≡ suc (suc n) = omega arith in
    reverse-cons (suc n) (down_from (suc n) n) ∙ ap (λ front. front ++ suc n ∷ []) (reverse-down_from n)
    ∙ sym (one_more (suc n)) ∙ ap (range_with_len 0) e
  where
    one_more : (k : ℕ) → range_with_len 0 (k + 1) ≡ range_with_len 0 k ++ k ∷ []
    one_more k = sym (map-id (range_with_len 0 (k + 1))) ∙ map-range_with_len_more (λ j. j) 0 k k (omega arith) ∙ ap (λ front. front ++ k ∷ []) (map-id (range_with_len 0 k))

-- what is found of one element more
pub filter_map_more : {A B : Type 0} (f : A → Option B) (xs : List A) (i : ℕ) (d : A) → i < length xs → (found more : List B) → found ≡ filter_map f (take i xs)
    → more ≡ found ++ cons_option (f (get_or xs i d)) [] → more ≡ filter_map f (take (i + 1) xs)
filter_map_more f xs i d within found more so next =
    next ∙ ap (λ front. front ++ cons_option (f (get_or xs i d)) []) so
    ∙ sym (ap (filter_map f) (take_more xs i d within) ∙ filter_map-append f (take i xs) (get_or xs i d ∷ []))

-- the element at which the rest of a list begins
slice_get_drop : {A : Type 0} (all : List A) (n : ℕ) (x : A) (xs : List A) → drop n all ≡ x ∷ xs → slice_get all n ≡ Some x
slice_get_drop [] zero x xs so = cc
slice_get_drop [] (suc n) x xs so = cc
slice_get_drop (y ∷ all) zero x xs so = cc
slice_get_drop (y ∷ all) (suc n) x xs so = slice_get_drop all n x xs so

drop_rest : {A : Type 0} (all : List A) (n : ℕ) (x : A) (xs : List A) → drop n all ≡ x ∷ xs → drop (suc n) all ≡ xs
drop_rest [] zero x xs so = cc
drop_rest [] (suc n) x xs so = cc
drop_rest (y ∷ all) zero x xs so = cc
drop_rest (y ∷ all) (suc n) x xs so = drop_rest all n x xs so

-- what is found at an operative revision of a segment
abbrev pub found_of_hit : {C X : Type 0} → (List C → ℕ → Option X) → List (Segment C) → Hit → Option X
found_of_hit find all hit = option_and_then (λ path. find path hit.rev) (option_and_then (λ segment. segment.path) (slice_get all hit.segment))

module _ {C M X : Type 0} (same : C → C → Bool) (history : History C M) (trees : List (Tree C M)) (located : ℕ → Option (List C)) (find : List C → ℕ → Option X) where
  -- what is found in a revision
  abbrev pub found_at : ℕ → Option X
  found_at rev = option_and_then (λ path. find path rev) (option_and_then (λ path. if is_operative same history trees path rev then Some path else None) (located rev))

  -- nothing, where the path was nowhere
  none_down : (n top : ℕ) → n ≤ top + 1 → ((rev : ℕ) → rev ≤ top → top < rev + n → located rev ≡ None) → filter_map found_at (down_from n top) ≡ []
  none_down zero top few nowhere = refl
  none_down (suc zero) top few nowhere = rw (nowhere top (omega arith) (omega arith)) refl
  none_down (suc (suc n)) zero few nowhere = absurd (omega arith)
  none_down (suc (suc n)) (suc top) few nowhere =
      rw (nowhere (suc top) (omega arith) (omega arith)) (none_down (suc n) top (omega arith) (λ rev up within. nowhere rev (omega arith) (omega arith)))

  -- what is found where the path was at one located
  module _ (all : List (Segment C)) (number : ℕ) (segment : Segment C) (path : List C) (is : slice_get all number ≡ Some segment) (at : segment.path ≡ Some path) where
    here_at : (rev : ℕ) → found_of_hit find all (hit_at number rev) ≡ find path rev
    here_at rev = rw (is, at) refl

    by_test : (rev : ℕ) (revs others : List ℕ) → filter_map (found_of_hit find all) (map (hit_at number) (filter (is_operative same history trees path) revs)) ≡ filter_map found_at others
        → located rev ≡ Some path → (b : Bool) → is_operative same history trees path rev ≡ b
        → filter_map (found_of_hit find all) (map (hit_at number) (filter (is_operative same history trees path) (rev ∷ revs))) ≡ filter_map found_at (rev ∷ others)
    by_test rev revs others rest there true operative = rw (there, operative, here_at rev, rest) refl
    by_test rev revs others rest there false not_operative = rw (there, not_operative, rest) refl

    here_down : (n top : ℕ) → n ≤ top + 1 → ((rev : ℕ) → rev ≤ top → top < rev + n → located rev ≡ Some path)
        → filter_map (found_of_hit find all) (map (hit_at number) (filter (is_operative same history trees path) (down_from n top))) ≡ filter_map found_at (down_from n top)
    here_down zero top few stays = refl
    here_down (suc zero) top few stays = by_test top [] [] refl (stays top (omega arith) (omega arith)) (is_operative same history trees path top) refl
    here_down (suc (suc n)) zero few stays = absurd (omega arith)
    here_down (suc (suc n)) (suc top) few stays =
        by_test (suc top) (down_from (suc n) top) (down_from (suc n) top) (here_down (suc n) top (omega arith) (λ rev up within. stays rev (omega arith) (omega arith)))
        (stays (suc top) (omega arith) (omega arith)) (is_operative same history trees path (suc top)) refl

  -- in one segment
  in_segment : (all : List (Segment C)) (number : ℕ) (segment : Segment C) → slice_get all number ≡ Some segment → IsSegment located segment → (path : Option (List C)) → segment.path ≡ path
      → filter_map (found_of_hit find all) (map (hit_at number) (operative_in same history trees segment path)) ≡ filter_map found_at (down_from (segment.hi + 1 - segment.lo) segment.hi)
  in_segment all number segment is so None at =
      sym (none_down (segment.hi + 1 - segment.lo) segment.hi (omega arith) (λ rev up within. so.stays rev (omega (arith, so.ordered)) up ∙ at))
  in_segment all number segment is so (Some path) at =
      here_down all number segment path is at (segment.hi + 1 - segment.lo) segment.hi (omega arith) (λ rev up within. so.stays rev (omega (arith, so.ordered)) up ∙ at)

  -- from the first of these segments on
  from_segments : (all : List (Segment C)) (number bound top : ℕ) (segments : List (Segment C)) → drop number all ≡ segments → AreSegments located bound segments
      → (0 < bound → top + 1 ≡ bound) → filter_map (found_of_hit find all) (operative_from same history trees number segments) ≡ filter_map found_at (down_from bound top)
  unfolding operative_from
  from_segments all number zero top [] so are last = refl
  from_segments all number (suc bound) top [] so are last =
      sym (none_down (suc bound) top (omega (arith, last (omega arith))) (λ rev up within. are rev (omega (arith, last (omega arith)))))
  from_segments all number bound top (segment ∷ segments) so are last =
      let ordered = are.1.ordered in
      let ends : top ≡ segment.hi = omega (arith, are.0, last (omega (arith, are.0))) in
      let length : bound ≡ (segment.hi + 1 - segment.lo) + segment.lo = omega (arith, are.0, ordered) in
      let more : number + 1 ≡ suc number = omega arith in
      let here = in_segment all number segment (slice_get_drop all number segment segments so) are.1 segment.path refl in
      let rest = from_segments all (number + 1) segment.lo (top - (segment.hi + 1 - segment.lo)) segments (ap (λ n. drop n all) more ∙ drop_rest all number segment segments so) are.2
      (λ some. omega (arith, ends, ordered)) in
      filter_map-append (found_of_hit find all) (map (hit_at number) (operative_in same history trees segment segment.path)) (operative_from same history trees (number + 1) segments)
      ∙ ap₂ (λ front back. front ++ back) (here ∙ ap (λ k. filter_map found_at (down_from (segment.hi + 1 - segment.lo) k)) (sym ends)) rest
      ∙ sym (ap (filter_map found_at) (down_from-append (segment.hi + 1 - segment.lo) segment.lo bound top length)
      ∙ filter_map-append found_at (down_from (segment.hi + 1 - segment.lo) top) (down_from segment.lo (top - (segment.hi + 1 - segment.lo))))

  -- what is found at the operative revisions of a path's segments is what is found in each revision, the newest first
  pub found-operative_of : (top : ℕ) (segments : List (Segment C)) → AreSegments located (top + 1) segments
      → reverse (filter_map (found_of_hit find segments) (operative_of same history trees segments)) ≡ filter_map found_at (range_with_len 0 (top + 1))
  found-operative_of top segments are =
      let e : top + 1 ≡ suc top = omega arith in
      ap reverse (from_segments segments 0 (top + 1) top segments refl are (λ some. refl)) ∙ filter_map-reverse found_at (down_from (top + 1) top)
      ∙ ap (λ n. filter_map found_at (reverse (down_from n top))) e ∙ ap (filter_map found_at) (reverse-down_from top)
      ∙ ap (λ n. filter_map found_at (range_with_len 0 n)) (sym e)

-- ---- the location in each operative revision

module _ {C : Type 0} (all : List (Segment C)) where
  -- the segment of the revision has a path
  abbrev pub HasLocation : Hit → Type 0
  HasLocation hit =
      (path : List C) × (option_and_then (λ segment. segment.path) (slice_get all hit.segment) ≡ Some path)

  module _ {M : Type 0} (same : C → C → Bool) (history : History C M) (trees : List (Tree C M)) where
    each_in : (number : ℕ) (path : List C)
        → option_and_then (λ segment. segment.path) (slice_get all number) ≡ Some path
        → (revs : List ℕ) → All HasLocation (map (hit_at number) revs)
    each_in number path at [] = All-nil HasLocation
    each_in number path at (rev ∷ revs) =
        All-cons HasLocation (hit_at number rev) (map (hit_at number) revs) (path, at) (each_in number path at revs)

    each_of : (number : ℕ) (segment : Segment C) → slice_get all number ≡ Some segment
        → (path : Option (List C)) → segment.path ≡ path
        → All HasLocation (map (hit_at number) (operative_in same history trees segment path))
    each_of number segment is None at = All-nil HasLocation
    each_of number segment is (Some path) at =
        each_in number path (ap (option_and_then (λ each. each.path)) is ∙ at)
        (filter (is_operative same history trees path) (down_from (segment.hi + 1 - segment.lo) segment.hi))

    each_from : (number : ℕ) (segments : List (Segment C)) → drop number all ≡ segments
        → All HasLocation (operative_from same history trees number segments)
    unfolding operative_from
    each_from number [] so = All-nil HasLocation
    each_from number (segment ∷ segments) so =
        let more : number + 1 ≡ suc number = omega arith in
        All-append HasLocation (map (hit_at number) (operative_in same history trees segment segment.path))
        (operative_from same history trees (number + 1) segments)
        (each_of number segment (slice_get_drop all number segment segments so) segment.path refl)
        (each_from (number + 1) segments (ap (λ n. drop n all) more ∙ drop_rest all number segment segments so))

    -- that of each operative revision of the segments has one
    pub operative_of-located : All HasLocation (operative_of same history trees all)
    operative_of-located = each_from 0 all refl

-- ---- renaming

module _ {C D M N X : Type 0} (name : C → D) (text : M → N) (sameC : C → C → Bool) (sameD : D → D → Bool) (alike : KeepsSame name sameC sameD)
    (history : History C M) (trees : List (Tree C M)) (path : List C) (peg : ℕ) (find : List D → ℕ → Option X) where
  -- a revision that is operative on a renamed located
  by_location : (rev : ℕ) (located : Option (List C))
      → option_and_then (λ each. find each rev) (option_and_then (λ each. if is_operative sameD (rename_history name text history) (map (rename_tree name text) trees) each rev then Some each else None) (option_map (map name) located))
      ≡ option_and_then (λ each. find (map name each) rev) (option_and_then (λ each. if is_operative sameC history trees each rev then Some each else None) located)
  by_location rev None = refl
  by_location rev (Some located) =
      ap (λ b. option_and_then (λ each. find each rev) (if b then Some (map name located) else None)) (is_operative-rename name text sameC sameD alike history trees located rev)
      ∙ by_test (is_operative sameC history trees located rev)
    where
      by_test : (b : Bool) → option_and_then (λ each. find each rev) (if b then Some (map name located) else None) ≡ option_and_then (λ each. find (map name each) rev) (if b then Some located else None)
      by_test true = refl
      by_test false = refl

  -- what is found at the locations of a renamed path is what is found at the renamed locations
  pub found_in-rename : found_in sameD (rename_history name text history) (map (rename_tree name text) trees) (map name path) peg find
      ≡ found_in sameC history trees path peg (λ located. find (map name located))
  found_in-rename = λ i. filter_map (λ rev. renamed rev i) (range_with_len 0 (peg + 1))
    where
      renamed : (rev : ℕ) → option_and_then (λ each. find each rev) (operative_location sameD (rename_history name text history) (map (rename_tree name text) trees) (map name path) peg rev)
          ≡ option_and_then (λ each. find (map name each) rev) (operative_location sameC history trees path peg rev)
      renamed rev =
          ap (λ located. option_and_then (λ each. find each rev) (option_and_then (λ each. if is_operative sameD (rename_history name text history) (map (rename_tree name text) trees) each rev then Some each else None) located))
          (location-rename name text sameC sameD alike trees path peg rev)
          ∙ by_location rev (location sameC trees path peg rev)
