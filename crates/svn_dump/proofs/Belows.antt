-- Paths that are the same, and paths at or under another, under a test that decides equality.
use Rattle.svn_dump.proofs.Common.{◌≡◌, Bool, false, List, [], ◌∷◌, ◌++◌, append-nil, refl, sym, ap, ◌∙◌, arith, option_map_or, below, same_path, IsSame, IsSame-same_path, append-from_below, below-append, same_path-is}
use Rattle.std.proofs.Common.{None, Some}

module _ {C : Type 0} (same : C → C → Bool) (is : IsSame same) where
  -- ---- the same path

  -- the test does not mind the order of the two
  pub same_path_comm : (p q : List C) → same_path same p q ≡ same_path same q p
  same_path_comm p q = grind (arith, (same_path-is is p q).0, (same_path-is is q p).0, (IsSame-same_path is).itself p)

  -- a front that both have makes no difference
  pub same_path-append : (front p q : List C) → same_path same (front ++ p) (front ++ q) ≡ same_path same p q
  same_path-append [] p q = refl
  same_path-append (f ∷ front) p q = rw (is.itself f) (same_path-append front p q)

  -- ---- at or under a path

  -- a path of which nothing is left is the front
  pub path_from_below : (front path : List C) → below same front path ≡ Some [] → front ≡ path
  path_from_below [] path e = grind arith
  path_from_below (f ∷ front) [] e = grind arith
  path_from_below (f ∷ front) (c ∷ path) e = grind (arith, is.true_is f c, path_from_below front path)

  -- a path that is not under the front is neither the front nor another path under it
  pub other_from_below : (front path rest : List C) → below same front path ≡ None → same_path same (front ++ rest) path ≡ false
  other_from_below front path rest e = grind (arith, (same_path-is is (front ++ rest) path).0, below-append is front rest)

  -- two paths under one front are the same where what is left of them is
  pub same_path-below : (front path more rest : List C) → below same front path ≡ Some rest
      → same_path same (front ++ more) path ≡ same_path same more rest
  same_path-below front path more rest e = grind (arith, append-from_below is front path rest, same_path-append front more rest)

  -- a path that is not under a front is none of those under it, the other way round
  pub apart_from_below : (front path rest : List C) → below same front path ≡ None → same_path same path (front ++ rest) ≡ false
  apart_from_below front path rest e = same_path_comm path (front ++ rest) ∙ other_from_below front path rest e

  -- a path that went from under one front to under another is at a place there where it was at the place's source
  pub same_path_moved : (from path source at more rest : List C) → below same from source ≡ Some more → below same path at ≡ Some rest
      → same_path same (path ++ more) at ≡ same_path same source (from ++ rest)
  same_path_moved from path source at more rest taken under =
      same_path-below path at more rest under ∙ sym (same_path-append from more rest)
      ∙ ap (λ p. same_path same p (from ++ rest)) (sym (append-from_below is from source more taken))

  -- a path is the front where nothing is left of it under the front
  pub same_path_front : (front path rest : List C) → below same front path ≡ Some rest → same_path same path front ≡ same_path same rest []
  same_path_front front path rest e =
      ap (λ p. same_path same p front) (append-from_below is front path rest e)
      ∙ ap (same_path same (front ++ rest)) (sym (append-nil front)) ∙ same_path-append front rest []

  -- a path that is not under the front is not the front
  pub same_path_apart : (front path : List C) → below same front path ≡ None → same_path same path front ≡ false
  same_path_apart front path e = ap (same_path same path) (sym (append-nil front)) ∙ apart_from_below front path [] e

  -- whether a path is the front, by what is left of it
  pub same_path_by_below : (front path : List C)
      → same_path same path front ≡ option_map_or (λ rest. same_path same rest []) (below same front path) false
  same_path_by_below front path = grind (arith, same_path_front front path, same_path_apart front path)
