-- The first revisions of a history: their trees, origins and locations are those of the whole history.
use Rattle.svn_dump.proofs.Common.{◌≡◌, ℕ, ◌+◌, ◌<◌, ◌≤◌, Bool, List, take, drop, length, sym, ap, ◌∙◌, arith, length-take-le, History, origin_of, location, entry_at, is_there, tree_of, trees_of}
use Rattle.std.proofs.Common.{option_and_then}
use Rattle.std.proofs.lemmas.List.{take-append-drop}
use Rattle.svn_dump.proofs.Locations.{location_agree}
use Rattle.svn_dump.proofs.Origins.{OriginsFall-trees_of}
use Rattle.svn_dump.proofs.Revisions.{tree_of-front}

module _ {C M : Type 0} (same : C → C → Bool) (history : History C M) (last : ℕ) (within : last < length history) where
  abbrev front : History C M
  front = take (last + 1) history

  -- their trees are those of the whole history
  pub tree_of-take : (rev : ℕ) → rev ≤ last → tree_of (trees_of same front) rev ≡ tree_of (trees_of same history) rev
  tree_of-take rev before =
      sym (tree_of-front same front (drop (last + 1) history) rev (omega (arith, length-take-le (last + 1) history (omega arith))))
      ∙ ap (λ whole. tree_of (trees_of same whole) rev) (take-append-drop (last + 1) history)

  -- so the same paths exist in them
  pub is_there-take : (path : List C) (rev : ℕ) → rev ≤ last
      → is_there same (tree_of (trees_of same front) rev) path ≡ is_there same (tree_of (trees_of same history) rev) path
  is_there-take path rev before = ap (λ tree. is_there same tree path) (tree_of-take rev before)

  -- the origins
  pub origin_of-take : (path : List C) (rev : ℕ) → rev ≤ last → origin_of same (trees_of same front) path rev ≡ origin_of same (trees_of same history) path rev
  origin_of-take path rev before = ap (λ tree. option_and_then (λ entry. entry.origin) (entry_at same tree path)) (tree_of-take rev before)

  -- the locations
  pub location-take : (path : List C) (peg rev : ℕ) → peg ≤ last
      → location same (trees_of same front) path peg rev ≡ location same (trees_of same history) path peg rev
  location-take path peg rev before =
      location_agree same (trees_of same front) (trees_of same history) (OriginsFall-trees_of same front) last tree_of-take path peg rev before
