-- What a path holds of a range is what it holds of a wider one, without the revisions outside.
use Rattle.std.proofs.Common.{◌≡◌, ◌∙◌, ◌⊎◌, ℕ, ◌+◌, ◌-◌, ◌<◌, ◌≤◌, ◌&&◌, Bool, true, false, inl, inr, List, [], ◌∷◌, ◌++◌, Option, None, Some, ap, ap₂, append-nil, arith, filter, filter_map, if◌then◌else◌, nat_le, refl, sym}
use Rattle.std.specs.Prelude.{option_map}
use Rattle.std.specs.List.{cons_option}
use Rattle.std.proofs.lemmas.Bool.{and_right, cases_lt, le-leb, lt-leb}
use Rattle.std.proofs.lemmas.List.Elements.{filter_map-append}
use Rattle.svn_dump.specs.Dump.{DumpValue, history_in_bytes}
use Rattle.path_index.proofs.DownFrom.{down_from-append}
use Rattle.path_index.specs.Operative.{down_from}
use Rattle.path_index.specs.Range.{is_in_range}
use Rattle.query_answer.specs.Repo.{trees_in_bytes}
use Rattle.branch_answer.specs.Holding.{Holding, holding_at, those_held}
use Rattle.branch_answer.specs.HoldsLaw.{HoldsByRange}
use Rattle.branch_answer.proofs.HeldLines.{held}
use Rattle.branch_answer.proofs.Lists.{filter_map_down-none, filter_map_down-same}

module _ (how : ℕ → Option Holding) (range : ℕ × ℕ) where
  abbrev is_asked : ℕ → Bool
  is_asked rev = is_in_range (Some range) rev

  -- how a revision is held, if it is in the range
  abbrev how_asked : ℕ → Option Holding
  how_asked rev = if is_asked rev then how rev else None

  -- ---- one revision

  inside : (rev : ℕ) → range.0 ≤ rev → rev ≤ range.1 → is_asked rev ≡ true
  inside rev from to = ap₂ (λ a b. a && b) (le-leb range.0 rev from) (le-leb rev range.1 to)

  held-inside : (rev : ℕ) → range.0 ≤ rev → rev ≤ range.1 → held how_asked rev ≡ held how rev
  held-inside rev from to = ap (λ b. option_map (λ each. (rev, each)) (if b then how rev else None)) (inside rev from to)

  outside : (rev : ℕ) → (rev < range.0) ⊎ (range.1 < rev) → is_asked rev ≡ false
  outside rev (inl before) = ap (λ b. b && nat_le rev range.1) (lt-leb range.0 rev before)
  outside rev (inr after) = and_right (nat_le range.0 rev) (nat_le rev range.1) (lt-leb rev range.1 after)

  held-outside : (rev : ℕ) → (rev < range.0) ⊎ (range.1 < rev) → held how_asked rev ≡ None
  held-outside rev is = ap (λ b. option_map (λ each. (rev, each)) (if b then how rev else None)) (outside rev is)

  -- ---- lists of them

  filter-held : (revs : List ℕ) → filter (λ (one : ℕ × Holding). is_asked one.0) (filter_map (held how) revs) ≡ filter_map (held how_asked) revs
  filter-held [] = refl
  filter-held (rev ∷ revs) = by (how rev) (is_asked rev) refl (filter-held revs)
    where
      by : (each : Option Holding) (b : Bool) → is_asked rev ≡ b
          → filter (λ (one : ℕ × Holding). is_asked one.0) (filter_map (held how) revs) ≡ filter_map (held how_asked) revs
          → filter (λ (one : ℕ × Holding). is_asked one.0) (cons_option (option_map (λ one. (rev, one)) each) (filter_map (held how) revs))
          ≡ cons_option (option_map (λ one. (rev, one)) (if b then each else None)) (filter_map (held how_asked) revs)
      by None true is rest = rest
      by None false is rest = rest
      by (Some each) true is rest = rw is (ap (λ others. (rev, each) ∷ others) rest)
      by (Some each) false is rest = rw is rest

  -- those of the range
  held-range : those_held how_asked range ≡ those_held how range
  held-range =
      filter_map_down-same (held how_asked) (held how) (range.1 + 1 - range.0) range.1
      (λ rev to from. held-inside rev (omega (arith, to, from)) to)

  module _ (wider : ℕ × ℕ) (low : wider.0 ≤ range.0) (high : range.1 ≤ wider.1) where
    -- there is no revision in the range
    held-empty : range.1 < range.0 → those_held how_asked wider ≡ those_held how_asked range
    held-empty none =
        let count : range.1 + 1 - range.0 ≡ 0 = omega (arith, none) in
        filter_map_down-none (held how_asked) (wider.1 + 1 - wider.0) wider.1 (λ rev to from. held-outside rev (by rev (cases_lt rev range.0)))
        ∙ sym (ap (λ n. filter_map (held how_asked) (down_from n range.1)) count)
      where
        by : (rev : ℕ) → (rev < range.0) ⊎ (range.0 ≤ rev) → (rev < range.0) ⊎ (range.1 < rev)
        by rev (inl before) = inl before
        by rev (inr after) = inr (omega (arith, none, after))

    -- none of the revisions before the range, or after it, is in it
    held-some : range.0 ≤ range.1 → those_held how_asked wider ≡ those_held how_asked range
    held-some some =
        let newer = wider.1 - range.1 in
        let count = range.1 + 1 - range.0 in
        let older = range.0 - wider.0 in
        let last : wider.1 - newer ≡ range.1 = omega (arith, high) in
        let found = filter_map (held how_asked) in
        ap found (down_from-append newer (count + older) (wider.1 + 1 - wider.0) wider.1 (omega (arith, low, high, some)))
        ∙ filter_map-append (held how_asked) (down_from newer wider.1) (down_from (count + older) (wider.1 - newer))
        ∙ ap₂ (λ front top. front ++ found (down_from (count + older) top))
        (filter_map_down-none (held how_asked) newer wider.1 (λ rev to from. held-outside rev (inr (omega (arith, high, to, from))))) last
        ∙ ap found (down_from-append count older (count + older) range.1 refl)
        ∙ filter_map-append (held how_asked) (down_from count range.1) (down_from older (range.1 - count))
        ∙ ap (λ back. found (down_from count range.1) ++ back)
        (filter_map_down-none (held how_asked) older (range.1 - count) (λ rev to from. held-outside rev (inl (omega (arith, some, low, to, from)))))
        ∙ append-nil (found (down_from count range.1))

    those_held-range : those_held how range ≡ filter (λ (one : ℕ × Holding). is_asked one.0) (those_held how wider)
    those_held-range = sym (filter-held (down_from (wider.1 + 1 - wider.0) wider.1) ∙ by (cases_lt range.1 range.0) ∙ held-range)
      where
        by : (range.1 < range.0) ⊎ (range.0 ≤ range.1) → those_held how_asked wider ≡ those_held how_asked range
        by (inl none) = held-empty none
        by (inr some) = held-some some

pub HoldsByRange-dump : (dump : DumpValue) → HoldsByRange (history_in_bytes dump) (trees_in_bytes dump)
HoldsByRange-dump dump peg value range wider = those_held-range (holding_at (history_in_bytes dump) (trees_in_bytes dump) peg value) range wider
