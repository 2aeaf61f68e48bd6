-- The names of maps of children.
use Rattle.block_map.proofs.Common.{◌≡◌, ℕ, zero, suc, ◌+◌, ◌^◌, ◌<◌, ◌≤◌, ◌%◌, ◌/◌, ◌==◌, ◌⊎◌, List, None, Some, inl, inr, sym, ap, subst, ◌∙◌, arith, cases_eq, cond-false, cond-true, eq-eqb, ne_eqb, AreOrdered, child_in, child_map_at, ChildMap, ChildMapId, Leaf, Branch, NodeId}
use Rattle.std.specs.List.{Contains}
use Rattle.std.specs.Prelude.{◌*◌}
use Rattle.block_map.specs.Children.{AreKept, HaveMapNames}
use Rattle.block_map.proofs.ChildMapSteps.{child_in-None, child_in-Leaf, child_in-Branch}

-- nothing is a name of the empty map
pub HaveMapNames-None : (maps : List ChildMap) (map : ChildMapId) (low scale : ℕ) (names : List ℕ) → AreOrdered maps → child_map_at maps map.0 ≡ None
    → HaveMapNames maps map low scale names
HaveMapNames-None maps map low scale names ordered at bits node is small = let none = child_in-None maps map bits ordered at in cc

-- a leaf has its name alone
pub HaveMapNames-Leaf : (maps : List ChildMap) (map : ChildMapId) (low scale left : ℕ) (node : NodeId) (names : List ℕ) → AreOrdered maps
    → child_map_at maps map.0 ≡ Some (Leaf left node) → (low + scale * left < 2 ^ 32 → Contains names (low + scale * left))
    → HaveMapNames maps map low scale names
HaveMapNames-Leaf maps map low scale left node names ordered at has bits other is small =
    let leaf = child_in-Leaf maps map bits left node ordered at in
    elim (cases_eq left bits) [
      | inl same ↦
          let P : ℕ → Type 0 = λ each. low + scale * each < 2 ^ 32 → Contains names (low + scale * each) in
          subst P same has small
      | inr not_same ↦ let none = leaf ∙ cond-false (left == bits) (Some node) None (ne_eqb left bits not_same) in cc
    ]

-- a branch has the names of its two maps
module _ (maps : List ChildMap) (map : ChildMapId) (low scale next : ℕ) (even odd : ChildMapId) (before names : List ℕ) (ordered : AreOrdered maps)
    (at : child_map_at maps map.0 ≡ Some (Branch even odd)) (next_is : (bits : ℕ) → scale * (2 * bits) < 2 ^ 32 → next * bits ≡ scale * (2 * bits))
    (even_has : HaveMapNames maps even low next before) (kept : AreKept before names)
    (odd_has : low + scale < 2 ^ 32 → HaveMapNames maps odd (low + scale) next names) where
  on_even : (bits half : ℕ) (node : NodeId) → bits ≡ 2 * half → child_in maps even half ≡ Some node → low + scale * bits < 2 ^ 32 → Contains names (low + scale * bits)
  on_even bits half node is found small =
      let product : scale * bits ≡ scale * (2 * half) = ap (λ each. scale * each) is in
      let same = next_is half (omega (arith, product, small)) in
      let number : low + next * half ≡ low + scale * bits = omega (arith, product, same) in
      kept (low + scale * bits) (subst (Contains before) number (even_has half node found (omega (arith, number, small))))

  on_odd : (bits half : ℕ) (node : NodeId) → bits ≡ 2 * half + 1 → child_in maps odd half ≡ Some node → low + scale * bits < 2 ^ 32 → Contains names (low + scale * bits)
  on_odd bits half node is found small =
      let product : scale * bits ≡ scale * (2 * half + 1) = ap (λ each. scale * each) is in
      let same = next_is half (omega (arith, product, small)) in
      let number : low + scale + next * half ≡ low + scale * bits = omega (arith, product, same) in
      subst (Contains names) number (odd_has (omega (arith, product, small)) half node found (omega (arith, number, small)))

  pub HaveMapNames-Branch : HaveMapNames maps map low scale names
  HaveMapNames-Branch bits node is small =
      let branch = sym (child_in-Branch maps map bits even odd ordered at) ∙ is in
      elim (cases_eq (bits % 2) 0) [
        | inl low_bit ↦
            let side = cond-true (bits % 2 == 0) even odd (eq-eqb (bits % 2) 0 low_bit) in
            on_even bits (bits / 2) node (omega (arith, low_bit)) (subst (λ each. child_in maps each (bits / 2) ≡ Some node) side branch) small
        | inr low_bit ↦
            let side = cond-false (bits % 2 == 0) even odd (ne_eqb (bits % 2) 0 low_bit) in
            on_odd bits (bits / 2) node (omega (arith, low_bit)) (subst (λ each. child_in maps each (bits / 2) ≡ Some node) side branch) small
      ]

-- what the bits after the lowest one count
pub next_scale-is : (scale next bits : ℕ) → (next ≡ 2 * scale) ⊎ ((next ≡ 2 ^ 32) × (2 ^ 32 ≤ 2 * scale)) → scale * (2 * bits) < 2 ^ 32 → next * bits ≡ scale * (2 * bits)
next_scale-is scale next bits (inl is) small = ap (λ each. each * bits) is ∙ omega arith
next_scale-is scale next zero (inr past) small = omega arith
next_scale-is scale next (suc bits) (inr past) small = absurd (omega (arith, past.1, small))
