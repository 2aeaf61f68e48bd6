-- How many steps it takes to find a name in a map.
use Rattle.block_map.proofs.Common.{◌≡◌, ℕ, zero, suc, ◌<◌, ◌≤◌, ◌%◌, ◌/◌, ◌==◌, Bool, true, false, List, Option, Some, None, if◌then◌else◌, refl, sym, ap, ◌∙◌, arith, slice_get, child_map_at, found_within, child_in, AreOrdered, NodeId, ChildMap, Leaf, Branch, ChildMapId}

-- what a map gives for a name, given what a smaller map gives for the bits that are left
abbrev pub found_in_map : Option ChildMap → (ℕ → ℕ → Option NodeId) → ℕ → Option NodeId
found_in_map None smaller bits = None
found_in_map (Some (Leaf left node)) smaller bits = if left == bits then Some node else None
found_in_map (Some (Branch even odd)) smaller bits = if bits % 2 == 0 then smaller even.0 (bits / 2) else smaller odd.0 (bits / 2)

-- a step
pub found_within-suc : (maps : List ChildMap) (steps number bits : ℕ)
    → found_within maps (suc steps) number bits ≡ found_in_map (child_map_at maps number) (found_within maps steps) bits
unfolding found_within
found_within-suc maps steps number bits = by (child_map_at maps number)
  where
    by : (map : Option ChildMap) → elim map [
      | None ↦ None
      | Some (Leaf left node) ↦ if left == bits then Some node else None
      | Some (Branch even odd) ↦ if bits % 2 == 0 then found_within maps steps even.0 (bits / 2) else found_within maps steps odd.0 (bits / 2)
    ] ≡ found_in_map map (found_within maps steps) bits
    by None = refl
    by (Some (Leaf left node)) = refl
    by (Some (Branch even odd)) = refl

-- the empty map has no name
pub found_within-empty : (maps : List ChildMap) (steps bits : ℕ) → found_within maps steps 0 bits ≡ None
unfolding found_within
found_within-empty maps zero bits = refl
found_within-empty maps (suc steps) bits = refl

-- as many steps as the number are enough
pub found_within-more : (maps : List ChildMap) → AreOrdered maps → (steps more number bits : ℕ) → number ≤ steps → number ≤ more
    → found_within maps steps number bits ≡ found_within maps more number bits
found_within-more maps ordered steps more zero bits enough other = found_within-empty maps steps bits ∙ sym (found_within-empty maps more bits)
found_within-more maps ordered zero more (suc index) bits enough other = absurd (omega (arith, enough))
found_within-more maps ordered (suc steps) zero (suc index) bits enough other = absurd (omega (arith, other))
found_within-more maps ordered (suc steps) (suc more) (suc index) bits enough other =
    found_within-suc maps steps (suc index) bits
    ∙ by (λ number rest before. found_within-more maps ordered steps more number rest (omega (arith, before, enough)) (omega (arith, before, other)))
    (slice_get maps index) refl
    ∙ sym (found_within-suc maps more (suc index) bits)
  where
    by : ((number rest : ℕ) → number ≤ index → found_within maps steps number rest ≡ found_within maps more number rest)
        → (map : Option ChildMap) → slice_get maps index ≡ map → found_in_map map (found_within maps steps) bits ≡ found_in_map map (found_within maps more) bits
    by smaller None at = refl
    by smaller (Some (Leaf left node)) at = refl
    by smaller (Some (Branch even odd)) at =
        let (even_before, odd_before) = ordered index even odd at in
        λ i. if bits % 2 == 0 then smaller even.0 (bits / 2) even_before i else smaller odd.0 (bits / 2) odd_before i

-- what a map gives for a name
found_within-map : (maps : List ChildMap) → AreOrdered maps → (number bits : ℕ)
    → found_within maps number number bits ≡ found_in_map (child_map_at maps number) (λ smaller rest. found_within maps smaller smaller rest) bits
found_within-map maps ordered zero bits = found_within-empty maps 0 bits
found_within-map maps ordered (suc index) bits = found_within-suc maps index (suc index) bits ∙ by (slice_get maps index) refl
  where
    by : (map : Option ChildMap) → slice_get maps index ≡ map
        → found_in_map map (found_within maps index) bits ≡ found_in_map map (λ smaller rest. found_within maps smaller smaller rest) bits
    by None at = refl
    by (Some (Leaf left node)) at = refl
    by (Some (Branch even odd)) at =
        let (even_before, odd_before) = ordered index even odd at in
        λ i. if bits % 2 == 0
        then found_within-more maps ordered index even.0 even.0 (bits / 2) even_before (omega arith) i
        else found_within-more maps ordered index odd.0 odd.0 (bits / 2) odd_before (omega arith) i

pub child_in-map : (maps : List ChildMap) → AreOrdered maps → (id : ChildMapId) (bits : ℕ)
    → child_in maps id bits ≡ found_in_map (child_map_at maps id.0) (λ smaller rest. found_within maps smaller smaller rest) bits
child_in-map maps ordered id bits = found_within-map maps ordered id.0 bits

-- by cases of the map
pub child_in-None : (maps : List ChildMap) (id : ChildMapId) (bits : ℕ) → AreOrdered maps → child_map_at maps id.0 ≡ None → child_in maps id bits ≡ None
child_in-None maps id bits ordered at =
    child_in-map maps ordered id bits ∙ ap (λ map. found_in_map map (λ smaller rest. found_within maps smaller smaller rest) bits) at

pub child_in-Leaf : (maps : List ChildMap) (id : ChildMapId) (bits left : ℕ) (node : NodeId) → AreOrdered maps → child_map_at maps id.0 ≡ Some (Leaf left node)
    → child_in maps id bits ≡ (if left == bits then Some node else None)
child_in-Leaf maps id bits left node ordered at =
    child_in-map maps ordered id bits ∙ ap (λ map. found_in_map map (λ smaller rest. found_within maps smaller smaller rest) bits) at

pub child_in-Branch : (maps : List ChildMap) (id : ChildMapId) (bits : ℕ) (even odd : ChildMapId) → AreOrdered maps → child_map_at maps id.0 ≡ Some (Branch even odd)
    → child_in maps id bits ≡ child_in maps (if bits % 2 == 0 then even else odd) (bits / 2)
child_in-Branch maps id bits even odd ordered at =
    child_in-map maps ordered id bits ∙ ap (λ map. found_in_map map (λ smaller rest. found_within maps smaller smaller rest) bits) at ∙ by (bits % 2 == 0)
  where
    by : (is_even : Bool) → (if is_even then child_in maps even (bits / 2) else child_in maps odd (bits / 2)) ≡ child_in maps (if is_even then even else odd) (bits / 2)
    by true = refl
    by false = refl

-- the maps of a branch have smaller numbers
pub child_map_at-before : (maps : List ChildMap) (number bits : ℕ) (even odd : ChildMapId) → AreOrdered maps → child_map_at maps number ≡ Some (Branch even odd)
    → (if bits % 2 == 0 then even else odd).0 < number
child_map_at-before maps zero bits even odd ordered at = cc
child_map_at-before maps (suc index) bits even odd ordered at = by (bits % 2 == 0)
  where
    by : (is_even : Bool) → (if is_even then even else odd).0 < suc index
    by true = omega (arith, (ordered index even odd at).0)
    by false = omega (arith, (ordered index even odd at).1)
