-- What the maps of children say of a name as maps are added.
use Rattle.block_map.proofs.Common.{◌≡◌, ◌≢◌, ℕ, zero, suc, ◌+◌, ◌<◌, ◌≤◌, ◌%◌, ◌/◌, ◌==◌, Bool, true, false, List, [], ◌∷◌, ◌++◌, Option, Some, None, Result, Ok, Err, OnErr, OnOk, length, if◌then◌else◌, inl, inr, refl, sym, ap, subst, ◌∙◌, add-one, arith, cases_eq, eq-eqb, ne_eqb, slice_get_within, slice_get-push, Extends, AreOrdered, HaveNodesBelow, IsOrderedAfter, HasOne, HasSides, HasTwo, SetsChild, child_in, found_within, leaf_of, child_map_at, sides_of, with_name, NodeId, ChildMap, Leaf, Branch, ChildMapId}
use Rattle.block_map.proofs.GrownTries.{Extends-none, child_in-grown, slice_get-grown, slice_get-last}
use Rattle.block_map.proofs.ChildMapSteps.{child_in-None, child_in-Leaf, child_in-Branch, found_within-empty}

-- ---- maps as functions of the bits of a name

-- no name
abbrev pub no_name : ℕ → Option NodeId
no_name name = None

-- numbers with the same lowest bit are the same where the other bits are
eqb-halves : (name bits : ℕ) → name % 2 ≡ bits % 2 → (name / 2 == bits / 2) ≡ (name == bits)
eqb-halves name bits same =
    elim (cases_eq name bits) [
      | inl is ↦ eq-eqb (name / 2) (bits / 2) (ap (λ each. each / 2) is) ∙ sym (eq-eqb name bits is)
      | inr not_is ↦ ne_eqb (name / 2) (bits / 2) (λ halves. not_is (omega (arith, same, halves))) ∙ sym (ne_eqb name bits not_is)
    ]

-- and not where the lowest bits differ
eqb-other_bit : (name bits : ℕ) → name % 2 ≢ bits % 2 → (name == bits) ≡ false
eqb-other_bit name bits differ = ne_eqb name bits (λ is. differ (ap (λ each. each % 2) is))

-- the test may be turned
pub eqb-turned : (a b : ℕ) → (a == b) ≡ (b == a)
eqb-turned a b =
    elim (cases_eq a b) [
      | inl is ↦ eq-eqb a b is ∙ sym (eq-eqb b a (sym is))
      | inr not_is ↦ ne_eqb a b not_is ∙ sym (ne_eqb b a (λ is. not_is (sym is)))
    ]

-- a name is set on its own side
pub with_name-side : (same other : ℕ → Option NodeId) (bits : ℕ) (node : NodeId) (name : ℕ)
    → sides_of bits (with_name same (bits / 2) node) other name ≡ with_name (sides_of bits same other) bits node name
with_name-side same other bits node name =
    elim (cases_eq (name % 2) (bits % 2)) [
      | inl near ↦
          let test = eq-eqb (name % 2) (bits % 2) near in
          let halves = eqb-halves name bits near in
          rw (test, halves) refl
      | inr far ↦
          let test = ne_eqb (name % 2) (bits % 2) far in
          let apart = eqb-other_bit name bits far in
          rw (test, apart) refl
    ]

-- one name stands alone on its own side
pub leaf_of-same_side : (bits : ℕ) (node : NodeId) (name : ℕ) → sides_of bits (leaf_of (bits / 2) node) no_name name ≡ leaf_of bits node name
leaf_of-same_side bits node name =
    with_name-side no_name no_name bits node name ∙ ap (λ none. if name == bits then Some node else none) (by (name % 2 == bits % 2))
  where
    by : (near : Bool) → (if near then no_name (name / 2) else no_name (name / 2)) ≡ None
    by true = refl
    by false = refl

-- and on the other side of a name with another lowest bit
pub leaf_of-other_side : (bits : ℕ) (node : NodeId) (one : ℕ) → one % 2 ≢ bits % 2 → (name : ℕ)
    → sides_of one no_name (leaf_of (bits / 2) node) name ≡ leaf_of bits node name
leaf_of-other_side bits node one differ name =
    elim (cases_eq (name % 2) (one % 2)) [
      | inl near ↦
          let test = eq-eqb (name % 2) (one % 2) near in
          let apart = eqb-other_bit name bits (λ is. differ (sym near ∙ is)) in
          rw (test, apart) refl
      | inr far ↦
          let test = ne_eqb (name % 2) (one % 2) far in
          let is : name % 2 ≡ bits % 2 = omega arith in
          let halves = eqb-halves name bits is in
          rw (test, halves) refl
    ]

-- maps that say the same of each name make the same map of both
pub sides_of-same : (bits : ℕ) (same other same' other' : ℕ → Option NodeId) → ((name : ℕ) → same name ≡ same' name)
    → ((name : ℕ) → other name ≡ other' name) → (name : ℕ) → sides_of bits same other name ≡ sides_of bits same' other' name
sides_of-same bits same other same' other' equal equal' name = λ i. if name % 2 == bits % 2 then equal (name / 2) i else equal' (name / 2) i

-- and so do those in which one name is set
pub with_name-same : (bits : ℕ) (node : NodeId) (lookup lookup' : ℕ → Option NodeId) → ((name : ℕ) → lookup name ≡ lookup' name)
    → (name : ℕ) → with_name lookup bits node name ≡ with_name lookup' bits node name
with_name-same bits node lookup lookup' equal name = ap (λ rest. if name == bits then Some node else rest) (equal name)

-- a branch has two sides
pub sides_of-branch : (bits : ℕ) (even odd : ChildMapId) (find : ChildMapId → ℕ → Option NodeId) (name : ℕ)
    → find (if name % 2 == 0 then even else odd) (name / 2)
    ≡ sides_of bits (find (if bits % 2 == 0 then even else odd)) (find (if bits % 2 == 0 then odd else even)) name
sides_of-branch bits even odd find name =
    elim (cases_eq (name % 2) 0) [
      | inl low ↦
          let name_low = eq-eqb (name % 2) 0 low in
          elim (cases_eq (bits % 2) 0) [
            | inl same ↦ rw (name_low, eq-eqb (bits % 2) 0 same, eq-eqb (name % 2) (bits % 2) (low ∙ sym same)) refl
            | inr not_same ↦ rw (name_low, ne_eqb (bits % 2) 0 not_same, ne_eqb (name % 2) (bits % 2) (λ is. not_same (sym is ∙ low))) refl
          ]
      | inr high ↦
          let name_high = ne_eqb (name % 2) 0 high in
          elim (cases_eq (bits % 2) 0) [
            | inl same ↦ rw (name_high, eq-eqb (bits % 2) 0 same, ne_eqb (name % 2) (bits % 2) (λ is. high (is ∙ same))) refl
            | inr not_same ↦ rw (name_high, ne_eqb (bits % 2) 0 not_same, eq-eqb (name % 2) (bits % 2) (omega arith)) refl
          ]
    ]

-- ---- maps that were added

-- maps stay ordered
pub AreOrdered-push : (maps : List ChildMap) (child_map : ChildMap) → AreOrdered maps → IsOrderedAfter maps child_map → AreOrdered (maps ++ child_map ∷ [])
AreOrdered-push maps child_map ordered after index even odd at =
    elim (slice_get-push maps child_map index (Branch even odd) at) [
      | inr (is, same) ↦
          let (even_before, odd_before) = subst (IsOrderedAfter maps) (sym same) after in
          (omega arith, omega arith)
      | inl before ↦ ordered index even odd before
    ]

-- a branch adds no node
pub HaveNodesBelow-branch : (count : ℕ) (maps : List ChildMap) (even odd : ChildMapId) → HaveNodesBelow count maps
    → HaveNodesBelow count (maps ++ Branch even odd ∷ [])
HaveNodesBelow-branch count maps even odd below index bits node at =
    elim (slice_get-push maps (Branch even odd) index (Leaf bits node) at) [
      | inr (is, same) ↦ cc
      | inl before ↦ below index bits node before
    ]

-- and a leaf its own
pub HaveNodesBelow-leaf : (count : ℕ) (maps : List ChildMap) (left : ℕ) (kept : NodeId) → HaveNodesBelow count maps → kept.0 < count
    → HaveNodesBelow count (maps ++ Leaf left kept ∷ [])
HaveNodesBelow-leaf count maps left kept below within index bits node at =
    elim (slice_get-push maps (Leaf left kept) index (Leaf bits node) at) [
      | inr (is, same) ↦ let nodes : kept ≡ node = cc in subst (λ (each : NodeId). each.0 < count) nodes within
      | inl before ↦ below index bits node before
    ]

-- the map that was added last has the number after the others
child_map_at-push : (maps : List ChildMap) (child_map : ChildMap) (number : ℕ) → number ≡ length maps + 1 → child_map_at (maps ++ child_map ∷ []) number ≡ Some child_map
child_map_at-push maps child_map number is = ap (child_map_at (maps ++ child_map ∷ [])) (is ∙ add-one (length maps)) ∙ slice_get-last maps child_map (length maps) refl

-- the map of a leaf that was added
pub HasOne-push : (old new : List ChildMap) (bits : ℕ) (node : NodeId) (id : ChildMapId) → AreOrdered new → id.0 ≡ length old + 1
    → new ≡ old ++ Leaf bits node ∷ [] → HasOne new bits node id
HasOne-push old new bits node id ordered number added name =
    child_in-Leaf new id name bits node ordered (ap (λ maps. child_map_at maps id.0) added ∙ child_map_at-push old (Leaf bits node) id.0 number)
    ∙ ap (λ same. if same then Some node else None) (eqb-turned bits name)

-- maps were ordered before others were added
pub AreOrdered-before : (old new : List ChildMap) → Extends old new → AreOrdered new → AreOrdered old
AreOrdered-before old new more ordered index even odd at =
    ordered index even odd (slice_get-grown old new index more (slice_get_within old index (Branch even odd) at) ∙ at)

-- one of two that were chosen by the same test
chosen-twice : (low : Bool) (same other : ChildMapId) → (if low then (if low then same else other) else (if low then other else same)) ≡ same
chosen-twice true same other = refl
chosen-twice false same other = refl

-- and of a branch
pub HasSides-push : (old new : List ChildMap) (bits : ℕ) (same other : ChildMapId) (id : ChildMapId) → AreOrdered new → same.0 ≤ length old → other.0 ≤ length old
    → id.0 ≡ length old + 1 → new ≡ old ++ Branch (if bits % 2 == 0 then same else other) (if bits % 2 == 0 then other else same) ∷ []
    → HasSides old new bits same other id
HasSides-push old new bits same other id ordered same_within other_within number added name =
    let even : ChildMapId = if bits % 2 == 0 then same else other in
    let odd : ChildMapId = if bits % 2 == 0 then other else same in
    let more : Extends old new = record { more = Branch even odd ∷ []; grown = added } in
    let before = AreOrdered-before old new more ordered in
    child_in-Branch new id name even odd ordered (ap (λ maps. child_map_at maps id.0) added ∙ child_map_at-push old (Branch even odd) id.0 number)
    ∙ sides_of-branch bits even odd (child_in new) name
    ∙ sides_of-same bits (child_in new (if bits % 2 == 0 then even else odd)) (child_in new (if bits % 2 == 0 then odd else even))
    (child_in old same) (child_in old other)
    (λ rest. ap (λ map. child_in new map rest) (chosen-twice (bits % 2 == 0) same other) ∙ child_in-grown old new before more same rest same_within)
    (λ rest. ap (λ map. child_in new map rest) (chosen-twice (bits % 2 == 0) other same) ∙ child_in-grown old new before more other rest other_within)
    name

-- ---- names that were set

-- two names with the same lowest bit
pub HasTwo-same_side : (old new : List ChildMap) (one : ℕ) (one_node : NodeId) (other : ℕ) (other_node : NodeId) (both none map : ChildMapId)
    → one % 2 ≡ other % 2 → none.0 ≡ 0 → HasTwo old (one / 2) one_node (other / 2) other_node both → HasSides old new one both none map
    → HasTwo new one one_node other other_node map
HasTwo-same_side old new one one_node other other_node both none map bit empty two sides name =
    sides name
    ∙ sides_of-same one (child_in old both) (child_in old none) (with_name (leaf_of (other / 2) other_node) (one / 2) one_node) no_name
    two (λ rest. ap (λ number. found_within old number number rest) empty ∙ found_within-empty old 0 rest) name
    ∙ with_name-side (leaf_of (other / 2) other_node) no_name one one_node name
    ∙ with_name-same one one_node (sides_of one (leaf_of (other / 2) other_node) no_name) (leaf_of other other_node)
    (λ each.
    ap (λ low. if each % 2 == low then leaf_of (other / 2) other_node (each / 2) else no_name (each / 2)) bit
    ∙ leaf_of-same_side other other_node each)
    name

-- and with different ones
pub HasTwo-other_side : (first old new : List ChildMap) (one : ℕ) (one_node : NodeId) (other : ℕ) (other_node : NodeId) (one_map other_map map : ChildMapId)
    → one % 2 ≢ other % 2 → AreOrdered first → Extends first old → one_map.0 ≤ length first
    → HasOne first (one / 2) one_node one_map → HasOne old (other / 2) other_node other_map
    → HasSides old new one one_map other_map map → HasTwo new one one_node other other_node map
HasTwo-other_side first old new one one_node other other_node one_map other_map map differ ordered more within has_one has_other sides name =
    sides name
    ∙ sides_of-same one (child_in old one_map) (child_in old other_map) (with_name no_name (one / 2) one_node) (leaf_of (other / 2) other_node)
    (λ rest. child_in-grown first old ordered more one_map rest within ∙ has_one rest) has_other name
    ∙ with_name-side no_name (leaf_of (other / 2) other_node) one one_node name
    ∙ with_name-same one one_node (sides_of one no_name (leaf_of (other / 2) other_node)) (leaf_of other other_node)
    (leaf_of-other_side other other_node one differ) name

-- a name set in the empty map
pub SetsChild-None : (old new : List ChildMap) (map : ChildMapId) (bits : ℕ) (node : NodeId) (after : ChildMapId) → AreOrdered old → child_map_at old map.0 ≡ None
    → HasOne new bits node after → SetsChild old new map bits node after
SetsChild-None old new map bits node after ordered at one name =
    one name ∙ with_name-same bits node no_name (child_in old map) (λ each. sym (child_in-None old map each ordered at)) name

-- a leaf has its name alone
child_in-leaf_of : (maps : List ChildMap) (map : ChildMapId) (left : ℕ) (node : NodeId) → AreOrdered maps → child_map_at maps map.0 ≡ Some (Leaf left node)
    → (name : ℕ) → child_in maps map name ≡ leaf_of left node name
child_in-leaf_of maps map left node ordered at name =
    child_in-Leaf maps map name left node ordered at ∙ ap (λ same. if same then Some node else None) (eqb-turned left name)

-- in a leaf of that name
pub SetsChild-same : (old new : List ChildMap) (map : ChildMapId) (left bits : ℕ) (kept node : NodeId) (after : ChildMapId)
    → AreOrdered old → child_map_at old map.0 ≡ Some (Leaf left kept) → left ≡ bits → HasOne new bits node after → SetsChild old new map bits node after
SetsChild-same old new map left bits kept node after ordered at is one name =
    one name ∙ by (name == bits) ∙ ap (λ each. with_name (leaf_of each kept) bits node name) (sym is)
    ∙ with_name-same bits node (leaf_of left kept) (child_in old map) (λ each. sym (child_in-leaf_of old map left kept ordered at each)) name
  where
    by : (same : Bool) → (if same then Some node else None) ≡ (if same then Some node else (if same then Some kept else None))
    by true = refl
    by false = refl

-- in a leaf of another name
pub SetsChild-other : (old new : List ChildMap) (map : ChildMapId) (left bits : ℕ) (kept node : NodeId) (after : ChildMapId)
    → AreOrdered old → child_map_at old map.0 ≡ Some (Leaf left kept) → HasTwo new bits node left kept after → SetsChild old new map bits node after
SetsChild-other old new map left bits kept node after ordered at two name =
    two name ∙ with_name-same bits node (leaf_of left kept) (child_in old map) (λ each. sym (child_in-leaf_of old map left kept ordered at each)) name

-- the maps of a branch stand among the maps
branch-within : (maps : List ChildMap) (number : ℕ) (even odd : ChildMapId) → AreOrdered maps → child_map_at maps number ≡ Some (Branch even odd)
    → (even.0 ≤ length maps) × (odd.0 ≤ length maps)
branch-within maps zero even odd ordered at = cc
branch-within maps (suc index) even odd ordered at =
    let within = slice_get_within maps index (Branch even odd) at in
    let (even_before, odd_before) = ordered index even odd at in
    (omega arith, omega arith)

-- the node of a leaf is among the nodes
pub node-within : (count : ℕ) (maps : List ChildMap) (number left : ℕ) (node : NodeId) → HaveNodesBelow count maps
    → child_map_at maps number ≡ Some (Leaf left node) → node.0 < count
node-within count maps zero left node below at = cc
node-within count maps (suc index) left node below at = below index left node at

-- and in a branch, on its own side
pub SetsChild-branch : (old mid new : List ChildMap) (map : ChildMapId) (bits : ℕ) (even odd : ChildMapId) (node : NodeId) (near far same after : ChildMapId)
    → AreOrdered old → child_map_at old map.0 ≡ Some (Branch even odd)
    → near ≡ (if bits % 2 == 0 then even else odd) → far ≡ (if bits % 2 == 0 then odd else even)
    → Extends old mid → SetsChild old mid near (bits / 2) node same → HasSides mid new bits same far after → SetsChild old new map bits node after
SetsChild-branch old mid new map bits even odd node near far same after ordered at near_is far_is more sets sides name =
    sides name
    ∙ sides_of-same bits (child_in mid same) (child_in mid far) (with_name (child_in old near) (bits / 2) node) (child_in old far)
    sets (λ rest. child_in-grown old mid ordered more far rest far_within) name
    ∙ with_name-side (child_in old near) (child_in old far) bits node name
    ∙ with_name-same bits node (sides_of bits (child_in old near) (child_in old far)) (child_in old map) (λ each. sym (both each)) name
  where
    by : (low : Bool) → (if low then odd else even).0 ≤ length old
    by true = (branch-within old map.0 even odd ordered at).1
    by false = (branch-within old map.0 even odd ordered at).0

    far_within : far.0 ≤ length old
    far_within = subst (λ (each : ChildMapId). each.0 ≤ length old) (sym far_is) (by (bits % 2 == 0))

    both : (each : ℕ) → child_in old map each ≡ sides_of bits (child_in old near) (child_in old far) each
    both each =
        child_in-Branch old map each even odd ordered at ∙ sides_of-branch bits even odd (child_in old) each
        ∙ ap (λ map. sides_of bits (child_in old map) (child_in old (if bits % 2 == 0 then odd else even)) each) (sym near_is)
        ∙ ap (λ map. sides_of bits (child_in old near) (child_in old map) each) (sym far_is)

-- ---- failed pushes

-- what holds whether or not a map was added
pub push-cases : {X E : Type 0} (r : Result X E) (old new : List ChildMap) (child_map : ChildMap) (P : List ChildMap → Type 0)
    → OnOk r (new ≡ old ++ child_map ∷ []) → OnErr r (new ≡ old) → P (old ++ child_map ∷ []) → P old → P new
push-cases (Ok x) old new child_map P added failed more same = subst P (sym added) more
push-cases (Err e) old new child_map P added failed more same = subst P (sym failed) same

-- so the maps from before are kept
pub Extends-push : {X E : Type 0} (r : Result X E) (old new : List ChildMap) (child_map : ChildMap)
    → OnOk r (new ≡ old ++ child_map ∷ []) → OnErr r (new ≡ old) → Extends old new
Extends-push r old new child_map added failed =
    push-cases r old new child_map (Extends old) added failed (record { more = child_map ∷ []; grown = refl }) (Extends-none old)
