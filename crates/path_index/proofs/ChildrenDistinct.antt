-- Each child stands once, so where it stands is where it is found.
use Rattle.path_index.proofs.Common.{◌≡◌, ℕ, suc, true, false, List, get_or, Some, option_map, slice_get, sym, ap, subst, ◌∙◌, arith, get_or_from_slice_get, slice_get_within, IsDistinct, same_child, child_of, Child}
use Rattle.std.proofs.lemmas.Grind.{common_steps}
use Rattle.std.proofs.lemmas.Map.Keys.{apart_from_distinct}
use Rattle.path_index.proofs.NodesOfPaths.{child_of-at, position-is}

same_child-self : (a : Child) → same_child a a ≡ true
same_child-self a = grind (arith, common_steps)

same_child-flipped : (a b : Child) → same_child a b ≡ same_child b a
same_child-flipped a b = grind (arith, common_steps)

pub child_of-distinct : (children : List Child) (index : ℕ) (child : Child) → IsDistinct same_child children
    → slice_get children index ≡ Some child → child_of children child.parent child.name ≡ Some (suc index)
child_of-distinct children index child distinct at =
    let within = slice_get_within children index child at in
    let here : get_or children index child ≡ child = get_or_from_slice_get children index child child at in
    ap (option_map suc) (position-is (same_child child) children index child within
    (subst (λ (each : Child). same_child child each ≡ true) (sym here) (same_child-self child))
    (λ before less. subst (λ (each : Child). same_child each (get_or children before child) ≡ false) here
    (same_child-flipped (get_or children index child) (get_or children before child)
    ∙ apart_from_distinct same_child children before index child distinct less within)))

-- and what is found is what stands there
pub same_child-at : (children : List Child) (index : ℕ) (child wanted : Child) → slice_get children index ≡ Some child
    → child_of children wanted.parent wanted.name ≡ Some (suc index) → same_child child wanted ≡ true
same_child-at children index child wanted at found =
    let (first, is, within, parents, names) = child_of-at children wanted.parent wanted.name (suc index) child found in
    let here : first ≡ index = omega arith in
    let there : get_or children first child ≡ child =
    ap (λ n. get_or children n child) here ∙ get_or_from_slice_get children index child child at in
    subst (λ (each : Child). same_child each wanted ≡ true) there
    ((λ i. same_child (record { parent = sym parents i; name = sym names i }) wanted) ∙ same_child-self wanted)
