-- Maps of children as they are stored, one after another.
use Rattle.block_map.proofs.Common.{◌≡◌, ◌≢◌, ℕ, zero, suc, ◌-◌, List, [], ◌∷◌, ◌++◌, Option, Some, None, Bor, IfSome, is_some, ltb, length, get_or, map, option_map, refl, sym, ap, subst, ◌∙◌, arith, slice_get, ltb-true, ltb-false, map-append, slice_get-map, slice_get_past, slice_get_read, child_map_at, AreOrdered, IsOrderedAfter, ChildMap}
use Rattle.std.proofs.Common.{option_copied}
use Rattle.block_map.specs.StoredChildMaps.{child_map_of}
use Rattle.block_map.specs.declared.trie.stored_child_map.StoredChildMap.{StoredChildMap}
use Rattle.block_map.proofs.ChildMapLookups.{AreOrdered-push}

-- one more is stored
pub child_map_of-push : (old new : List StoredChildMap) (stored : StoredChildMap) (maps : List ChildMap) (child_map : ChildMap)
    → new ≡ old ++ stored ∷ [] → map child_map_of old ≡ maps → child_map_of stored ≡ child_map → map child_map_of new ≡ maps ++ child_map ∷ []
child_map_of-push old new stored maps child_map added are is =
    ap (map child_map_of) added ∙ map-append child_map_of old (stored ∷ [])
    ∙ ap (λ front. front ++ child_map_of stored ∷ []) are ∙ ap (λ last. maps ++ last ∷ []) is

-- they stay ordered
pub AreOrdered-stored : (old new : List StoredChildMap) (stored : StoredChildMap) (maps : List ChildMap) (child_map : ChildMap)
    → new ≡ old ++ stored ∷ [] → map child_map_of old ≡ maps → child_map_of stored ≡ child_map
    → AreOrdered (map child_map_of old) → IsOrderedAfter maps child_map → AreOrdered (map child_map_of new)
AreOrdered-stored old new stored maps child_map added are is ordered after =
    subst AreOrdered (sym (child_map_of-push old new stored maps child_map added are is))
    (AreOrdered-push maps child_map (subst AreOrdered are ordered) after)

-- what is found at an index
pub slice_get-found : {X : Type 0} (items : List X) (index : ℕ) (found : Option (Bor X)) → is_some found ≡ ltb index (length items)
    → IfSome found (λ each. each.now ≡ get_or items index each.now) → slice_get items index ≡ option_copied found
slice_get-found items index None within read = slice_get_past items index (ltb-false index (length items) (sym within))
slice_get-found items index (Some each) within read = slice_get_read items (length items) index each.now refl (ltb-true index (length items) (sym within)) read

-- the map of a number is the one that is stored at the index before it
pub child_map_at-stored : (items : List StoredChildMap) (maps : List ChildMap) (number : ℕ) (stored : Option StoredChildMap) → map child_map_of items ≡ maps → number ≢ 0
    → slice_get items (number - 1) ≡ stored → option_map child_map_of stored ≡ child_map_at maps number
child_map_at-stored items maps zero stored are some at = absurd (some refl)
child_map_at-stored items maps (suc index) stored are some at =
    let same : suc index - 1 ≡ index = omega arith in
    ap (option_map child_map_of) (sym at ∙ ap (slice_get items) same) ∙ sym (slice_get-map child_map_of items index) ∙ ap (λ all. slice_get all index) are
