-- The nodes of paths: each is the node of one path, and stays as more are added.
use Rattle.path_index.proofs.Common.{◌≡◌, ℕ, zero, suc, ◌+◌, ◌<◌, ◌≤◌, ◌==◌, Bool, true, false, List, [], ◌∷◌, ◌++◌, length, get_or, take, drop, Option, None, Some, IsSome, option_map, ◌⊎◌, inl, inr, refl, sym, ap, subst, ◌∙◌, arith, length-append, option_and_then, list_any, position, position_or_len, and_parts, eqb-true, cases_Bool, cond-true, cond-false, lt-ltb, take_more, take-append-drop, take-take, length_push, get_or_append_left, same_Some, option_and_then_some, same_name, NameId, IsSame-same_name, same_child, child_of, node_below, node_of, ExtendsNodes, HaveParentsBefore, Child, slice_get-push}
use Rattle.indexmap.specs.IndexSet.{insert_key}
use Rattle.std.proofs.lemmas.List.Folds.{list_any_at}
use Rattle.std.proofs.lemmas.List.Quantifiers.{position-Some}
use Rattle.std.proofs.lemmas.List.Sums.{position_or_len_is}

-- ---- one component

pub position-is : {X : Type 0} (p : X → Bool) (xs : List X) (i : ℕ) (d : X) → i < length xs → p (get_or xs i d) ≡ true → ((k : ℕ) → k < i → p (get_or xs k d) ≡ false) → position p xs ≡ Some i
position-is p xs i d within passes before =
    let first = position_or_len_is p xs i d (omega arith) before (λ _. passes) in
    cond-true _ _ _ (lt-ltb (position_or_len p xs) (length xs) (omega (arith, first, within))) ∙ ap Some first

-- what is found stays as the list grows
position-grown : {X : Type 0} (p : X → Bool) (xs more : List X) (i : ℕ) (d : X) → position p xs ≡ Some i → position p (xs ++ more) ≡ Some i
position-grown p xs more i d found =
    let (within, passes, before) = position-Some p xs i d found in
    position-is p (xs ++ more) i d (omega (arith, within, length-append xs more)) (rw (get_or_append_left xs more d i within) passes) (λ k less.
    let early : k < length xs = omega arith in rw (get_or_append_left xs more d k early) (before k less))

index_from_child : (o : Option ℕ) (node : ℕ) → option_map suc o ≡ Some node → (index : ℕ) × (o ≡ Some index) × (suc index ≡ node)
index_from_child None node found = cc
index_from_child (Some index) node found = (index, refl, same_Some (suc index) node found)

pub same_child-is : (a b : Child) → same_child a b ≡ true → (a.parent ≡ b.parent) × (a.name ≡ b.name)
same_child-is a b same =
    let (parents, names) = and_parts (a.parent == b.parent) (same_name a.name b.name) same in
    (eqb-true a.parent b.parent parents, IsSame-same_name.true_is a.name b.name names)

-- a node of a child stands after the child that it is of
pub child_of-at : (children : List Child) (parent : ℕ) (name : NameId) (node : ℕ) (d : Child) → child_of children parent name ≡ Some node
    → (index : ℕ) × (suc index ≡ node) × (index < length children) × (parent ≡ (get_or children index d).parent) × (name ≡ (get_or children index d).name)
child_of-at children parent name node d found =
    let child : Child = record { parent = parent; name = name } in
    let (index, at, is) = index_from_child (position (same_child child) children) node found in
    let (within, same, before) = position-Some (same_child child) children index d at in
    let (parents, names) = same_child-is child (get_or children index d) same in
    (index, is, within, parents, names)

child_of-grown : (children more : List Child) (parent : ℕ) (name : NameId) (node : ℕ) → child_of children parent name ≡ Some node → child_of (children ++ more) parent name ≡ Some node
child_of-grown children more parent name node found =
    let child : Child = record { parent = parent; name = name } in
    let (index, at, is) = index_from_child (position (same_child child) children) node found in
    ap (option_map suc) (position-grown (same_child child) children more index child at) ∙ ap Some is

-- a child that has a node is among the children
pub child_of-any : (children : List Child) (parent : ℕ) (name : NameId) → IsSome (child_of children parent name)
    → list_any (same_child (record { parent = parent; name = name })) children ≡ true
child_of-any children parent name known = by (position p children) refl
  where
    p : Child → Bool
    p = same_child (record { parent = parent; name = name })

    by : (o : Option ℕ) → position p children ≡ o → list_any p children ≡ true
    by None none = cc
    by (Some index) at =
        let d : Child = record { parent = parent; name = name } in
        let (within, passes, _) = position-Some p children index d at in
        list_any_at p children index d within passes

-- a child below a node of the tree leaves each after the one above it
HaveParentsBefore-push : (children : List Child) (child : Child) → child.parent ≤ length children
    → HaveParentsBefore children → HaveParentsBefore (children ++ child ∷ [])
HaveParentsBefore-push children child below ordered index each at = elim (slice_get-push children child index each at) [
  | inl before ↦ ordered index each before
  | inr (last, is) ↦ rw (is, last) below
]

pub HaveParentsBefore-insert : (children : List Child) (child : Child) → child.parent ≤ length children
    → HaveParentsBefore children → HaveParentsBefore (insert_key same_child children child)
HaveParentsBefore-insert children child below ordered = elim (cases_Bool (list_any (same_child child) children)) [
  | inl there ↦ subst HaveParentsBefore (sym (cond-true _ _ _ there)) ordered
  | inr new ↦
      subst HaveParentsBefore (sym (cond-false _ _ _ new)) (HaveParentsBefore-push children child below ordered)
]

-- a child is below one node alone, by one component
child_of-one : (children : List Child) (parent parent' : ℕ) (name name' : NameId) (node : ℕ) → child_of children parent name ≡ Some node → child_of children parent' name' ≡ Some node
    → (parent ≡ parent') × (name ≡ name')
child_of-one children parent parent' name name' node one other =
    let child : Child = record { parent = parent; name = name } in
    let (index, is, _, parents, names) = child_of-at children parent name node child one in
    let (index', is', _, parents', names') = child_of-at children parent' name' node child other in
    let same : index' ≡ index = omega arith in
    (cc, cc)

-- no child is the root, and each is among them
pub child_of-within : (children : List Child) (parent : ℕ) (name : NameId) (node : ℕ) → child_of children parent name ≡ Some node → (0 < node) × (node ≤ length children)
child_of-within children parent name node found =
    let (index, after, within, parents, names) = child_of-at children parent name node (record { parent = parent; name = name }) found in (omega arith, omega arith)

-- ---- paths

node_below-append : (children : List Child) (node : ℕ) (front rest : List NameId) → node_below children node (front ++ rest) ≡ option_and_then (λ under. node_below children under rest) (node_below children node front)
node_below-append children node [] rest = refl
node_below-append children node (name ∷ front) rest = by (λ child. node_below-append children child front rest) (child_of children node name)
  where
    by : ((child : ℕ) → node_below children child (front ++ rest) ≡ option_and_then (λ under. node_below children under rest) (node_below children child front))
        → (o : Option ℕ) → option_and_then (λ child. node_below children child (front ++ rest)) o ≡ option_and_then (λ under. node_below children under rest) (option_and_then (λ child. node_below children child front) o)
    by each None = refl
    by each (Some child) = each child

-- one component more
pub node_of_push : (children : List Child) (path : List NameId) (name : NameId) (node : ℕ) → node_of children path ≡ Some node → node_of children (path ++ name ∷ []) ≡ child_of children node name
node_of_push children path name node found =
    node_below-append children 0 path (name ∷ []) ∙ ap (option_and_then (λ under. node_below children under (name ∷ []))) found ∙ by (child_of children node name)
  where
    by : (o : Option ℕ) → option_and_then (λ child. Some child) o ≡ o
    by None = refl
    by (Some child) = refl

node_below-grown : (children more : List Child) (start : ℕ) (path : List NameId) (node : ℕ) → node_below children start path ≡ Some node → node_below (children ++ more) start path ≡ Some node
node_below-grown children more start [] node found = found
node_below-grown children more start (name ∷ path) node found =
    option_and_then_some (λ child. node_below children child path) (child_of children start name) node found
    (λ child at below. ap (option_and_then (λ child. node_below (children ++ more) child path)) (child_of-grown children more start name child at) ∙ node_below-grown children more child path node below)

-- as more are added it keeps its node
pub node_of-grown : {old new : List Child} {node : ℕ} (path : List NameId) → ExtendsNodes old new → node_of old path ≡ Some node → node_of new path ≡ Some node
node_of-grown {old = old} {node = node} path grown found =
    subst (λ children. node_of children path ≡ Some node) (sym grown.grown) (node_below-grown old grown.more 0 path node found)

last_or_none : {X : Type 0} (xs : List X) → (xs ≡ []) ⊎ ((front : List X) × (last : X) × (xs ≡ front ++ last ∷ []))
last_or_none [] = inl refl
last_or_none (x ∷ xs) = elim (last_or_none xs) [
  | inl none ↦ inr ([], x, ap (λ rest. x ∷ rest) none)
  | inr (front, last, is) ↦ inr (x ∷ front, last, ap (λ rest. x ∷ rest) is)
]

-- the root, or a child of the node before the last component
pub node_of-last : (children : List Child) (path : List NameId) (node : ℕ) → node_of children path ≡ Some node
    → ((path ≡ []) × (node ≡ 0))
    ⊎ ((front : List NameId) × (last : NameId) × (above : ℕ) × (path ≡ front ++ last ∷ []) × (node_of children front ≡ Some above) × (child_of children above last ≡ Some node))
node_of-last children path node found = elim (last_or_none path) [
  | inl none ↦ inl (none, same_Some node 0 (sym found ∙ ap (node_of children) none))
  | inr (front, last, is) ↦
      let whole : node_of children (front ++ last ∷ []) ≡ Some node = ap (node_of children) (sym is) ∙ found in
      option_and_then_some (λ under. node_below children under (last ∷ [])) (node_of children front) node (sym (node_below-append children 0 front (last ∷ [])) ∙ whole)
      (λ above at below. inr (front, last, above, is, at, sym (node_of_push children front last above at) ∙ whole))
]

one_if_short : (most : ℕ) (children : List Child) (p q : List NameId) (node : ℕ) → length p < most → node_of children p ≡ Some node → node_of children q ≡ Some node → p ≡ q
one_if_short zero children p q node short one other = absurd (omega arith)
one_if_short (suc most) children p q node short one other = elim (node_of-last children p node one) [
  | inl (none, root) ↦ elim (node_of-last children q node other) [
    | inl (none', root') ↦ none ∙ sym none'
    | inr (front, last, above, is, at, child) ↦
        let (positive, within) = child_of-within children above last node child in absurd (omega arith)
  ]
  | inr (front, last, above, is, at, child) ↦ elim (node_of-last children q node other) [
    | inl (none, root) ↦ let (positive, within) = child_of-within children above last node child in absurd (omega arith)
    | inr (front', last', above', is', at', child') ↦
        let (same, name) = child_of-one children above above' last last' node child child' in
        let fronts : front ≡ front' = one_if_short most children front front' above (omega (arith, ap length is, length_push front last)) at (at' ∙ ap Some (sym same)) in cc
  ]
]

-- a node is that of one path alone
pub node_of-one : (children : List Child) (p q : List NameId) (node : ℕ) → node_of children p ≡ Some node → node_of children q ≡ Some node → p ≡ q
node_of-one children p q node one other = one_if_short (length p + 1) children p q node (omega arith) one other

-- it is among them
pub node_of-within : (children : List Child) (path : List NameId) (node : ℕ) → node_of children path ≡ Some node → node ≤ length children
node_of-within children path node found = elim (node_of-last children path node found) [
  | inl (none, root) ↦ omega arith
  | inr (front, last, above, is, at, child) ↦ let (positive, within) = child_of-within children above last node child in omega arith
]

-- ---- the paths above a path, from the root on

-- the next path
pub node_of-take_more : (children : List Child) (path : List NameId) (n : ℕ) (d : NameId) (node : ℕ) → n < length path → node_of children (take n path) ≡ Some node
    → node_of children (take (n + 1) path) ≡ child_of children node (get_or path n d)
node_of-take_more children path n d node within found =
    ap (node_of children) (take_more path n d within) ∙ node_of_push children (take n path) (get_or path n d) node found

-- where there is none, the whole path has none
pub node_of-take_none : (children : List Child) (path : List NameId) (n : ℕ) (m : ℕ) → n ≤ m → node_of children (take n path) ≡ None → node_of children (take m path) ≡ None
node_of-take_none children path n m less none =
    let rest = drop n (take m path) in
    let longer : take m path ≡ take n path ++ rest = sym (take-append-drop n (take m path)) ∙ ap (λ front. front ++ rest) (take-take n m path less) in
    ap (node_of children) longer ∙ node_below-append children 0 (take n path) rest ∙ ap (option_and_then (λ under. node_below children under rest)) none
