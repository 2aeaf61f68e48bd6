-- The nodes of one tree as they are added to another.
use Rattle.path_index.proofs.Common.{◌≡◌, ℕ, ◌+◌, ◌<◌, ◌≤◌, List, [], ◌∷◌, ◌++◌, All, length, get_or, slice_get, Some, length-append, inl, inr, refl, sym, ap, ◌∙◌, arith, cases_lt, length_push, get_or_push, get_or_append_left, All-push, All-weaker, get_or_from_slice_get, slice_get-get_or, NameId, child_of, node_of, AreNodesOf, HaveParentsBefore, ExtendsNodes, Child}
use Rattle.path_index.proofs.NodesOfPaths.{child_of-at, child_of-within, node_of-last, node_of_push, node_of-grown, node_of-one, node_of-within}

-- the first so many children, and the root, are mapped to nodes of their paths
pub record AreMapped (later : List Child) (count : ℕ) (children : List Child) (nodes : List ℕ) : Type 0 where
  pub all : length nodes ≡ count + 1
  pub within : All (λ node. node ≤ length children) nodes
  pub mapped : (path : List NameId) (node : ℕ) → node_of later path ≡ Some node → node ≤ count
      → node_of children path ≡ slice_get nodes node

-- at first the root is
pub AreMapped-root : {later children : List Child} → AreMapped later 0 children (0 ∷ [])
AreMapped-root {later = later} {children = children} = record {
  all = refl;
  within = λ k d within. let first : k ≡ 0 = omega (arith, within) in let is : get_or (0 ∷ []) k d ≡ 0 = ap (λ n. get_or (0 ∷ []) n d) first in omega (arith, is);
  mapped = λ path node found few.
      let root : node ≡ 0 = omega arith in
      let none : path ≡ [] = node_of-one later path [] node found (ap Some (sym root)) in
      ap (node_of children) none ∙ ap (slice_get (0 ∷ [])) (sym root);
}

module _ {later children children' : List Child} {nodes : List ℕ} {count node : ℕ} {child : Child} (so_far : AreMapped later count children nodes) (ordered : HaveParentsBefore later) (at : slice_get later count ≡ Some child)
    (grown : ExtendsNodes children children') (added : child_of children' (get_or nodes child.parent 0) child.name ≡ Some node) where
  early : child.parent ≤ count
  early = ordered count child at

  -- a path with a node that is mapped has the node to which it is mapped
  known : (path : List NameId) (n : ℕ) → node_of later path ≡ Some n → n ≤ count → node_of children' path ≡ Some (get_or nodes n 0)
  known path n found few =
      node_of-grown path grown (so_far.mapped path n found few ∙ slice_get-get_or nodes n 0 (omega (arith, so_far.all)))

  -- and so has the path of the next child
  next : (path : List NameId) (n : ℕ) → node_of later path ≡ Some n → n ≡ count + 1 → node_of children' path ≡ Some node
  next path n found last_one = elim (node_of-last later path n found) [
    | inl (none, root) ↦ absurd (omega arith)
    | inr (front, last, above, is, front_at, below) ↦
        let (index, index_is, within, parent, name) = child_of-at later above last n child below in
        let here : index ≡ count = omega arith in
        let same : get_or later index child ≡ child = ap (λ k. get_or later k child) here ∙ get_or_from_slice_get later count child child at in
        let parent_is : above ≡ child.parent = parent ∙ ap (λ (c : Child). c.parent) same in
        let name_is : last ≡ child.name = name ∙ ap (λ (c : Child). c.name) same in
        let front_is = known front above front_at (omega (arith, early, parent_is)) in
        ap (node_of children') is ∙ node_of_push children' front last (get_or nodes above 0) front_is
        ∙ (λ i. child_of children' (get_or nodes (parent_is i) 0) (name_is i)) ∙ added
  ]

  -- one child more
  pub AreMapped-next : AreMapped later (count + 1) children' (nodes ++ node ∷ [])
  AreMapped-next = record {
    all = length_push nodes node ∙ ap (λ n. n + 1) so_far.all;
    within =
        All-push (λ n. n ≤ length children') nodes node
        (All-weaker (λ n. n ≤ length children) (λ n. n ≤ length children') (λ n few. omega (arith, few, longer)) nodes so_far.within)
        (child_of-within children' (get_or nodes child.parent 0) child.name node added).1;
    mapped = λ path n found few.
        let inside : n < length (nodes ++ node ∷ []) = omega (arith, length_push nodes node, so_far.all) in
        elim (cases_lt count n) [
          | inl past ↦
              next path n found (omega arith)
              ∙ ap Some (sym (get_or_push nodes node 0 n (omega (arith, so_far.all)))) ∙ sym (slice_get-get_or (nodes ++ node ∷ []) n 0 inside)
          | inr within ↦
              known path n found within
              ∙ ap Some (sym (get_or_append_left nodes (node ∷ []) 0 n (omega (arith, so_far.all)))) ∙ sym (slice_get-get_or (nodes ++ node ∷ []) n 0 inside)
        ];
  }
    where
      longer : length children ≤ length children'
      longer = omega (arith, ap length grown.grown, length-append children grown.more)

-- at last all are
pub AreNodesOf-mapped : {later children : List Child} {nodes : List ℕ} {count : ℕ} → count ≡ length later → AreMapped later count children nodes → AreNodesOf later children nodes
AreNodesOf-mapped {later = later} is so = record {
  all = so.all ∙ ap (λ n. n + 1) is;
  mapped = λ path node found. so.mapped path node found (let within = node_of-within later path node found in omega (arith, within, is));
}
