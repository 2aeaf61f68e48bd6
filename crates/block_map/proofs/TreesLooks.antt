-- The roots of trees, and what they show.
use Rattle.block_map.proofs.Common.{◌≡◌, ℕ, ◌+◌, ◌-◌, ◌^◌, ◌<◌, ◌≤◌, Bool, List, [], ◌∷◌, ◌++◌, Option, None, Some, get_or, length, inl, inr, refl, sym, ap, subst, ◌∙◌, arith, slice_get, cases_lt, length_push, fold-append, same_Some, slice_get-get_or, slice_get_within, below, same_name, NameId, IsSame-same_name, append-from_below, Record, ValueId, slice_get-front, AreTrees, IsRootAfter, IsRootAt, SameTrees, ShowsAction, ShowsTick, end_of_trees, look_after_action, look_after_record, look_in_trees, Found, Look, found_after_action, resolved, look, look_after, look_at, looks_of, with_look, ExtendsTrie, IsNodeOf, IsSound, PutsNode, TrieValue, at_path, at_root, found_below, nothing, Trees, Node, NodeId}
use Rattle.std.specs.Prelude.{fold}
use Rattle.block_map.proofs.GrownTries.{ExtendsTrie-pushed, found_below-grown, slice_get-grown, slice_get-last}
use Rattle.block_map.proofs.Standings.{look_at-append, look_at_push}

-- ---- one more record

module _ {C M : Type 0} (same : C → C → Bool) (lo : ℕ) where
  looks_of-push : (records : List (Record C M)) (each : Record C M) → looks_of same lo (records ++ each ∷ []) ≡ with_look same lo (looks_of same lo records) each
  unfolding looks_of
  looks_of-push records each = fold-append (with_look same lo) [] records (each ∷ [])

  length-fold : (looks : List (Look C M)) (records : List (Record C M)) → length (fold (with_look same lo) looks records) ≡ length looks + length records
  length-fold looks [] = omega arith
  length-fold looks (each ∷ records) =
      omega (arith, length-fold (with_look same lo looks each) records, length_push looks (look_after same lo looks each))

  -- there is one look for each record
  pub length-looks_of : (records : List (Record C M)) → length (looks_of same lo records) ≡ length records
  unfolding looks_of
  length-looks_of records = omega (arith, length-fold [] records)

  -- it leaves what was found before
  pub look_push-before : (records : List (Record C M)) (each : Record C M) (tick : ℕ) (path : List C) → tick ≤ lo + length records
      → look same lo (records ++ each ∷ []) tick path ≡ look same lo records tick path
  look_push-before records each tick path within =
      ap (λ looks. look_at lo looks tick path) (looks_of-push records each)
      ∙ look_at-append lo (looks_of same lo records) (look_after same lo (looks_of same lo records) each ∷ []) tick path (omega (arith, within, length-looks_of records))

  -- and what is found after it is what it leaves
  pub look_push-last : (records : List (Record C M)) (each : Record C M) (tick : ℕ) (path : List C) → tick ≡ lo + length records + 1
      → look same lo (records ++ each ∷ []) tick path ≡ look_after same lo (looks_of same lo records) each path
  look_push-last records each tick path last =
      ap (λ looks. look_at lo looks tick path) (looks_of-push records each)
      ∙ look_at_push lo (looks_of same lo records) (look_after same lo (looks_of same lo records) each) tick path (omega (arith, last, length-looks_of records))

-- ---- roots

-- the root of a tick
pub IsRootAt-at : (trees : Trees) (tick : ℕ) (id : NodeId) → AreTrees trees → trees.start < tick → tick ≤ end_of_trees trees
    → id ≡ get_or trees.roots.items (tick - trees.start - 1) id → IsRootAt trees tick id
IsRootAt-at trees tick id is after within at =
    let index = tick - trees.start - 1 in
    let tick_is : trees.start + index + 1 ≡ tick = omega (arith, after) in
    let inside : index < length trees.roots.items = omega (arith, after, within, is.roots) in
    subst (λ each. IsRootAt trees each id) tick_is (is.each index id (slice_get-get_or trees.roots.items index id inside ∙ ap Some (sym at)))

pub IsRootAt-within : (trees : Trees) (tick : ℕ) (id : NodeId) → IsRootAt trees tick id → id.0 < length trees.trie.nodes
IsRootAt-within trees tick id root = slice_get_within trees.trie.nodes id.0 root.node root.at

pub ShowsTick-node : (trees : Trees) (tick : ℕ) (id : NodeId) (node : Node) → IsRootAt trees tick id → slice_get trees.trie.nodes id.0 ≡ Some node → ShowsTick trees tick node
ShowsTick-node trees tick id node root at = subst (ShowsTick trees tick) (same_Some root.node node (sym root.at ∙ at)) root.shows

-- the same records say the same
pub look_in_trees-same : (old new : Trees) (tick : ℕ) (path : List NameId) → SameTrees old new → look_in_trees old tick path ≡ look_in_trees new tick path
look_in_trees-same old new tick path same =
    let lo = sym same.start in
    let records = sym same.records in
    λ i. resolved (lo i) (look same_name (lo i) (records i) tick path)

-- the last root is that of the newest tree
pub IsRootAt-last : (trees : Trees) (id : NodeId) → AreTrees trees → slice_get trees.roots.items (length trees.roots.items - 1) ≡ Some id → IsRootAt trees (end_of_trees trees) id
IsRootAt-last trees id is at =
    let inside = slice_get_within trees.roots.items (length trees.roots.items - 1) id at in
    subst (λ tick. IsRootAt trees tick id) (omega (arith, inside, is.roots)) (is.each (length trees.roots.items - 1) id at)

-- a root stays as nodes, maps and locations are added
pub IsRootAt-same : (old new : Trees) (tick : ℕ) (id : NodeId) → IsSound old.trie → SameTrees old new → IsRootAt old tick id → IsRootAt new tick id
IsRootAt-same old new tick id sound same root = record {
  node = root.node;
  at = slice_get-grown old.trie.nodes new.trie.nodes id.0 same.trie.nodes (slice_get_within old.trie.nodes id.0 root.node root.at) ∙ root.at;
  shows = λ path.
      found_below-grown old.trie new.trie sound same.trie (at_root root.node) path (sound.nodes id.0 root.node root.at) ∙ root.shows path
      ∙ look_in_trees-same old new tick path same;
}

-- and so do the trees
pub AreTrees-same : (old new : Trees) → AreTrees old → SameTrees old new → AreTrees new
AreTrees-same old new is same = record {
  few = omega (arith, is.few, same.start, ap length same.records);
  sound = same.sound;
  roots = ap length same.roots ∙ is.roots ∙ sym (ap length same.records);
  each = λ index id at.
      let was = is.each index id (subst (λ items. slice_get items index ≡ Some id) same.roots at) in
      subst (λ tick. IsRootAt new tick id) (ap (λ n. n + index + 1) (sym same.start)) (IsRootAt-same old new (old.start + index + 1) id is.sound same was);
}

pub end_of_trees-same : (old new : Trees) → SameTrees old new → end_of_trees new ≡ end_of_trees old
end_of_trees-same old new same = omega (arith, same.start, ap length same.records)

-- a node of the old trie shows the same
pub ShowsTick-same : (old new : Trees) (tick : ℕ) (node : Node) → IsSound old.trie → SameTrees old new → IsNodeOf old.trie node → ShowsTick old tick node → ShowsTick new tick node
ShowsTick-same old new tick node sound same is shows = λ path.
    found_below-grown old.trie new.trie sound same.trie (at_root node) path is ∙ shows path ∙ look_in_trees-same old new tick path same

-- ---- the tree after one more record

-- what is found after a record, by what it leaves at its path and below it
abbrev found_by_cases : Trees → Record NameId ValueId → List NameId → Option (List NameId) → Found NameId ValueId
found_by_cases trees each path None = look_in_trees trees (end_of_trees trees) path
found_by_cases trees each path (Some rest) = look_after_action trees each.path each.action rest

look_after_record-cases : (trees : Trees) (each : Record NameId ValueId) (path : List NameId)
    → look_after_record trees each path ≡ found_by_cases trees each path (below same_name each.path path)
look_after_record-cases trees each path = by (below same_name each.path path) refl
  where
    looks : List (Look NameId ValueId)
    looks = looks_of same_name trees.start trees.records.items

    end_is : trees.start + length looks ≡ end_of_trees trees
    end_is = ap (λ n. trees.start + n) (length-looks_of same_name trees.start trees.records.items)

    by : (left : Option (List NameId)) → below same_name each.path path ≡ left
        → resolved trees.start (elim left [
          | None ↦ look_at trees.start looks (trees.start + length looks) path
          | Some rest ↦ found_after_action trees.start looks each.action (look_at trees.start looks (trees.start + length looks) path) rest
        ])
        ≡ found_by_cases trees each path left
    by None is = ap (λ tick. resolved trees.start (look_at trees.start looks tick path)) end_is
    by (Some rest) is =
        ap (λ tick. resolved trees.start (found_after_action trees.start looks each.action (look_at trees.start looks tick path) rest)) end_is
        ∙ ap (λ whole. resolved trees.start (found_after_action trees.start looks each.action (look_at trees.start looks (end_of_trees trees) whole) rest))
        (append-from_below IsSame-same_name each.path path rest is)

-- ---- nodes that are added

-- a node that was added is found
pub pushed_node : (old new : TrieValue) (node : Node) (id : NodeId) → id.0 ≡ length old.nodes → new ≡ record old { nodes = old.nodes ++ node ∷ [] } → slice_get new.nodes id.0 ≡ Some node
pushed_node old new node id at added = ap (λ trie. slice_get trie.nodes id.0) added ∙ slice_get-last old.nodes node id.0 at

-- it shows what it showed before
pub IsRootAt-pushed : (trees : Trees) (new : TrieValue) (tick : ℕ) (node : Node) (id : NodeId) → IsSound trees.trie → IsNodeOf trees.trie node → ShowsTick trees tick node → id.0 ≡ length trees.trie.nodes
    → new ≡ record trees.trie { nodes = trees.trie.nodes ++ node ∷ [] } → IsRootAt (record trees { trie = new }) tick id
IsRootAt-pushed trees new tick node id sound is shows at added = record {
  node = node;
  at = pushed_node trees.trie new node id at added;
  shows = λ path. found_below-grown trees.trie new sound (ExtendsTrie-pushed trees.trie new node added) (at_root node) path is ∙ shows path;
}

-- ---- the root of the next tree

-- a node that was put at the record's path
pub IsRootAfter-put : (trees : Trees) (put new : TrieValue) (root node after : Node) (each : Record NameId ValueId) (id : NodeId) → IsSound put → IsNodeOf put after
    → ShowsTick trees (end_of_trees trees) root → ShowsAction trees root each.path each.action node → PutsNode trees.trie put (Some root) each.path node after
    → id.0 ≡ length put.nodes → new ≡ record put { nodes = put.nodes ++ after ∷ [] } → IsRootAfter (record trees { trie = new }) each id
IsRootAfter-put trees put new root node after each id sound is shows acts puts at added = record {
  node = after;
  at = pushed_node put new after id at added;
  shows = λ path.
      found_below-grown put new sound (ExtendsTrie-pushed put new after added) (at_root after) path is
      ∙ puts nothing path ∙ by path (below same_name each.path path) ∙ sym (look_after_record-cases trees each path);
}
  where
    by : (path : List NameId) (left : Option (List NameId)) → elim left [
      | None ↦ found_below trees.trie (at_root root) path
      | Some rest ↦ found_below trees.trie (record { node = Some node; base = (at_path trees.trie (at_root root) each.path).base }) rest
    ] ≡ found_by_cases trees each path left
    by path None = shows path
    by path (Some rest) = acts rest

-- or the same root again, where the record leaves everything as it is
pub IsRootAfter-same : (trees : Trees) (each : Record NameId ValueId) (id : NodeId) → IsRootAt trees (end_of_trees trees) id
    → ((rest : List NameId) → look_after_action trees each.path each.action rest ≡ look_in_trees trees (end_of_trees trees) (each.path ++ rest)) → IsRootAfter trees each id
IsRootAfter-same trees each id root leaves = record {
  node = root.node;
  at = root.at;
  shows = λ path. root.shows path ∙ by path (below same_name each.path path) refl ∙ sym (look_after_record-cases trees each path);
}
  where
    by : (path : List NameId) (left : Option (List NameId)) → below same_name each.path path ≡ left → look_in_trees trees (end_of_trees trees) path ≡ found_by_cases trees each path left
    by path None is = refl
    by path (Some rest) is = ap (look_in_trees trees (end_of_trees trees)) (append-from_below IsSame-same_name each.path path rest is) ∙ sym (leaves rest)

-- ---- trees with one more record

module _ (old new : Trees) (each : Record NameId ValueId) (id : NodeId) (trees : AreTrees old) (few : end_of_trees old + 1 < 2 ^ 32) (sound : IsSound new.trie) (grown : ExtendsTrie old.trie new.trie)
    (start : new.start ≡ old.start) (roots : new.roots.items ≡ old.roots.items ++ id ∷ []) (records : new.records.items ≡ old.records.items ++ each ∷ [])
    (after : IsRootAfter (record old { trie = new.trie }) each id) where
  one_more : length new.records.items ≡ length old.records.items + 1
  one_more = ap length records ∙ length_push old.records.items each

  -- the look of the new trees, by the records of the old ones
  look_is : (tick : ℕ) (path : List NameId) → look_in_trees new tick path ≡ resolved old.start (look same_name old.start (old.records.items ++ each ∷ []) tick path)
  look_is tick path = λ i. resolved (start i) (look same_name (start i) (records i) tick path)

  -- the roots there were
  earlier : (tick : ℕ) (root : NodeId) → tick ≤ end_of_trees old → IsRootAt old tick root → IsRootAt new tick root
  earlier tick root within was = record {
    node = was.node;
    at = slice_get-grown old.trie.nodes new.trie.nodes root.0 grown.nodes (slice_get_within old.trie.nodes root.0 was.node was.at) ∙ was.at;
    shows = λ path.
        found_below-grown old.trie new.trie trees.sound grown (at_root was.node) path (trees.sound.nodes root.0 was.node was.at) ∙ was.shows path
        ∙ sym (look_is tick path ∙ ap (resolved old.start) (look_push-before same_name old.start old.records.items each tick path within));
  }

  -- and the last one
  last_root : (tick : ℕ) → tick ≡ end_of_trees old + 1 → IsRootAt new tick id
  last_root tick last = record {
    node = after.node;
    at = after.at;
    shows = λ path. after.shows path ∙ sym (look_is tick path ∙ ap (resolved old.start) (look_push-last same_name old.start old.records.items each tick path last));
  }

  pub AreTrees-push : AreTrees new
  AreTrees-push = record {
    few = omega (arith, few, start, one_more);
    sound = sound;
    roots = ap length roots ∙ length_push old.roots.items id ∙ omega (arith, trees.roots, one_more);
    each = λ index root at. by index root (subst (λ items. slice_get items index ≡ Some root) roots at);
  }
    where
      by : (index : ℕ) (root : NodeId) → slice_get (old.roots.items ++ id ∷ []) index ≡ Some root → IsRootAt new (new.start + index + 1) root
      by index root at = elim (cases_lt index (length old.roots.items)) [
        | inl within ↦
            let was = trees.each index root (sym (slice_get-front old.roots.items (id ∷ []) index within) ∙ at) in
            subst (λ tick. IsRootAt new tick root) (ap (λ n. n + index + 1) (sym start)) (earlier (old.start + index + 1) root (omega (arith, within, trees.roots)) was)
        | inr past ↦
            let inside = slice_get_within (old.roots.items ++ id ∷ []) index root at in
            let last : index ≡ length old.roots.items = omega (arith, past, inside, length_push old.roots.items id) in
            let is : id ≡ root = same_Some id root (sym (slice_get-last old.roots.items id index last) ∙ at) in
            subst (IsRootAt new (new.start + index + 1)) is (last_root (new.start + index + 1) (omega (arith, start, last, trees.roots)))
      ]

-- a record that leaves everything as it is in some trees leaves it so in the same trees
pub IsRootAfter-kept : (old new : Trees) (each : Record NameId ValueId) (id : NodeId) → SameTrees old new → IsRootAt new (end_of_trees new) id
    → ((rest : List NameId) → look_after_action old each.path each.action rest ≡ look_in_trees old (end_of_trees old) (each.path ++ rest)) → IsRootAfter new each id
IsRootAfter-kept old new each id same root leaves =
    IsRootAfter-same new each id root (λ rest. sym (action rest) ∙ leaves rest
    ∙ ap (λ tick. look_in_trees old tick (each.path ++ rest)) (sym (end_of_trees-same old new same)) ∙ look_in_trees-same old new (end_of_trees new) (each.path ++ rest) same)
  where
    action : (rest : List NameId) → look_after_action old each.path each.action rest ≡ look_after_action new each.path each.action rest
    action rest =
        let lo = sym same.start in
        let records = sym same.records in
        λ i. resolved (lo i) (found_after_action (lo i) (looks_of same_name (lo i) (records i)) each.action
        (look same_name (lo i) (records i) (lo i + length (records i)) (each.path ++ rest)) rest)
