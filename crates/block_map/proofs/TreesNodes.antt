-- The nodes that records put, and what they show.
use Rattle.block_map.proofs.Common.{◌≡◌, ◌≢◌, ℕ, zero, suc, ◌≤◌, Bool, false, List, [], ◌∷◌, ◌++◌, None, Some, refl, sym, ap, ◌∙◌, slice_get, same_name, NameId, ValueId, ShowsPath, look_in_trees, from_beginning, resolved, looks_of, absent_node, no_children, node_at_location, node_of_kind, LookOfNumbers, TrieValue, as_at, found_below, base_look, Trees, Base, LocationId}
use Rattle.svn_dump.specs.declared.record.Kind.TheVariants.{Dir}
use Rattle.block_map.specs.Look as found
use Rattle.block_map.specs.declared.trie.node.OwnEntry.{OwnEntry}
use Rattle.block_map.proofs.MergeinfoGiven.{child_of-childless}
use Rattle.block_map.proofs.Standings.{look_at_first}

-- ---- nodes without children

-- where there is no node everything is found as in the base
pub found_below-none : (trie : TrieValue) (over : LookOfNumbers) (path : List NameId) → found_below trie (record { node = None; base = over }) path ≡ over path
found_below-none trie over [] = refl
found_below-none trie over (name ∷ path) = found_below-none trie (λ rest. over (name ∷ rest)) path

-- below a node without children everything is found as in its base
pub found_below-childless : (trie : TrieValue) (own : OwnEntry) (base : Base) (may : Bool) (over : LookOfNumbers) (name : NameId) (path : List NameId)
    → found_below trie (record { node = Some (record { own = own; base = base; children = no_children; may_give_mergeinfo_below = may }); base = over }) (name ∷ path)
    ≡ base_look trie base over (name ∷ path)
found_below-childless trie own base may over name path =
    ap (λ child. found_below trie (record { node = child; base = λ rest. base_look trie base over (name ∷ rest) }) path)
    (child_of-childless trie own base may name)
    ∙ found_below-none trie (λ rest. base_look trie base over (name ∷ rest)) path

-- ---- before the trees

-- what was found before it is not known to it
pub look_in_trees-before : (trees : Trees) (tick : ℕ) (path : List NameId) → tick ≤ trees.start → look_in_trees trees tick path ≡ resolved trees.start (found.at path tick)
look_in_trees-before trees tick path before =
    ap (resolved trees.start) (look_at_first trees.start (looks_of same_name trees.start trees.records.items) tick path before)

-- except before the first record of the history
pub look_in_trees-beginning : (trees : Trees) (tick : ℕ) (path : List NameId) → trees.start ≡ 0 → tick ≤ trees.start → look_in_trees trees tick path ≡ from_beginning (found.at path tick)
look_in_trees-beginning trees tick path zero_is before = look_in_trees-before trees tick path before ∙ ap (λ lo. resolved lo (found.at path tick)) zero_is

pub look_in_trees-later : (trees : Trees) (tick : ℕ) (path : List NameId) → trees.start ≢ 0 → tick ≤ trees.start → look_in_trees trees tick path ≡ found.at path tick
look_in_trees-later trees tick path later before = look_in_trees-before trees tick path before ∙ by trees.start later
  where
    by : (lo : ℕ) → lo ≢ 0 → resolved {C = NameId} {M = ValueId} lo (found.at path tick) ≡ found.at path tick
    by zero not_zero = absurd (not_zero refl)
    by (suc lo) not_zero = refl

-- then the root is there
pub ShowsPath-root : (trees : Trees) (tick : ℕ) → trees.start ≡ 0 → tick ≤ trees.start → ShowsPath trees tick [] (node_of_kind Dir None)
ShowsPath-root trees tick zero_is before = λ over rest. by over rest
  where
    by : (over : LookOfNumbers) (rest : List NameId)
        → found_below trees.trie (record { node = Some (node_of_kind Dir None); base = over }) rest ≡ look_in_trees trees tick rest
    by over [] = sym (look_in_trees-beginning trees tick [] zero_is before)
    by over (name ∷ rest) =
        found_below-childless trees.trie (node_of_kind Dir None).own (node_of_kind Dir None).base false over name rest
        ∙ sym (look_in_trees-beginning trees tick (name ∷ rest) zero_is before)

-- and nothing else
pub ShowsPath-absent : (trees : Trees) (tick : ℕ) (name : NameId) (path : List NameId) → trees.start ≡ 0 → tick ≤ trees.start → ShowsPath trees tick (name ∷ path) absent_node
ShowsPath-absent trees tick name path zero_is before = λ over rest. by over rest
  where
    by : (over : LookOfNumbers) (rest : List NameId)
        → found_below trees.trie (record { node = Some absent_node; base = over }) rest ≡ look_in_trees trees tick (name ∷ path ++ rest)
    by over [] = sym (look_in_trees-beginning trees tick (name ∷ path ++ []) zero_is before)
    by over (next ∷ rest) =
        found_below-childless trees.trie absent_node.own absent_node.base false over next rest
        ∙ sym (look_in_trees-beginning trees tick (name ∷ path ++ next ∷ rest) zero_is before)

-- a node at a location shows what stood there
pub ShowsPath-location : (trees : Trees) (tick : ℕ) (path : List NameId) (id : LocationId) → trees.start ≢ 0 → tick ≤ trees.start
    → slice_get trees.trie.locations id.0 ≡ Some (record { path = path; tick = tick }) → ShowsPath trees tick path (node_at_location id)
ShowsPath-location trees tick path id later before kept = λ over rest. by over rest ∙ sym (look_in_trees-later trees tick (path ++ rest) later before)
  where
    by : (over : LookOfNumbers) (rest : List NameId)
        → found_below trees.trie (record { node = Some (node_at_location id); base = over }) rest ≡ found.at (path ++ rest) tick
    by over [] = ap (λ location. as_at location []) kept
    by over (name ∷ rest) =
        found_below-childless trees.trie (node_at_location id).own (node_at_location id).base false over name rest ∙ ap (λ location. as_at location (name ∷ rest)) kept
