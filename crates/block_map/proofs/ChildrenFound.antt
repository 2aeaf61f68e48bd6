-- What stands directly below a path.
use Rattle.block_map.proofs.Common.{◌≡◌, ◌≢◌, ℕ, zero, suc, ◌+◌, ◌<◌, ◌≤◌, ◌⊎◌, List, [], ◌∷◌, ◌++◌, Option, None, Some, get_or, length, option_map, inl, inr, refl, sym, ap, subst, ◌∙◌, arith, slice_get, option_and_then, same_Some, length-take, same_name, NameId, ValueId, All, take, get_or_default, get_or-take, AreBlocksBefore, AreBlocksFrom, block_records, end_of_trees, look_in_trees, look_through_trees, ShowsTick, Found, absent, at, at_with, is, look, resolved, IsFoundUpTo, look_through, Standing, entry_view, standing_of, append-nil, as_at, at_root, base_look, base_of_path, child_at, child_in, found_at, found_below, IsLocationOfPath, IsPositionOf, LookOfNumbers, path_base_view, position_view, TrieValue, Trees, Node, NodeId}
use Rattle.std.specs.List.{AllPairs, Contains}
use Rattle.std.specs.Prelude.{◌*◌}
use Rattle.std.specs.List.Sorted.{IsStrictlyIncreasing}
use Rattle.std.proofs.lemmas.List.Elements.{Contains-append_left, Contains-push, Contains-push_cases, All-contains, Contains-get_or}
use Rattle.std.proofs.lemmas.List.Quantifiers.{all_pairs_push}
use Rattle.std.proofs.lemmas.List.Kept.{AllPairs-from_increasing}
use Rattle.block_map.specs.Children.{AreChildren, AreKept, AreOthersAt, HaveAllNames, HaveMapNames, child_with, kind_below}
use Rattle.svn_dump.specs.declared.record.Kind.{Kind}
use Rattle.block_map.specs.declared.entry.Child.{Child}
use Rattle.block_map.specs.declared.entry.Entry.{Entry}
use Rattle.block_map.specs.declared.trie.location.Location.{Location}
use Rattle.block_map.specs.declared.trie.position.Position.{Position}
use Rattle.block_map.proofs.BlocksOfMaps.{end-front, look-before, through-earlier, through-last}
use Rattle.block_map.proofs.FoundFrom.{IsFoundAtOrBefore-look, IsFoundUpTo-earlier}
use Rattle.block_map.proofs.LooksThrough.{look_from-before, look_from-within, look_through-none}
use Rattle.block_map.proofs.Positions.{at_path-push, path_base_view-base_of_path}

-- ---- in a trie

module _ (trie : TrieValue) (root : Node) (path : List NameId) (position : Position) (at_is : IsPositionOf trie root path position) where
  -- what is found at a name directly below a path
  pub found-child : (name : NameId) → found_below trie (at_root root) (path ++ name ∷ []) ≡ found_at trie (child_at trie (position_view trie path position) name)
  found-child name = ap (found_at trie) (at_path-push trie (at_root root) path name) ∙ ap (λ from. found_at trie (child_at trie from name)) (sym at_is.is)

  -- where there is no node it is what the base of the path has there
  pub AreOthersAt-none : (names : List ℕ) (base : Option Location) → position.node ≡ None → IsLocationOfPath trie path position.base base
      → AreOthersAt (λ name found. found_below trie (at_root root) (path ++ name ∷ []) ≡ found) names base
  AreOthersAt-none names base none location name small =
      inr (found-child name ∙ ap (λ node. found_at trie (child_at trie (record { node = node; base = path_base_view trie path position.base }) name)) none
      ∙ sym (location (name ∷ [])))

  -- where there is one it is so at each name that is not among its children
  pub AreOthersAt-node : (node : Node) (names : List ℕ) (base : Option Location) → position.node ≡ Some node → HaveMapNames trie.child_maps node.children 0 1 names
      → IsLocationOfPath trie path (base_of_path node.base position.base (length path)) base
      → AreOthersAt (λ name found. found_below trie (at_root root) (path ++ name ∷ []) ≡ found) names base
  AreOthersAt-node node names base some has location name small = by (child_in trie.child_maps node.children name.0) refl
    where
      over : LookOfNumbers
      over = path_base_view trie path position.base

      by : (child : Option NodeId) → child_in trie.child_maps node.children name.0 ≡ child
          → Contains names name.0 ⊎ (found_below trie (at_root root) (path ++ name ∷ []) ≡ as_at base (name ∷ []))
      by (Some id) child_is =
          let number : 0 + 1 * name.0 ≡ name.0 = omega arith in
          inl (subst (Contains names) number (has name.0 id child_is (omega (arith, small))))
      by None child_is =
          inr (found-child name
          ∙ ap (λ each. found_at trie (child_at trie (record { node = each; base = over }) name)) some
          ∙ ap (λ child. found_at trie (record { node = option_and_then (λ (id : NodeId). slice_get trie.nodes id.0) child; base = λ rest. base_look trie node.base over (name ∷ rest) })) child_is
          ∙ ap (λ look. look (name ∷ [])) (sym (path_base_view-base_of_path trie node.base path position.base))
          ∙ sym (location (name ∷ [])))

-- ---- in the trees of a block

-- names that were kept stay
pub AreOthersAt-kept : (found : NameId → Found NameId ValueId → Type 0) (old new : List ℕ) (base : Option Location) → AreKept old new
    → AreOthersAt found old base → AreOthersAt found new base
AreOthersAt-kept found old new base kept others name small = elim (others name small) [ inl among ↦ inl (kept name.0 among) | inr other ↦ inr other ]

-- what is resolved stays
pub resolved-again : (lo : ℕ) (each : Found NameId ValueId) → resolved lo (resolved lo each) ≡ resolved lo each
resolved-again zero (at [] tick) = refl
resolved-again zero (at (c ∷ path) tick) = refl
resolved-again zero (at_with [] tick mi) = refl
resolved-again zero (at_with (c ∷ path) tick mi) = refl
resolved-again zero (is kind mi) = refl
resolved-again zero absent = refl
resolved-again (suc lo) each = refl

-- what is said of names directly below a location
abbrev pub SaysBelow : Trees → Option Location → NameId → Found NameId ValueId → Type 0
SaysBelow trees found name says = resolved trees.start says ≡ resolved trees.start (look_through_trees trees (as_at found (name ∷ [])))

-- nothing stands below nothing
pub AreOthersAt-absent : (trees : Trees) (names : List ℕ) → AreOthersAt (SaysBelow trees None) names None
AreOthersAt-absent trees names name small = inr refl

-- of a tick before the records nothing is said
pub AreOthersAt-before : (trees : Trees) (location : Location) (names : List ℕ) → location.tick ≤ trees.start → AreOthersAt (SaysBelow trees (Some location)) names (Some location)
AreOthersAt-before trees location names before name small =
    inr (sym (ap (resolved trees.start) (look_from-before same_name trees.start trees.records.items location.tick (location.path ++ name ∷ []) before)))

-- of a later one the trie tells
pub AreOthersAt-after : (trees : Trees) (root : Node) (location : Location) (names : List ℕ) (base kept : Option Location) → location.tick ≤ end_of_trees trees → ShowsTick trees location.tick root
    → AreOthersAt (λ name found. found_below trees.trie (at_root root) (location.path ++ name ∷ []) ≡ found) names base
    → ((rest : List NameId) → IsFoundUpTo trees.start (as_at base rest) → as_at kept rest ≡ as_at base rest) → AreOthersAt (SaysBelow trees (Some location)) names kept
AreOthersAt-after trees root location names base kept within shows others same name small = elim (others name small) [
  | inl among ↦ inl among
  | inr shown ↦
      let path = location.path ++ name ∷ [] in
      let says : as_at base (name ∷ []) ≡ look_in_trees trees location.tick path = sym shown ∙ shows path in
      let earlier = IsFoundUpTo-earlier trees.start (look_in_trees trees location.tick path) (IsFoundAtOrBefore-look same_name trees.start trees.records.items location.tick path) in
      inr (ap (resolved trees.start) (same (name ∷ []) (subst (IsFoundUpTo trees.start) (sym says) earlier) ∙ says)
      ∙ resolved-again trees.start (look same_name trees.start trees.records.items location.tick path)
      ∙ ap (resolved trees.start) (sym (look_from-within same_name trees.start trees.records.items location.tick path within)))
]

-- ---- in the blocks of a map

-- what the blocks that are left say is what all of them say of names directly below a location
abbrev pub SaysAsAll : List Trees → Option Location → List Trees → NameId → Found NameId ValueId → Type 0
SaysAsAll all first left name says =
    resolved 0 (look_through same_name 0 (block_records left) says) ≡ resolved 0 (look_through same_name 0 (block_records all) (as_at first (name ∷ [])))

-- and so it is once the last one was asked
pub AreOthersAt-earlier : (all earlier : List Trees) (first before after : Option Location) (last : Trees) (old new : List ℕ) → AreBlocksFrom 0 (earlier ++ last ∷ [])
    → AreKept old new → AreOthersAt (SaysAsAll all first (earlier ++ last ∷ [])) old before → AreOthersAt (SaysBelow last before) new after
    → AreOthersAt (SaysAsAll all first earlier) new after
AreOthersAt-earlier all earlier first before after last old new are kept was others name small = elim (was name small) [
  | inl among ↦ inl (kept name.0 among)
  | inr all_say ↦ elim (others name small) [
    | inl among ↦ inl among
    | inr last_says ↦ inr (through-earlier 0 earlier last (as_at after (name ∷ [])) (look_through_trees last (as_at before (name ∷ []))) are last_says
        ∙ ap (resolved 0) (sym (through-last 0 earlier last (as_at before (name ∷ [])) are)) ∙ all_say)
  ]
]

-- where a history begins nothing is below any location
nothing-below : (location : Option Location) (name : NameId) → resolved 0 (as_at location (name ∷ [])) ≡ absent
nothing-below None name = refl
nothing-below (Some location) name = by location.path
  where
    by : (path : List NameId) → resolved {C = NameId} {M = ValueId} 0 (at (path ++ name ∷ []) location.tick) ≡ absent
    by [] = refl
    by (c ∷ path) = refl

pub AreOthersAt-end : (all : List Trees) (first last : Option Location) (names : List ℕ) → AreOthersAt (SaysAsAll all first []) names last
    → AreOthersAt (λ name _. resolved 0 (look_through same_name 0 (block_records all) (as_at first (name ∷ []))) ≡ absent) names None
AreOthersAt-end all first last names others name small = elim (others name small) [
  | inl among ↦ inl among
  | inr says ↦ inr (sym says ∙ ap (resolved 0) (look_through-none same_name 0 (as_at last (name ∷ []))) ∙ nothing-below last name)
]

-- what all blocks say of paths at a tick
abbrev standing_in_blocks : List Trees → ℕ → List NameId → Option (Standing ValueId)
standing_in_blocks blocks tick path = standing_of (resolved 0 (look same_name 0 (block_records blocks) tick path))

-- so those are all names at which something stands
pub HaveAllNames-blocks : (all front : List Trees) (tick : ℕ) (path : List NameId) (names : List ℕ) → AreBlocksFrom 0 all → AreBlocksBefore tick all front
    → tick ≤ length (block_records all)
    → AreOthersAt (λ name _. resolved 0 (look_through same_name 0 (block_records front) (as_at (Some (record { path = path; tick = tick })) (name ∷ []))) ≡ absent) names None
    → HaveAllNames (standing_in_blocks all tick) path names
HaveAllNames-blocks all front tick path names are before within others name kind small stands = elim (others name small) [
  | inl among ↦ among
  | inr none ↦
      let below = path ++ name ∷ [] in
      let same = look_from-within same_name 0 (block_records front) tick below (end-front 0 tick below all front are before (omega (arith, within))) in
      let gone : resolved 0 (look same_name 0 (block_records all) tick below) ≡ absent =
      ap (resolved 0) (look-before 0 tick below all front are before (omega (arith, within)) ∙ sym same) ∙ none in
      let never : None ≡ Some kind = sym (ap (λ found. option_map (λ (each : Standing ValueId). each.kind) (standing_of found)) gone) ∙ stands in
      cc
]

-- ---- names that are tried

-- what stands at these names directly below a path
pub record AreChildrenAmong (standing : List NameId → Option (Standing ValueId)) (path : List NameId) (names : List ℕ) (children : List Child) : Type 0 where
  pub distinct : AllPairs (λ one other. one.name ≢ other.name) children
  pub sound : (child : Child) → Contains children child → kind_below standing path child.name ≡ Some child.kind
  pub among : (child : Child) → Contains children child → Contains names child.name.0
  pub complete : (name : NameId) (kind : Kind) → Contains names name.0 → kind_below standing path name ≡ Some kind
      → Contains children (record { name = name; kind = kind })

-- each number before one in a list that rises is less
pub before-less : (names : List ℕ) (index each : ℕ) → IsStrictlyIncreasing names → index < length names → each ≡ get_or names index 0 → All (λ name. name < each) (take index names)
before-less names index each rises inside each_is k d within =
    let front : k < index = omega (arith, within, length-take index names) in
    let less = AllPairs-from_increasing names rises k index d front inside in
    omega (arith, less, get_or-take index names k d front, each_is, get_or_default names index d 0 inside)

module _ (standing : List NameId → Option (Standing ValueId)) (path : List NameId) where
  pub AreChildrenAmong-nil : AreChildrenAmong standing path [] []
  AreChildrenAmong-nil = record {
    distinct = λ i j d less within. absurd (omega (arith, within));
    sound = λ child has. absurd (omega (arith, has.1));
    among = λ child has. absurd (omega (arith, has.1));
    complete = λ name kind has stands. absurd (omega (arith, has.1));
  }

  module _ (front : List ℕ) (each : ℕ) (children : List Child) (are : AreChildrenAmong standing path front children) where
    -- nothing stands at one more
    pub AreChildrenAmong-none : kind_below standing path (record { 0 = each }) ≡ None → AreChildrenAmong standing path (front ++ each ∷ []) children
    AreChildrenAmong-none none = record {
      distinct = are.distinct;
      sound = are.sound;
      among = λ child has. Contains-append_left front (each ∷ []) child.name.0 (are.among child has);
      complete = λ name kind has stands. elim (Contains-push_cases front each name.0 has) [
        | inl before ↦ are.complete name kind before stands
        | inr last ↦
            let P : ℕ → Type 0 = λ number. kind_below standing path (record { 0 = number }) ≡ Some kind in
            let never : None ≡ Some kind = sym none ∙ subst P (sym last) stands in
            cc
      ];
    }

    -- or something does
    pub AreChildrenAmong-some : (kind : Kind) → kind_below standing path (record { 0 = each }) ≡ Some kind → All (λ name. name < each) front
        → AreChildrenAmong standing path (front ++ each ∷ []) (children ++ record { name = record { 0 = each }; kind = kind } ∷ [])
    AreChildrenAmong-some kind some less = record {
      distinct = all_pairs_push (λ (one other : Child). one.name ≢ other.name) children child are.distinct (λ k d within same.
          let before = All-contains (λ name. name < each) front (get_or children k d).name.0 less (are.among (get_or children k d) (Contains-get_or children k d within)) in
          absurd (omega (arith, before, ap (λ (name : NameId). name.0) same)));
      sound = λ one has. elim (Contains-push_cases children child one has) [
        | inl before ↦ are.sound one before
        | inr last ↦ let P : Child → Type 0 = λ one. kind_below standing path one.name ≡ Some one.kind in subst P last some
      ];
      among = λ one has. elim (Contains-push_cases children child one has) [
        | inl before ↦ Contains-append_left front (each ∷ []) one.name.0 (are.among one before)
        | inr last ↦ let P : Child → Type 0 = λ one. Contains (front ++ each ∷ []) one.name.0 in subst P last (Contains-push front each)
      ];
      complete = λ name other has stands. elim (Contains-push_cases front each name.0 has) [
        | inl before ↦ Contains-append_left children (child ∷ []) (record { name = name; kind = other }) (are.complete name other before stands)
        | inr last ↦ by name other last stands
      ];
    }
      where
        child : Child
        child = record { name = record { 0 = each }; kind = kind }

        by : (name : NameId) (other : Kind) → each ≡ name.0 → kind_below standing path name ≡ Some other → Contains (children ++ child ∷ []) (record { name = name; kind = other })
        by name other last stands =
            let P : ℕ → Type 0 = λ number. kind_below standing path (record { 0 = number }) ≡ Some other in
            let kinds : kind ≡ other = same_Some kind other (sym some ∙ subst P (sym last) stands) in
            let is : child ≡ record { name = name; kind = other } = λ i. record { name = record { 0 = last i }; kind = kinds i } in
            subst (Contains (children ++ child ∷ [])) is (Contains-push children child)

    -- by what is kept of it
    pub AreChildrenAmong-push : (entry : Option Entry) → option_map entry_view entry ≡ standing (path ++ record { 0 = each } ∷ []) → All (λ name. name < each) front
        → AreChildrenAmong standing path (front ++ each ∷ []) (children ++ child_with (record { 0 = each }) entry)
    AreChildrenAmong-push None stands less =
        subst (AreChildrenAmong standing path (front ++ each ∷ [])) (sym (append-nil children))
        (AreChildrenAmong-none (sym (ap (option_map (λ (one : Standing ValueId). one.kind)) stands)))
    AreChildrenAmong-push (Some entry) stands less =
        AreChildrenAmong-some entry.kind (sym (ap (option_map (λ (one : Standing ValueId). one.kind)) stands)) less

  -- all of them
  pub AreChildren-all : (names : List ℕ) (children : List Child) → AreChildrenAmong standing path names children → HaveAllNames standing path names → AreChildren standing path children
  AreChildren-all names children are all = record {
    distinct = are.distinct;
    sound = are.sound;
    complete = λ name kind small stands. are.complete name kind (all name kind small stands) stands;
  }
