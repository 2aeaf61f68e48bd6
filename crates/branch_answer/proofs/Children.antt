-- The children of a path in the order of their names: what is found among them, and that they are those of the tree.
use Rattle.std.proofs.Common.{◌≡◌, ◌≢◌, ℕ, zero, suc, ◌<◌, ◌∙◌, ◌++◌, ◌&&◌, Bool, true, false, cond, List, [], ◌∷◌, Option, None, Some, All, Bor, inl, inr, refl, sym, ap, subst, arith, bytes_eq, get_or, is_some, length, option_map, if◌then◌else◌}
use Rattle.std.proofs.lemmas.Bool.{both_ways, cases_Bool, false_from_ne_true}
use Rattle.std.proofs.lemmas.Cmp.{nat_list_cmp_total, nat_list_eq_equiv}
use Rattle.std.proofs.lemmas.List.{get_or-map, length-map}
use Rattle.std.proofs.lemmas.List.Elements.{All-contains, All-contains_itself, All-map, All-weaker}
use Rattle.std.proofs.lemmas.List.Sorted.{All-permutation, Contains-permutation, ranks_by, sorted_far}
use Rattle.std.proofs.lemmas.Map.Keys.{IsDistinct-IsPermutation, IsDistinct-from_apart, apart_from_distinct}
use Rattle.std.proofs.lemmas.Map.Text.{is_eq-slice_cmp}
use Rattle.std.proofs.lemmas.Option.{none-some, same_Some}
use Rattle.std.specs.BTreeMap.{insert_entry}
use Rattle.std.specs.Cmp.Lexicographic.{slice_cmp}
use Rattle.std.specs.FinMap.{nat_cmp-IsAntisymmetric, slice_cmp-IsAntisymmetric}
use Rattle.std.specs.FinMap.Entries.{below_all, by_order, find, find-put, is_sorted, is_sorted-put, put, same_entries}
use Rattle.std.specs.List.{AllPairs, Contains, IsDistinct}
use Rattle.std.specs.Ordering.{eq_by_cmp, is_lt, match_ordering, nat_cmp, ordering_reverse}
use Rattle.std.specs.declared.cmp.Ordering.{Ordering}
use Rattle.std.specs.declared.cmp.Ordering.TheVariants.{Less, Equal, Greater}
use Rattle.std.specs.Prelude.{T, option_and_then}
use Rattle.svn_path.proofs.Belows.{below-Some, below-append, same_path-is}
use Rattle.svn_path.specs.Below.{below, same_path}
use Rattle.svn_path.specs.Names.{name_of}
use Rattle.svn_path.specs.Path.{components_of}
use Rattle.svn_path.specs.declared.names.NameId.{NameId}
use Rattle.svn_dump.specs.Dump.{DumpValue}
use Rattle.svn_dump.specs.Tree.{Entry, tree_of}
unfoldable use Rattle.svn_dump.specs.Tree.{entry_at}
use Rattle.svn_dump.specs.declared.record.Kind.{Kind}
use Rattle.svn_dump.specs.declared.record.Kind.TheVariants.{File}
use Rattle.block_map.proofs.RevisionStates.{standing_of_entry}
use Rattle.block_map.specs.Standing.{Standing}
use Rattle.block_map.specs.declared.entry.Child.{Child}
use Rattle.query_answer.proofs.StandingsInBytes.{IsSame-bytes_eq}
use Rattle.query_answer.specs.Repo.{trees_in_bytes}
use Rattle.query_answer.specs.Standings.{AreChildrenIn, kind_below_in}
use Rattle.branch_answer.specs.KeptChildren.{AreInOrder, child_in_bytes, children_in_bytes, entries_in_bytes, entry_in_bytes}
use Rattle.branch_answer.specs.Listing.{TreeOfBytes, name_below, only_component, with_child}
unfoldable use Rattle.branch_answer.specs.Listing.{children_of}

abbrev name_cmp : List ℕ → List ℕ → Ordering
name_cmp = slice_cmp nat_cmp

-- names with their kinds
abbrev Named : Type 0
Named = List (List ℕ × Kind)

-- the kind at a name
abbrev kind_in : Named → List ℕ → Option Kind
kind_in entries name = find name_cmp name entries

-- ---- one more in its place

-- std's maps and its finite maps as values put an entry in the same place
insert_entry-put : (entries : Named) (name : List ℕ) (kind : Kind) → insert_entry name_cmp entries name kind ≡ put name_cmp name kind entries
insert_entry-put [] name kind = refl
insert_entry-put (e ∷ entries) name kind =
    elim (name_cmp name e.0) as (λ o. match_ordering o ((name, kind) ∷ e ∷ entries) ((e.0, kind) ∷ entries) (e ∷ insert_entry name_cmp entries name kind)
    ≡ by_order o ((name, kind) ∷ e ∷ entries) ((e.0, kind) ∷ entries) (e ∷ put name_cmp name kind entries)) [
      | Less ↦ refl
      | Equal ↦ refl
      | Greater ↦ ap (λ more. e ∷ more) (insert_entry-put entries name kind)
    ]

AreSorted-insert : (entries : Named) (name : List ℕ) (kind : Kind) → T (is_sorted name_cmp entries) → T (is_sorted name_cmp (insert_entry name_cmp entries name kind))
AreSorted-insert entries name kind sorted = subst (λ all. T (is_sorted name_cmp all)) (sym (insert_entry-put entries name kind)) (is_sorted-put name_cmp nat_list_cmp_total name kind entries sorted)

-- the name has the kind, and other names keep theirs
kind_in-insert : (entries : Named) (name : List ℕ) (kind : Kind) (each : List ℕ) → kind_in (insert_entry name_cmp entries name kind) each ≡ cond (bytes_eq each name) (Some kind) (kind_in entries each)
kind_in-insert entries name kind each =
    ap (λ all. kind_in all each) (insert_entry-put entries name kind) ∙ find-put name_cmp nat_list_cmp_total each name kind entries
    ∙ ap (λ same. cond same (Some kind) (kind_in entries each)) (is_eq-slice_cmp each name)

-- ---- entries that are sorted

both : (a b : Bool) → T a → T b → T (a && b)
both true b p q = q
both false b p q = absurd p

-- of two names that differ, of which the second is not below the first, the first is below the second
below_other : (name other : List ℕ) → is_lt (name_cmp other name) ≡ false → name ≢ other → name_cmp name other ≡ Less
below_other name other not_below differ = by (name_cmp name other) refl
  where
    by : (o : Ordering) → name_cmp name other ≡ o → o ≡ Less
    by Less is = refl
    by Equal is = absurd (differ (slice_cmp-IsAntisymmetric nat_cmp-IsAntisymmetric name other is))
    by Greater is = absurd (both_ways _ not_below (ap is_lt (nat_list_cmp_total.antisymm other name ∙ ap ordering_reverse is)))

-- lent names with their kinds
abbrev Lent : Type 0
Lent = List (Bor (List ℕ) × Kind)

abbrev Rise : Lent → Type 0
Rise entries = AllPairs (λ one other. name_cmp one.0.now other.0.now ≡ Less) entries

below_all-Rise : (name : List ℕ) (entries : Lent) → ((k : ℕ) (d : Bor (List ℕ) × Kind) → k < length entries → name_cmp name (get_or entries k d).0.now ≡ Less)
    → T (below_all name_cmp name (entries_in_bytes entries))
below_all-Rise name [] below = tt
below_all-Rise name (e ∷ entries) below =
    both (is_lt (name_cmp name e.0.now)) (below_all name_cmp name (entries_in_bytes entries))
    (subst (λ o. T (is_lt o)) (sym (below 0 e (omega arith))) tt) (below_all-Rise name entries (λ k d within. below (suc k) d (omega (arith, within))))

is_sorted-Rise : (entries : Lent) → Rise entries → T (is_sorted name_cmp (entries_in_bytes entries))
is_sorted-Rise [] rise = tt
is_sorted-Rise (e ∷ entries) rise =
    both (below_all name_cmp e.0.now (entries_in_bytes entries)) (is_sorted name_cmp (entries_in_bytes entries))
    (below_all-Rise e.0.now entries (λ k d within. rise 0 (suc k) d (omega arith) (omega (arith, within))))
    (is_sorted-Rise entries (λ i j d before within. rise (suc i) (suc j) d (omega (arith, before)) (omega (arith, within))))

-- a kind that is found at a name is that of an entry
Contains-kind_in : (entries : Named) (name : List ℕ) (kind : Kind) → kind_in entries name ≡ Some kind → Contains entries (name, kind)
Contains-kind_in [] name kind found = absurd (none-some kind found)
Contains-kind_in (e ∷ entries) name kind found = by (eq_by_cmp name_cmp name e.0) refl found (Contains-kind_in entries name kind)
  where
    by : (b : Bool) → eq_by_cmp name_cmp name e.0 ≡ b → cond b (Some e.1) (kind_in entries name) ≡ Some kind
        → (kind_in entries name ≡ Some kind → Contains entries (name, kind)) → Contains (e ∷ entries) (name, kind)
    by true same is rest =
        let names : name ≡ e.0 = IsSame-bytes_eq.true_is name e.0 (sym (is_eq-slice_cmp name e.0) ∙ same) in
        (0, omega arith, λ i. (sym names i, same_Some e.1 kind is i))
    by false other is rest = let (k, within, at) = rest is in (suc k, omega (arith, within), at)

-- a kind is found at the name of each entry
is_some-kind_in : (entries : Named) (entry : List ℕ × Kind) → Contains entries entry → is_some (kind_in entries entry.0) ≡ true
is_some-kind_in [] entry (k, within, is) = absurd (omega (arith, within))
is_some-kind_in (e ∷ entries) entry (zero, within, is) =
    let same : eq_by_cmp name_cmp e.0 e.0 ≡ true = is_eq-slice_cmp e.0 e.0 ∙ IsSame-bytes_eq.itself e.0 in
    subst (λ (each : List ℕ × Kind). is_some (kind_in (e ∷ entries) each.0) ≡ true) is (ap (λ b. is_some (cond b (Some e.1) (kind_in entries e.0))) same)
is_some-kind_in (e ∷ entries) entry (suc k, within, is) =
    elim (eq_by_cmp name_cmp entry.0 e.0) as (λ b. is_some (cond b (Some e.1) (kind_in entries entry.0)) ≡ true) [
      | true ↦ refl
      | false ↦ is_some-kind_in entries entry (k, omega (arith, within), is)
    ]

-- ---- children in a tree

abbrev kind_of_entry : Option (Entry (List ℕ) (List ℕ)) → Option Kind
kind_of_entry entry = option_map (λ (each : Standing (List ℕ)). each.kind) (option_map standing_of_entry entry)

-- the kind of what stands at a path
abbrev kind_at : TreeOfBytes → List (List ℕ) → Option Kind
kind_at tree path = kind_of_entry (entry_at bytes_eq tree path)

kind_at-cons : (each : List (List ℕ) × Entry (List ℕ) (List ℕ)) (tree : TreeOfBytes) (path : List (List ℕ))
    → kind_at (each ∷ tree) path ≡ cond (same_path bytes_eq each.0 path) (Some each.1.kind) (kind_at tree path)
unfolding entry_at
kind_at-cons each tree path =
    elim (same_path bytes_eq each.0 path) as (λ b. kind_of_entry (if b then Some each.1 else entry_at bytes_eq tree path) ≡ cond b (Some each.1.kind) (kind_at tree path)) [
      | true ↦ refl
      | false ↦ refl
    ]

-- its names below a path are in order
AreSorted-children_of : (tree : TreeOfBytes) (path : List (List ℕ)) → T (is_sorted name_cmp (children_of tree path))
unfolding children_of
AreSorted-children_of [] path = tt
AreSorted-children_of (each ∷ tree) path =
    elim (name_below path each.0) as (λ o. T (is_sorted name_cmp (with_child o each.1.kind (children_of tree path)))) [
      | None ↦ AreSorted-children_of tree path
      | Some name ↦ AreSorted-insert (children_of tree path) name each.1.kind (AreSorted-children_of tree path)
    ]

only_component-Some : (rest : List (List ℕ)) (name : List ℕ) → only_component rest ≡ Some name → rest ≡ name ∷ []
only_component-Some [] name is = absurd (none-some _ is)
only_component-Some (first ∷ []) name is = ap (λ each. each ∷ []) (same_Some first name is)
only_component-Some (first ∷ next ∷ rest) name is = absurd (none-some _ is)

-- a path with a name directly below another one is that one with the name behind
name_below-Some : (above path : List (List ℕ)) (name : List ℕ) → name_below above path ≡ Some name → path ≡ above ++ name ∷ []
name_below-Some above path name is = by (below bytes_eq above path) refl is
  where
    by : (o : Option (List (List ℕ))) → below bytes_eq above path ≡ o → option_and_then only_component o ≡ Some name → path ≡ above ++ name ∷ []
    by None left is = absurd (none-some _ is)
    by (Some rest) left is = (below-Some IsSame-bytes_eq above path rest).0 left ∙ ap (λ more. above ++ more) (only_component-Some rest name is)

name_below-push : (above : List (List ℕ)) (name : List ℕ) → name_below above (above ++ name ∷ []) ≡ Some name
name_below-push above name = ap (option_and_then only_component) (below-append IsSame-bytes_eq above (name ∷ []))

-- so it is told by the name whether two paths below a path are the same
same_path-name : (above path : List (List ℕ)) (name : List ℕ) → same_path bytes_eq path (above ++ name ∷ [])
    ≡ elim (name_below above path) [ None ↦ false | Some each ↦ bytes_eq name each ]
same_path-name above path name = by (name_below above path) refl
  where
    name_is : same_path bytes_eq path (above ++ name ∷ []) ≡ true → name_below above path ≡ Some name
    name_is same = ap (name_below above) ((same_path-is IsSame-bytes_eq path (above ++ name ∷ [])).0 same) ∙ name_below-push above name

    by : (o : Option (List ℕ)) → name_below above path ≡ o → same_path bytes_eq path (above ++ name ∷ []) ≡ elim o [ None ↦ false | Some each ↦ bytes_eq name each ]
    by None none = false_from_ne_true (same_path bytes_eq path (above ++ name ∷ [])) (λ same. none-some name (sym none ∙ name_is same))
    by (Some each) is = elim (cases_Bool (bytes_eq name each)) [
      | inl same ↦
          rw same ((same_path-is IsSame-bytes_eq path (above ++ name ∷ [])).1 (name_below-Some above path each is ∙ ap (λ one. above ++ one ∷ []) (sym (IsSame-bytes_eq.true_is name each same))))
      | inr other ↦
          rw other (false_from_ne_true (same_path bytes_eq path (above ++ name ∷ [])) (λ same. both_ways (bytes_eq name each) other (ap (bytes_eq name) (same_Some each name (sym is ∙ name_is same)) ∙ IsSame-bytes_eq.itself name)))
    ]

-- the names directly below a path have the kinds of what stands there
kind_in-children_of : (tree : TreeOfBytes) (path : List (List ℕ)) (name : List ℕ) → kind_in (children_of tree path) name ≡ kind_at tree (path ++ name ∷ [])
unfolding children_of entry_at
kind_in-children_of [] path name = refl
kind_in-children_of (each ∷ tree) path name =
    elim (name_below path each.0) as (λ o. kind_in (with_child o each.1.kind (children_of tree path)) name
    ≡ cond (elim o [ None ↦ false | Some own ↦ bytes_eq name own ]) (Some each.1.kind) (kind_at tree (path ++ name ∷ []))) [
      | None ↦ kind_in-children_of tree path name
      | Some own ↦ kind_in-insert (children_of tree path) own each.1.kind name ∙ ap (λ kind. cond (bytes_eq name own) (Some each.1.kind) kind) (kind_in-children_of tree path name)
    ]
    ∙ ap (λ b. cond b (Some each.1.kind) (kind_at tree (path ++ name ∷ []))) (sym (same_path-name path each.0 name))
    ∙ sym (kind_at-cons each tree (path ++ name ∷ []))

-- ---- the children of a path of a dump

abbrev same_names : List ℕ × Kind → List ℕ × Kind → Bool
same_names one other = bytes_eq one.0 other.0

module _ (dump : DumpValue) (path : List NameId) (rev : ℕ) (children : List Child) (are : AreChildrenIn dump path rev children)
    (entries : Lent) (order : AreInOrder dump.names children entries) where
  -- the names of the entries differ, as those of the children do
  IsDistinct-children : IsDistinct same_names (children_in_bytes dump.names children)
  IsDistinct-children = IsDistinct-from_apart same_names (children_in_bytes dump.names children) apart
    where
      apart : (i j : ℕ) (d : List ℕ × Kind) → i < j → j < length (children_in_bytes dump.names children)
          → same_names (get_or (children_in_bytes dump.names children) i d) (get_or (children_in_bytes dump.names children) j d) ≡ false
      apart i j d before within =
          let first : Child = record { name = record { 0 = 0 }; kind = File } in
          let in_children : j < length children = omega (arith, within, length-map children (child_in_bytes dump.names)) in
          let one = get_or-map (child_in_bytes dump.names) children i first d (omega (arith, before, in_children)) in
          let other = get_or-map (child_in_bytes dump.names) children j first d in_children in
          (λ k. same_names (one k) (other k))
          ∙ false_from_ne_true (bytes_eq (name_of dump.names (get_or children i first).name.0) (name_of dump.names (get_or children j first).name.0))
          (λ same. are.distinct i j first before in_children (IsSame-bytes_eq.true_is _ _ same))

  differ : (i j : ℕ) (d : Bor (List ℕ) × Kind) → i < j → j < length entries → (get_or entries i d).0.now ≢ (get_or entries j d).0.now
  differ i j d before within same =
      let distinct = IsDistinct-IsPermutation same_names (λ one other. nat_list_eq_equiv.symm one.0 other.0)
      (children_in_bytes dump.names children) (entries_in_bytes entries) order.moved IsDistinct-children in
      let all : j < length (entries_in_bytes entries) = omega (arith, within, length-map entries entry_in_bytes) in
      let one = get_or-map entry_in_bytes entries i d (entry_in_bytes d) (omega (arith, before, within)) in
      let other = get_or-map entry_in_bytes entries j d (entry_in_bytes d) within in
      both_ways _ (apart_from_distinct same_names (entries_in_bytes entries) i j (entry_in_bytes d) distinct before all)
      ((λ k. same_names (one k) (other k)) ∙ ap (bytes_eq (get_or entries i d).0.now) (sym same) ∙ IsSame-bytes_eq.itself (get_or entries i d).0.now)

  Rise-entries : Rise entries
  Rise-entries i j d before within =
      below_other (get_or entries i d).0.now (get_or entries j d).0.now
      (sorted_far (λ (x y : Bor (List ℕ) × Kind). is_lt (name_cmp x.0.now y.0.now)) (ranks_by nat_list_cmp_total (λ (entry : Bor (List ℕ) × Kind). entry.0.now))
      entries order.sorted i j d (omega (arith, before)) within)
      (differ i j d before within)

  -- each entry has the kind of what stands at its name, and no name is left out
  sound : All (λ (entry : List ℕ × Kind). kind_below_in dump rev path entry.0 ≡ Some entry.1) (entries_in_bytes entries)
  sound =
      All-permutation (λ (entry : List ℕ × Kind). kind_below_in dump rev path entry.0 ≡ Some entry.1) (children_in_bytes dump.names children) (entries_in_bytes entries) order.moved
      (All-map (λ (entry : List ℕ × Kind). kind_below_in dump rev path entry.0 ≡ Some entry.1) (child_in_bytes dump.names) children
      (All-weaker (Contains children) (λ (child : Child). kind_below_in dump rev path (name_of dump.names child.name.0) ≡ Some child.kind) are.sound children (All-contains_itself children)))

  complete : (child : Child) → Contains children child → Contains (entries_in_bytes entries) (child_in_bytes dump.names child)
  complete child (k, within, is) =
      Contains-permutation (children_in_bytes dump.names children) (entries_in_bytes entries) (child_in_bytes dump.names child) order.moved (
        k,
        omega (arith, within, length-map children (child_in_bytes dump.names)),
        get_or-map (child_in_bytes dump.names) children k child (child_in_bytes dump.names child) within ∙ ap (child_in_bytes dump.names) is,
      )

  kind_in-entries : (name : List ℕ) → kind_in (entries_in_bytes entries) name ≡ kind_below_in dump rev path name
  kind_in-entries name = by (kind_in (entries_in_bytes entries) name) refl (kind_below_in dump rev path name) refl
    where
      by : (found : Option Kind) → kind_in (entries_in_bytes entries) name ≡ found → (stands : Option Kind) → kind_below_in dump rev path name ≡ stands → found ≡ stands
      by (Some kind) found stands at =
          sym (All-contains (λ (entry : List ℕ × Kind). kind_below_in dump rev path entry.0 ≡ Some entry.1) (entries_in_bytes entries) (name, kind) sound (Contains-kind_in (entries_in_bytes entries) name kind found)) ∙ at
      by None found None at = refl
      by None found (Some kind) at =
          let (child, among, named, _) = are.complete name kind at in
          let there = subst (λ each. is_some (kind_in (entries_in_bytes entries) each) ≡ true) named (is_some-kind_in (entries_in_bytes entries) (child_in_bytes dump.names child) (complete child among)) in
          absurd (both_ways _ (ap is_some found) there)

  -- so they are those of the tree
  pub entries_in_bytes-are : entries_in_bytes entries ≡ children_of (tree_of (trees_in_bytes dump) rev) (components_of dump.names path)
  entries_in_bytes-are =
      let tree = tree_of (trees_in_bytes dump) rev in
      let above = components_of dump.names path in
      same_entries name_cmp nat_list_cmp_total (slice_cmp-IsAntisymmetric nat_cmp-IsAntisymmetric) (entries_in_bytes entries) (children_of tree above)
      (is_sorted-Rise entries Rise-entries) (AreSorted-children_of tree above)
      (λ name. kind_in-entries name ∙ sym (kind_in-children_of tree above name))
