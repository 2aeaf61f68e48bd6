-- The first fault of a record is told by what stands at ticks.
use Rattle.block_map.proofs.Common.{◌≡◌, ℕ, ◌+◌, ◌-◌, ◌<◌, ◌≤◌, Bool, true, false, inl, inr, if◌then◌else◌, List, [], ◌∷◌, ◌++◌, Option, None, Some, fold, flat_map, get_or, is_some, length, map, option_map, refl, sym, ap, subst, ◌∙◌, arith, option_or, cases_lt, lt-ltb, le-ltb, get_or_append_left, get_or-append_right, get_or-map, length-map, get_or_from_slice_get, slice_get_within, slice_get-get_or, parent_of, same_name, NameId, IsSame, IsSame-same_name, DumpValue, IsDump, action_view, record_view, history_view, missing, exists, no_parent, no_source, is_dir, has_parent, fault_if_missing, fault_of_target, fault_of_source, fault_of, Action, delete, change, add, copy, History, Record, fault_of_next_record, fault_of_next_record_from, fault_within, state_from, tree_within, Tree, Entry, entry_at, is_there, tree_of, with_revision, trees_of, NodeRecord, fault_of-delete, fault_of-change, fault_of-add, fault_of-copy, length-with_revision, tree_of-revisions, action_at_tick, end_of, ends_of, Standings, is_dir_standing, has_parent_standing, missing_found, target_found, source_found, fault_found, state_in, standing_at}
use Rattle.std.proofs.Common.{option_and_then}
use Rattle.std.specs.List.{slice_get}
use Rattle.std.proofs.lemmas.List.{length-append}
use Rattle.block_map.proofs.RevisionEnds.{ends_of-at}
use Rattle.block_map.proofs.RevisionStates.{standing_of_entry, standing_past, standing_revision, state_from-within, lengths-history_view, length-history_view}
use Rattle.block_map.proofs.Sources.{IsFromBelow, AreFromBelow, AreFromBelow-history_view}
use Rattle.block_map.proofs.Standings.{all_records-history_view}

-- ---- an element of a list

-- of a list followed by another
slice_get_left : {X : Type 0} (xs ys : List X) (k : ℕ) (x : X) → k < length xs → slice_get (xs ++ ys) k ≡ Some x → slice_get xs k ≡ Some x
slice_get_left xs ys k x within at =
    slice_get-get_or xs k x within ∙ ap (λ y. Some y) (sym (get_or_append_left xs ys x k within) ∙ get_or_from_slice_get (xs ++ ys) k x x at)

-- of the list that follows
slice_get_right : {X : Type 0} (xs ys : List X) (k : ℕ) (x : X) → length xs ≤ k → slice_get (xs ++ ys) k ≡ Some x
    → slice_get ys (k - length xs) ≡ Some x
slice_get_right xs ys k x past at =
    let within : k < length (xs ++ ys) = slice_get_within (xs ++ ys) k x at in
    slice_get-get_or ys (k - length xs) x (omega (arith, length-append xs ys))
    ∙ ap (λ y. Some y) (sym (get_or-append_right xs ys (length xs) k x refl past) ∙ get_or_from_slice_get (xs ++ ys) k x x at)

-- of a mapped list
slice_get-map : {X Y : Type 0} (f : X → Y) (xs : List X) (k : ℕ) (x : X) → slice_get xs k ≡ Some x → slice_get (map f xs) k ≡ Some (f x)
slice_get-map f xs k x at =
    let within : k < length xs = slice_get_within xs k x at in
    slice_get-get_or (map f xs) k (f x) (omega (arith, length-map xs f))
    ∙ ap (λ y. Some y) (get_or-map f xs k x (f x) within ∙ ap f (get_or_from_slice_get xs k x x at))

-- ---- what stands in a tree

module _ {C M : Type 0} where
  -- something stands where there is an entry
  stands_there : (o : Option (Entry C M)) → is_some (option_map standing_of_entry o) ≡ is_some o
  stands_there None = refl
  stands_there (Some e) = refl

  -- a directory, where the entry is one
  stands_as_dir : (o : Option (Entry C M)) → is_dir_standing (option_map standing_of_entry o) ≡ is_dir o
  stands_as_dir None = refl
  stands_as_dir (Some e) = refl

module _ {C M : Type 0} (same : C → C → Bool) (tree : Tree C M) (standings : Standings C M) (tick : ℕ)
    (stands : (path : List C) → standings tick path ≡ standing_at same tree path) where
  -- the same paths are there
  there_is : (path : List C) → is_some (standings tick path) ≡ is_there same tree path
  there_is path = ap is_some (stands path) ∙ stands_there (entry_at same tree path)

  -- the same ones have a directory above them
  has_parent_is : (path : List C) → has_parent_standing standings tick path ≡ has_parent same tree path
  has_parent_is path = by (parent_of path)
    where
      by : (o : Option (List C)) → (elim o as (λ o. Bool) [ None ↦ false | Some above ↦ is_dir_standing (standings tick above) ])
          ≡ (elim o as (λ o. Bool) [ None ↦ false | Some above ↦ is_dir (entry_at same tree above) ])
      by None = refl
      by (Some above) = ap is_dir_standing (stands above) ∙ stands_as_dir (entry_at same tree above)

  -- so what is missing in the tree is found to be
  missing_is : (path : List C) → fault_if_missing same tree path ≡ missing_found standings tick path
  missing_is path = ap (λ b. if b then None else Some missing) (sym (there_is path))

  -- and the fault of a target is found
  target_is : (replace : Bool) (path : List C) → fault_of_target same tree replace path ≡ target_found standings tick replace path
  target_is true path = missing_is path
  target_is false path =
      λ i. if sym (there_is path) i then Some exists else (if sym (has_parent_is path) i then None else Some no_parent)

-- ---- a record

module _ {C M : Type 0} (same : C → C → Bool) (ends : List ℕ) (standings : Standings C M) where
  -- the first fault of an action is found, where what stands is that of the tree before it, and of the trees of the revisions before
  pub fault_of-found : (trees : List (Tree C M)) (tree : Tree C M) (tick : ℕ) (path : List C) (action : Action C M)
      → ((path : List C) → standings tick path ≡ standing_at same tree path)
      → ((rev : ℕ) (path : List C) → rev < length trees → standings (get_or ends rev 0) path ≡ standing_at same (tree_of trees rev) path)
      → IsFromBelow (length trees) action → fault_of same trees tree path action ≡ fault_found standings tick path (action_at_tick ends action)
  fault_of-found trees tree tick path delete stands stood below_it =
      fault_of-delete same trees tree path ∙ missing_is same tree standings tick stands path
  fault_of-found trees tree tick path (change setting) stands stood below_it =
      fault_of-change same trees tree path setting ∙ missing_is same tree standings tick stands path
  fault_of-found trees tree tick path (add replace kind setting) stands stood below_it =
      fault_of-add same trees tree path replace kind setting ∙ target_is same tree standings tick stands replace path
  fault_of-found trees tree tick path (copy replace from from_rev setting) stands stood below_it =
      fault_of-copy same trees tree path replace from from_rev setting
      ∙ (λ i. option_or (target_is same tree standings tick stands replace path i) (source_is i))
    where
      source_is : fault_of_source same trees from from_rev ≡ source_found standings from (get_or ends from_rev 0)
      source_is =
          ap (λ b. if b then None else Some no_source)
          (sym (there_is same (tree_of trees from_rev) standings (get_or ends from_rev 0) (λ path. stood from_rev path below_it) from))

-- ---- histories

module _ {C M : Type 0} (same : C → C → Bool) where
  -- the fault of a record of the first revision
  pub fault_of_next_record_from-within : (trees : List (Tree C M)) (records : List (Record C M)) (history : History C M) (count : ℕ) → count < length records
      → fault_of_next_record_from same trees (records ∷ history) count ≡ fault_within same trees records count
  unfolding fault_of_next_record_from
  fault_of_next_record_from-within trees records history count within = rw (lt-ltb count (length records) within, fault_of_next_record_from)

  -- and of a record of the others
  pub fault_of_next_record_from-later : (trees : List (Tree C M)) (records : List (Record C M)) (history : History C M) (count : ℕ) → length records ≤ count
      → fault_of_next_record_from same trees (records ∷ history) count
      ≡ fault_of_next_record_from same (with_revision same trees records) history (count - length records)
  unfolding fault_of_next_record_from
  fault_of_next_record_from-later trees records history count past = rw (le-ltb count (length records) past, fault_of_next_record_from)

module _ {C M : Type 0} (same : C → C → Bool) (laws : IsSame same) (ends : List ℕ) (standings : Standings C M) (index : ℕ) where
  -- the first fault of a record is found, where what stands is that of the tree before it, and of the trees of revisions
  pub fault_of_next_record_from-found : (trees : List (Tree C M)) (history : History C M) (count : ℕ) (each : Record C M)
      → AreFromBelow (length trees) history → slice_get (flat_map (λ records. records) history) count ≡ Some each
      → ((path : List C) → standings index path ≡ standing_at same (state_from same trees history count) path)
      → ((rev : ℕ) (path : List C) → rev < length trees + length history
      → standings (get_or ends rev 0) path ≡ standing_at same (tree_of (fold (with_revision same) trees history) rev) path)
      → fault_of_next_record_from same trees history count ≡ fault_found standings index each.path (action_at_tick ends each.action)
  fault_of_next_record_from-found trees [] count each all at stands stood = absurd (omega (arith, slice_get_within [] count each at))
  fault_of_next_record_from-found trees (records ∷ history) count each all at stands stood =
      let rest = flat_map (λ records. records) history in
      let next = with_revision same trees records in
      elim (cases_lt count (length records)) [
        | inl before ↦
            let here = slice_get_left records rest count each before at in
            let of : IsFromBelow (length trees) each.action =
            subst (λ each. IsFromBelow (length trees) each.action) (get_or_from_slice_get records count each each here) (all.0 count each before) in
            fault_of_next_record_from-within same trees records history count before
            ∙ ap (option_and_then (λ each. fault_of same trees (tree_within same trees records count) each.path each.action)) here
            ∙ fault_of-found same ends standings trees (tree_within same trees records count) index each.path each.action
            (λ path. stands path ∙ ap (λ tree. standing_at same tree path) (state_from-within same trees records history count (omega arith)))
            (λ rev path within. stood rev path (omega arith)
            ∙ ap (λ tree. standing_at same tree path) (tree_of-revisions same trees (records ∷ history) rev within)) of
        | inr past ↦
            let number : length trees + 1 ≡ length next = omega (arith, length-with_revision same trees records) in
            fault_of_next_record_from-later same trees records history count past
            ∙ fault_of_next_record_from-found next history (count - length records) each (subst (λ rev. AreFromBelow rev history) number all.1)
            (slice_get_right records rest count each past at)
            (λ path. stands path ∙ standing_past same laws trees records history count path past)
            (λ rev path within. stood rev path (omega arith))
      ]

-- ---- dumps

module _ (dump : DumpValue) (is : IsDump dump) where
  -- at the end of a revision, by the list of the ends, stands what its tree has
  stood_at_end : (rev : ℕ) (path : List NameId) → rev < 0 + length (history_view dump)
      → standing_at same_name (state_in dump (get_or (ends_of dump.counts) rev 0)) path
      ≡ standing_at same_name (tree_of (fold (with_revision same_name) [] (history_view dump)) rev) path
  unfolding trees_of
  stood_at_end rev path within =
      let counted : rev < length dump.counts = omega (arith, length-history_view dump is) in
      ap (λ tick. standing_at same_name (state_in dump tick) path)
      (ends_of-at dump.counts rev counted ∙ ap (λ counts. end_of counts rev) (sym (lengths-history_view dump is)))
      ∙ standing_revision same_name IsSame-same_name (history_view dump) rev path (omega arith)

-- the first fault of a record of a dump, in the tree before it, is found by what stands at ticks
pub fault_of_next_record-found : (dump : DumpValue) → IsDump dump → (index : ℕ) (each : NodeRecord) → slice_get dump.records index ≡ Some each
    → fault_of_next_record same_name (history_view dump) index
    ≡ fault_found (λ tick path. standing_at same_name (state_in dump tick) path) index each.path
    (action_at_tick (ends_of dump.counts) (action_view each.act))
fault_of_next_record-found dump is index each at =
    let records = flat_map (λ records. records) (history_view dump) in
    let view_at : slice_get records index ≡ Some (record_view each) =
    ap (λ all. slice_get all index) (all_records-history_view dump is) ∙ slice_get-map record_view dump.records index each at in
    fault_of_next_record_from-found same_name IsSame-same_name (ends_of dump.counts) (λ tick path. standing_at same_name (state_in dump tick) path) index []
    (history_view dump) index (record_view each) (AreFromBelow-history_view dump is) view_at (λ path. refl) (stood_at_end dump is)
