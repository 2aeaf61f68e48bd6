-- What the records of a history say of a path at a tick is what stands there after so many records.
use Rattle.block_map.proofs.Common.{◌≡◌, ℕ, zero, suc, ◌+◌, ◌-◌, ◌<◌, ◌≤◌, Bool, inl, inr, List, [], ◌∷◌, ◌++◌, All, Option, None, Some, fold, flat_map, get_or, length, map, take, option_map, refl, sym, ap, subst, ◌∙◌, append-nil, arith, option_map_or, cases_order, cases_lt, le-leb, lt-leb, get_or_append_left, get_or_at, length-map, length_push, map-append, All-head, All-tail, fold-append, below, same_name, NameId, IsSame, IsSame-same_name, DumpValue, IsDump, history_view, record_view, Setting, keep, put, Action, delete, change, add, copy, History, Record, state, state_from, Tree, Entry, entry_at, mergeinfo_after, tree_of, tree_after_record, start_tree, end_tree, with_revision, record_count, record_count-cons, flat_map-records_by_revision, tree_of-append, tree_of_push, length-with_revision, start_tree-nil, action_at_tick, record_at_tick, end_of, ends_of, Found, at, at_with, is, absent, Look, look, look_at, looks_of, with_look, look_after, found_after_action, with_setting, from_beginning, IsMapOfFirstRecords, MapValue, hi_of, look_in, records_at_ticks, state_in, Standing, standing_at, standing_of}
use Rattle.std.proofs.lemmas.Simd.{map-map}
use Rattle.svn_dump.proofs.Trees.{entry_from, entry_left, settled_entry, settled_entry_at, entry_at-first_tree, entry_at-tree_after_action}
use Rattle.block_map.proofs.RevisionEnds.{ends_of-at}
use Rattle.block_map.proofs.RevisionStates.{standing_of_entry, standing_at_next, standing_past, state_from-within, state_from-zero, tree_within_all, lengths-history_view, total-dump}
use Rattle.block_map.proofs.Sources.{IsFromBelow, AreFromBelow, AreFromBelow-history_view, end_of-cons, end_of-zero}

-- the standing with the mergeinfo that a record leaves
abbrev settled_standing : {M : Type 0} → Setting M → Standing M → Standing M
settled_standing setting standing = record { kind = standing.kind; mergeinfo = mergeinfo_after setting standing.mergeinfo }

-- what stands where this was found, in a look from the beginning of a history
abbrev standing_known : {C M : Type 0} → Found C M → Option (Standing M)
standing_known found = standing_of (from_beginning found)

-- what was found at each path is what stands there in the tree
abbrev Stands : {C M : Type 0} → (C → C → Bool) → Tree C M → Look C M → Type 0
Stands same tree found = (path : _) → standing_known (found path) ≡ standing_at same tree path

-- the records of a history in a row
abbrev all_records : {C M : Type 0} → History C M → List (Record C M)
all_records history = flat_map (λ records. records) history

-- ---- looks at ticks

module _ {C M : Type 0} where
  -- at the first tick and before it nothing is known
  pub look_at_first : (lo : ℕ) (looks : List (Look C M)) (tick : ℕ) (path : List C) → tick ≤ lo → look_at lo looks tick path ≡ at path tick
  look_at_first lo looks tick path before = rw (le-leb tick lo before)

  -- later records leave what was found before
  pub look_at-append : (lo : ℕ) (looks more : List (Look C M)) (tick : ℕ) (path : List C) → tick ≤ lo + length looks
      → look_at lo (looks ++ more) tick path ≡ look_at lo looks tick path
  look_at-append lo looks more tick path within =
      elim (cases_lt lo tick) [
        | inl past ↦
            rw (lt-leb tick lo past)
            (ap (λ found. found path) (get_or_append_left looks more (λ other. absent) (tick - lo - 1) (omega arith)))
        | inr before ↦ look_at_first lo (looks ++ more) tick path before ∙ sym (look_at_first lo looks tick path before)
      ]

  -- the last one is found after all records
  pub look_at_push : (lo : ℕ) (looks : List (Look C M)) (next : Look C M) (tick : ℕ) (path : List C) → tick ≡ lo + length looks + 1
      → look_at lo (looks ++ next ∷ []) tick path ≡ next path
  look_at_push lo looks next tick path last =
      rw (lt-leb tick lo (omega arith)) (ap (λ found. found path) (get_or_at looks next [] (λ other. absent) (tick - lo - 1) (omega arith)))

  -- ---- what stands where something was found

  -- other mergeinfo is put where something stands
  standing_of-with_setting : (setting : Setting M) (found : Found C M)
      → standing_known (with_setting setting found) ≡ option_map (settled_standing setting) (standing_known found)
  standing_of-with_setting keep (at [] tick) = refl
  standing_of-with_setting keep (at (c ∷ path) tick) = refl
  standing_of-with_setting keep (at_with [] tick mergeinfo) = refl
  standing_of-with_setting keep (at_with (c ∷ path) tick mergeinfo) = refl
  standing_of-with_setting keep (is kind mergeinfo) = refl
  standing_of-with_setting keep absent = refl
  standing_of-with_setting (put new) (at [] tick) = refl
  standing_of-with_setting (put new) (at (c ∷ path) tick) = refl
  standing_of-with_setting (put new) (at_with [] tick mergeinfo) = refl
  standing_of-with_setting (put new) (at_with (c ∷ path) tick mergeinfo) = refl
  standing_of-with_setting (put new) (is kind mergeinfo) = refl
  standing_of-with_setting (put new) absent = refl

  -- and so it is in an entry
  with_setting-entry : (setting : Setting M) (old : Option (Entry C M))
      → option_map (settled_standing setting) (option_map standing_of_entry old)
      ≡ option_map standing_of_entry (option_map (settled_entry setting) old)
  with_setting-entry setting None = refl
  with_setting-entry setting (Some e) = refl

  -- an entry below the path of a change keeps its mergeinfo
  with_setting-below : (setting : Setting M) (c : C) (rest : List C) (old : Option (Entry C M))
      → option_map standing_of_entry old ≡ option_map standing_of_entry (option_map (settled_entry_at setting (c ∷ rest)) old)
  with_setting-below setting c rest None = refl
  with_setting-below setting c rest (Some e) = refl

  -- a copied entry at the path of the copy
  with_setting-copied : (setting : Setting M) (from : List C) (from_rev : ℕ) (old : Option (Entry C M))
      → option_map (settled_standing setting) (option_map standing_of_entry old)
      ≡ option_map standing_of_entry (option_map (λ e. settled_entry_at setting [] (entry_from from from_rev e)) old)
  with_setting-copied setting from from_rev None = refl
  with_setting-copied setting from from_rev (Some e) = refl

  -- and one below it
  with_setting-copied_below : (setting : Setting M) (from : List C) (from_rev : ℕ) (c : C) (rest : List C) (old : Option (Entry C M))
      → option_map standing_of_entry old
      ≡ option_map standing_of_entry (option_map (λ e. settled_entry_at setting (c ∷ rest) (entry_from from from_rev e)) old)
  with_setting-copied_below setting from from_rev c rest None = refl
  with_setting-copied_below setting from from_rev c rest (Some e) = refl

-- ---- one record

module _ {C M : Type 0} (same : C → C → Bool) (ends : List ℕ) where
  -- what was found at the ticks at which revisions end is what stands in their trees
  record Reached (trees : List (Tree C M)) (looks : List (Look C M)) : Type 0 where
    within : (rev : ℕ) → rev < length trees → get_or ends rev 0 ≤ length looks
    stood : (rev : ℕ) → rev < length trees → Stands same (tree_of trees rev) (look_at 0 looks (get_or ends rev 0))

  module _ (trees : List (Tree C M)) (looks : List (Look C M)) (reached : Reached trees looks) where
    -- what an action leaves at its path and below is found as it stands
    action_stands : (action : Action C M) (found : Found C M) (old : Option (Entry C M)) (rest : List C) → IsFromBelow (length trees) action
        → standing_known found ≡ option_map standing_of_entry old
        → standing_known (found_after_action 0 looks (action_at_tick ends action) found rest)
        ≡ option_map standing_of_entry (entry_left same trees action old rest)
    action_stands delete found old rest below_it stands = refl
    action_stands (change setting) found old [] below_it stands =
        standing_of-with_setting setting found ∙ ap (option_map (settled_standing setting)) stands ∙ with_setting-entry setting old
    action_stands (change setting) found old (c ∷ rest) below_it stands = stands ∙ with_setting-below setting c rest old
    action_stands (add replace kind setting) found old [] below_it stands = refl
    action_stands (add replace kind setting) found old (c ∷ rest) below_it stands = refl
    action_stands (copy replace from from_rev setting) found old [] below_it stands =
        standing_of-with_setting setting (look_at 0 looks (get_or ends from_rev 0) from)
        ∙ ap (option_map (settled_standing setting)) (reached.stood from_rev below_it from
        ∙ ap (standing_at same (tree_of trees from_rev)) (sym (append-nil from)))
        ∙ with_setting-copied setting (from ++ []) from_rev (entry_at same (tree_of trees from_rev) (from ++ []))
    action_stands (copy replace from from_rev setting) found old (c ∷ rest) below_it stands =
        reached.stood from_rev below_it (from ++ c ∷ rest)
        ∙ with_setting-copied_below setting (from ++ c ∷ rest) from_rev c rest (entry_at same (tree_of trees from_rev) (from ++ c ∷ rest))

    -- and so is what it leaves at any path
    action_stands_at : (action : Action C M) (b : Option (List C)) (found : Found C M) (old : Option (Entry C M)) → IsFromBelow (length trees) action
        → standing_known found ≡ option_map standing_of_entry old
        → standing_known (elim b [ None ↦ found | Some rest ↦ found_after_action 0 looks (action_at_tick ends action) found rest ])
        ≡ option_map standing_of_entry (option_map_or (entry_left same trees action old) b old)
    action_stands_at action None found old below_it stands = stands
    action_stands_at action (Some rest) found old below_it stands = action_stands action found old rest below_it stands

    -- what is found at each path after one more record is what stands there
    stands_after : (laws : IsSame same) (tree : Tree C M) (each : Record C M) → IsFromBelow (length trees) each.action
        → Stands same tree (look_at 0 looks (length looks))
        → Stands same (tree_after_record same trees tree each) (look_at 0 (with_look same 0 looks (record_at_tick ends each)) (length looks + 1))
    stands_after laws tree each below_it stands path =
        let last : 0 + length looks ≡ length looks = omega arith in
        let next = look_after same 0 looks (record_at_tick ends each) in
        ap (λ found. standing_known found) (look_at_push 0 looks next (length looks + 1) path (omega arith))
        ∙ action_stands_at each.action (below same each.path path) (look_at 0 looks (0 + length looks) path) (entry_at same tree path) below_it
        (ap (λ tick. standing_known (look_at 0 looks tick path)) last ∙ stands path)
        ∙ ap (option_map standing_of_entry) (sym (entry_at-tree_after_action same laws trees each.path each.action tree path))

  -- ---- records in a row

  -- the looks with one more after each of some records
  abbrev looks_after : List (Look C M) → List (Record C M) → List (Look C M)
  looks_after looks records = fold (with_look same 0) looks (map (record_at_tick ends) records)

  -- a look for each record
  length-looks_after : (looks : List (Look C M)) (records : List (Record C M)) → length (looks_after looks records) ≡ length looks + length records
  length-looks_after looks [] = omega arith
  length-looks_after looks (each ∷ records) =
      let next = look_after same 0 looks (record_at_tick ends each) in
      omega (arith, length-looks_after (looks ++ next ∷ []) records, length_push looks next)

  -- they leave what was found before
  look_at-looks_after : (looks : List (Look C M)) (records : List (Record C M)) (tick : ℕ) (path : List C) → tick ≤ length looks
      → look_at 0 (looks_after looks records) tick path ≡ look_at 0 looks tick path
  look_at-looks_after looks [] tick path within = refl
  look_at-looks_after looks (each ∷ records) tick path within =
      let next = look_after same 0 looks (record_at_tick ends each) in
      look_at-looks_after (looks ++ next ∷ []) records tick path (omega (arith, length_push looks next))
      ∙ look_at-append 0 looks (next ∷ []) tick path (omega arith)

  -- and what stood at the ends of revisions
  Reached-looks_after : (trees : List (Tree C M)) (looks : List (Look C M)) (records : List (Record C M)) → Reached trees looks
      → Reached trees (looks_after looks records)
  Reached-looks_after trees looks records reached = record {
    within = λ rev before. omega (arith, reached.within rev before, length-looks_after looks records);
    stood = λ rev before path.
        ap (λ found. standing_known found) (look_at-looks_after looks records (get_or ends rev 0) path (reached.within rev before))
        ∙ reached.stood rev before path;
  }

-- the revisions that follow these trees end at these ticks, where so many records come before
abbrev EndAt : {C M : Type 0} → List ℕ → List (Tree C M) → ℕ → History C M → Type 0
EndAt ends trees before history =
    (rev : ℕ) → rev < length history → get_or ends (length trees + rev) 0 ≡ before + end_of (map length history) rev

module _ {C M : Type 0} (same : C → C → Bool) (laws : IsSame same) (ends : List ℕ) where
  -- what is found after the first so many of some records is what stands there
  stands_within : (trees : List (Tree C M)) (looks : List (Look C M)) (tree : Tree C M) (records : List (Record C M)) (count : ℕ)
      → Reached same ends trees looks → All (λ each. IsFromBelow (length trees) each.action) records
      → Stands same tree (look_at 0 looks (length looks)) → count ≤ length records
      → Stands same (fold (tree_after_record same trees) tree (take count records))
      (look_at 0 (looks_after same ends looks records) (length looks + count))
  stands_within trees looks tree records zero reached all stands within path =
      let none : length looks + zero ≡ length looks = omega arith in
      ap (λ found. standing_known found) (look_at-looks_after same ends looks records (length looks + zero) path (omega arith))
      ∙ ap (λ tick. standing_known (look_at 0 looks tick path)) none ∙ stands path
  stands_within trees looks tree [] (suc count) reached all stands within path = absurd (omega arith)
  stands_within trees looks tree (each ∷ records) (suc count) reached all stands within path =
      let next = with_look same 0 looks (record_at_tick ends each) in
      let P = λ (each : Record C M). IsFromBelow (length trees) each.action in
      let one_more : length next ≡ length looks + 1 = length_push looks (look_after same 0 looks (record_at_tick ends each)) in
      let number : length looks + suc count ≡ length next + count = omega (arith, one_more) in
      ap (λ tick. standing_known (look_at 0 (looks_after same ends next records) tick path)) number
      ∙ stands_within trees next (tree_after_record same trees tree each) records count
      (Reached-looks_after same ends trees looks (each ∷ []) reached) (All-tail P each records all)
      (λ path. ap (λ tick. standing_known (look_at 0 next tick path)) one_more
      ∙ stands_after same ends trees looks reached laws tree each (All-head P each records all) stands path) (omega arith) path

  module _ (trees : List (Tree C M)) (looks : List (Look C M)) (records : List (Record C M)) (reached : Reached same ends trees looks)
      (all : All (λ each. IsFromBelow (length trees) each.action) records)
      (stands : Stands same (start_tree trees) (look_at 0 looks (length looks))) where
    -- and after all records of a revision it is what stands in its tree
    stands_at_end : Stands same (end_tree same trees records) (look_at 0 (looks_after same ends looks records) (length looks + length records))
    stands_at_end path =
        stands_within trees looks (start_tree trees) records (length records) reached all stands (omega arith) path
        ∙ ap (λ tree. standing_at same tree path) (tree_within_all same trees records)

    -- so the next revision begins with it
    stands_next : Stands same (start_tree (with_revision same trees records))
        (look_at 0 (looks_after same ends looks records) (length (looks_after same ends looks records)))
    stands_next path =
        ap (λ tick. standing_known (look_at 0 (looks_after same ends looks records) tick path)) (length-looks_after same ends looks records)
        ∙ stands_at_end path ∙ sym (standing_at_next same laws trees records path)

    -- and one more revision has ended as its tree stands
    Reached_next : get_or ends (length trees) 0 ≡ length looks + length records
        → Reached same ends (with_revision same trees records) (looks_after same ends looks records)
    Reached_next end = record {
      within = λ rev before. elim (cases_order rev (length trees)) [
        | inl here ↦ omega (arith, ap (λ r. get_or ends r 0) here, end, length-looks_after same ends looks records)
        | inr (inl earlier) ↦ old.within rev earlier
        | inr (inr later) ↦ absurd (omega (arith, length-with_revision same trees records))
      ];
      stood = λ rev before path. elim (cases_order rev (length trees)) [
        | inl here ↦
            ap (λ r. standing_known (look_at 0 after (get_or ends r 0) path)) here
            ∙ ap (λ tick. standing_known (look_at 0 after tick path)) end
            ∙ stands_at_end path
            ∙ ap (λ tree. standing_at same tree path) (sym (tree_of_push trees (end_tree same trees records)))
            ∙ ap (λ r. standing_at same (tree_of (with_revision same trees records) r) path) (sym here)
        | inr (inl earlier) ↦
            old.stood rev earlier path
            ∙ ap (λ tree. standing_at same tree path) (sym (tree_of-append trees (end_tree same trees records ∷ []) rev earlier))
        | inr (inr later) ↦ absurd (omega (arith, length-with_revision same trees records))
      ];
    }
      where
        after : List (Look C M)
        after = looks_after same ends looks records

        old : Reached same ends trees after
        old = Reached-looks_after same ends trees looks records reached

  -- ---- revisions in a row

  module _ (trees : List (Tree C M)) (looks : List (Look C M)) (records : List (Record C M)) (history : History C M) where
    -- the looks after the records of one revision and of others
    looks_in_two : looks_after same ends looks (all_records (records ∷ history))
        ≡ looks_after same ends (looks_after same ends looks records) (all_records history)
    looks_in_two =
        ap (fold (with_look same 0) looks) (map-append (record_at_tick ends) records (all_records history))
        ∙ fold-append (with_look same 0) looks (map (record_at_tick ends) records) (map (record_at_tick ends) (all_records history))

    -- where the first of them ends
    end_of_first : EndAt ends trees (length looks) (records ∷ history) → get_or ends (length trees) 0 ≡ length looks + length records
    end_of_first end =
        let here : length trees ≡ length trees + 0 = omega arith in
        ap (λ rev. get_or ends rev 0) here ∙ end 0 (omega arith) ∙ ap (λ n. length looks + n) (end_of-zero (length records) (map length history))

    -- and where the others do
    end_of_others : EndAt ends trees (length looks) (records ∷ history)
        → EndAt ends (with_revision same trees records) (length (looks_after same ends looks records)) history
    end_of_others end rev within =
        let number : length (with_revision same trees records) + rev ≡ length trees + suc rev =
        omega (arith, length-with_revision same trees records) in
        ap (λ r. get_or ends r 0) number ∙ end (suc rev) (omega arith)
        ∙ omega (arith, end_of-cons (length records) (map length history) rev, length-looks_after same ends looks records)

  -- what is found at each tick is what stands there
  stands_from : (trees : List (Tree C M)) (looks : List (Look C M)) (history : History C M) (count : ℕ)
      → Reached same ends trees looks → AreFromBelow (length trees) history → Stands same (start_tree trees) (look_at 0 looks (length looks))
      → EndAt ends trees (length looks) history → count ≤ record_count history
      → Stands same (state_from same trees history count) (look_at 0 (looks_after same ends looks (all_records history)) (length looks + count))
  stands_from trees looks [] count reached all stands end within path =
      let none : count ≡ 0 = omega arith in
      let number : length looks + count ≡ length looks = omega arith in
      ap (λ tick. standing_known (look_at 0 looks tick path)) number ∙ stands path
      ∙ ap (λ tree. standing_at same tree path) (sym (state_from-zero same trees []))
      ∙ ap (λ n. standing_at same (state_from same trees [] n) path) (sym none)
  stands_from trees looks (records ∷ history) count reached all stands end within path =
      let after = looks_after same ends looks records in
      let next = with_revision same trees records in
      let two = ap (λ found. standing_known (look_at 0 found (length looks + count) path)) (looks_in_two trees looks records history) in
      let length_after = length-looks_after same ends looks records in
      elim (cases_lt count (length records)) [
        | inl before ↦
            two
            ∙ ap (λ found. standing_known found)
            (look_at-looks_after same ends after (all_records history) (length looks + count) path (omega (arith, length_after)))
            ∙ stands_within trees looks (start_tree trees) records count reached all.0 stands (omega arith) path
            ∙ ap (λ tree. standing_at same tree path) (sym (state_from-within same trees records history count (omega arith)))
        | inr past ↦
            let number : length looks + count ≡ length after + (count - length records) = omega (arith, length_after) in
            let number_next : length trees + 1 ≡ length next = omega (arith, length-with_revision same trees records) in
            two
            ∙ ap (λ tick. standing_known (look_at 0 (looks_after same ends after (all_records history)) tick path)) number
            ∙ stands_from next after history (count - length records)
            (Reached_next trees looks records reached all.0 stands (end_of_first trees looks records history end))
            (subst (λ rev. AreFromBelow rev history) number_next all.1) (stands_next trees looks records reached all.0 stands)
            (end_of_others trees looks records history end) (omega (arith, record_count-cons records history)) path
            ∙ sym (standing_past same laws trees records history count path past)
      ]

-- ---- whole histories

module _ {C M : Type 0} (same : C → C → Bool) (laws : IsSame same) (history : History C M) where
  -- no revision has ended
  nothing_reached : Reached {M = M} same (ends_of (map length history)) [] []
  nothing_reached = record { within = λ rev before. absurd (omega arith); stood = λ rev before. absurd (omega arith) }

  -- before the first record the root alone is found
  stands_at_beginning : Stands {M = M} same (start_tree []) (look_at 0 [] 0)
  stands_at_beginning [] =
      ap (λ (found : Found C M). standing_known found) (look_at_first 0 [] 0 [] (omega arith))
      ∙ sym (ap (λ tree. standing_at same tree []) start_tree-nil ∙ ap (option_map standing_of_entry) (entry_at-first_tree same []))
  stands_at_beginning (c ∷ path) =
      ap (λ (found : Found C M). standing_known found) (look_at_first 0 [] 0 (c ∷ path) (omega arith))
      ∙ sym (ap (λ tree. standing_at same tree (c ∷ path)) start_tree-nil ∙ ap (option_map standing_of_entry) (entry_at-first_tree same (c ∷ path)))

  -- the list of the ends has the end of each revision
  end_at : EndAt {M = M} (ends_of (map length history)) [] 0 history
  end_at rev within =
      let number : 0 + rev ≡ rev = omega arith in
      let value : end_of (map length history) rev ≡ 0 + end_of (map length history) rev = omega arith in
      ap (λ r. get_or (ends_of (map length history)) r 0) number
      ∙ ends_of-at (map length history) rev (omega (arith, length-map history length)) ∙ value

  -- where each copy is of a smaller revision, what stands by the records of a history stands in the tree after so many of them
  pub standing_found : AreFromBelow 0 history → (tick : ℕ) (path : List C) → tick ≤ record_count history
      → standing_of (from_beginning
      (look same 0 (map (record_at_tick (ends_of (map length history))) (flat_map (λ records. records) history)) tick path))
      ≡ standing_at same (state same history tick) path
  unfolding looks_of
  standing_found all tick path within =
      let ends = ends_of (map length history) in
      let number : tick ≡ 0 + tick = omega arith in
      ap (λ t. standing_known (look_at 0 (looks_after same ends [] (all_records history)) t path)) number
      ∙ stands_from same laws ends [] [] history tick nothing_reached all stands_at_beginning end_at within path

-- ---- dumps

module _ (dump : DumpValue) (is_dump : IsDump dump) where
  -- the records of a dump's history are those of the dump
  pub all_records-history_view : flat_map (λ records. records) (history_view dump) ≡ map record_view dump.records
  all_records-history_view =
      flat_map-records_by_revision dump.counts (map record_view dump.records)
      (omega (arith, total-dump dump is_dump, length-map dump.records record_view))

  -- the records of a dump's history, with the sources of copies at ticks
  pub records_at_ticks-history_view :
      map (record_at_tick (ends_of (map length (history_view dump)))) (flat_map (λ records. records) (history_view dump))
      ≡ records_at_ticks (ends_of dump.counts) dump.records
  records_at_ticks-history_view =
      (λ i. map (record_at_tick (ends_of (lengths-history_view dump is_dump i))) (all_records-history_view i))
      ∙ map-map (record_at_tick (ends_of dump.counts)) record_view dump.records

  -- its history has as many
  pub record_count-history_view : record_count (history_view dump) ≡ length dump.records
  record_count-history_view = ap length all_records-history_view ∙ length-map dump.records record_view

-- what a map of a dump says of a path at a tick stands in the tree at that tick
pub standing-look : (dump : DumpValue) → IsDump dump → (map : MapValue) → IsMapOfFirstRecords dump map → (tick : ℕ) (path : List NameId)
    → tick ≤ hi_of map → standing_of (look_in map tick path) ≡ standing_at same_name (state_in dump tick) path
standing-look dump is_dump map of tick path within =
    ap standing_of (of.looks tick path within)
    ∙ ap (λ records. standing_known (look same_name 0 records tick path)) (sym (records_at_ticks-history_view dump is_dump))
    ∙ standing_found same_name IsSame-same_name (history_view dump) (AreFromBelow-history_view dump is_dump) tick path
    (omega (arith, within, of.within, record_count-history_view dump is_dump))
