-- The newest revisions through which a path stood at one location, and where it came from, by the records.
use Rattle.path_index.proofs.Common.{◌≡◌, ℕ, zero, suc, ◌+◌, ◌<◌, get_or, length, take, drop, length-drop, ◌≤◌, nat_lt, Bool, false, true, if◌then◌else◌, List, [], ◌∷◌, ◌++◌, All, IfSome, Option, None, Some, is_some, option_map, refl, sym, ap, subst, ◌∙◌, arith, inl, inr, append_assoc, true≢false, cases_lt, leb-true, le-leb, get_or-drop, drop_more, take-append-drop, slice_get-get_or, All-push, All-weaker, same_path, same_name, NameId, IsSame-same_name, record_view, Record, origin_of, location, Entry, Tree, entry_at, is_there, tree_of, end_tree, start_tree, NodeRecord, ValueId, step_back, location_back, location_stays, location_stays_here, location_agree, OriginsFall, OriginsFall-trees_of, OriginsAreThere-trees_of, records_of, history_to, trees_to, AreRising, IsThere, origin_of_entry, origin_view, SetsOrigin, IsSpan, location_before, Origin, IsNewestBelow, IsCountUpTo, AreByPath, SetsAt, RecordsByPath}
use Rattle.path_index.specs.LastSet.{origin_in}
use Rattle.svn_dump.proofs.Trees.{entry_from, entry_at-tree_from_revision, entry_at-first_tree}
use Rattle.path_index.proofs.EntriesOfPaths.{SetsAt-SetsPath}
use Rattle.path_index.proofs.RecordEffects.{KeepsOrigin-unset}
use Rattle.path_index.proofs.Rising.{AreUpTo-before}
use Rattle.path_index.proofs.Prefixes.{trees_before, tree_of-last, tree_of-earlier, start_tree-first, start_tree-suc, All-records_of, records_of-back, records_of-among}
use Rattle.path_index.proofs.Steps.{KeepsOrigin, KeepsOrigin-fold, SetsOrigin-fold}

-- where the path of a tree came from
abbrev tree_origin : List NameId → Tree NameId ValueId → Option (List NameId × ℕ)
tree_origin path tree = origin_of_entry (entry_at same_name tree path)

-- the records of the revision keep the origin of the path
abbrev IsIdle : List NodeRecord → List NameId → ℕ → Type 0
IsIdle records path rev = All (KeepsOrigin same_name path) (records_of records rev)

-- so do those of the revisions after `lo` and up to `hi`
abbrev AreIdle : List NodeRecord → List NameId → ℕ → ℕ → Type 0
AreIdle records path lo hi = (rev : ℕ) → lo < rev → rev ≤ hi → IsIdle records path rev

carried_origin : {C M : Type 0} (path : List C) (rev : ℕ) (old : Option (Entry C M)) → is_some (option_map (entry_from path rev) old) ≡ true
    → (is_some old ≡ true) × (origin_of_entry (option_map (entry_from path rev) old) ≡ Some (path, rev))
carried_origin path rev None there = cc
carried_origin path rev (Some e) there = (refl, refl)

first_origin : {C M : Type 0} (b : Bool) (e : Entry C M) → e.origin ≡ None → origin_of_entry (if b then Some e else None) ≡ None
first_origin true e none = none
first_origin false e none = refl

module _ (records : List NodeRecord) (path : List NameId) where
  left_in : (rev : ℕ) → IsThere records path rev → IsIdle records path rev
      → (is_there same_name (start_tree (trees_before records rev)) path ≡ true) × (origin_in records path rev ≡ tree_origin path (start_tree (trees_before records rev)))
  left_in rev there idle =
      let trees = trees_before records rev in
      rw (tree_of-last records rev) (KeepsOrigin-fold same_name path trees (start_tree trees) (records_of records rev) idle (rw (tree_of-last records rev) at there))

  -- before a revision whose records keep the origin the path stood where it stands
  pub origin_in-idle : (rev : ℕ) → IsThere records path (suc rev) → IsIdle records path (suc rev)
      → IsThere records path rev × (origin_in records path (suc rev) ≡ Some (path, rev))
  origin_in-idle rev there idle =
      let (before, so) = left_in (suc rev) there idle in
      let at = ap (λ tree. entry_at same_name tree path) (start_tree-suc records rev) ∙ entry_at-tree_from_revision same_name IsSame-same_name rev (tree_of (trees_to records rev) rev) path in
      let (old, origin) = carried_origin path rev (entry_at same_name (tree_of (trees_to records rev) rev) path) (ap is_some (sym at) ∙ before) in
      (old, so ∙ ap origin_of_entry at ∙ origin)

  -- in the first revision it has no origin
  origin_in-first : IsThere records path 0 → IsIdle records path 0 → origin_in records path 0 ≡ None
  origin_in-first there idle =
      (left_in 0 there idle).1 ∙ ap (tree_origin path) (start_tree-first records)
      ∙ ap origin_of_entry (entry_at-first_tree {M = ValueId} same_name path) ∙ first_origin (same_path same_name [] path) _ refl

  -- its origin is the one that the newest record which does not keep it sets
  origin_in-set : (rev : ℕ) (origin : Option (List NameId × ℕ)) (front : List (Record NameId ValueId)) (each : Record NameId ValueId) (more : List (Record NameId ValueId))
      → IsThere records path rev → records_of records rev ≡ front ++ each ∷ more → SetsOrigin same_name path origin each → All (KeepsOrigin same_name path) more
      → origin_in records path rev ≡ origin
  origin_in-set rev origin front each more there split sets all =
      let trees = trees_before records rev in
      let whole = tree_of-last records rev ∙ ap (end_tree same_name trees) split in
      rw whole (SetsOrigin-fold same_name path trees origin (start_tree trees) front each more sets all (rw whole at there))

  -- where they keep it in some revisions, the path stood in all of these where it stands in the newest
  there_through : (lo hi : ℕ) → IsThere records path hi → AreIdle records path lo hi → (rev : ℕ) → lo ≤ rev → rev ≤ hi → IsThere records path rev
  there_through lo zero there idle rev low high = let here : rev ≡ 0 = omega arith in rw here there
  there_through lo (suc hi) there idle rev low high = elim (cases_lt hi rev) [
    | inl past ↦ let here : rev ≡ suc hi = omega arith in rw here there
    | inr within ↦
        there_through lo hi (origin_in-idle hi there (idle (suc hi) (omega arith) (omega arith))).0
        (λ r from to. idle r from (omega arith)) rev low within
  ]

module _ {records : List NodeRecord} {path : List NameId} {peg lo : ℕ} (there : IsThere records path peg) (low : lo ≤ peg) (idle : AreIdle records path lo peg) where
  -- given the origin in the oldest of the revisions
  IsSpan-from : (from : Option Origin) → origin_in records path lo ≡ origin_view from → IsSpan records path peg (record { lo = lo; origin = from })
  IsSpan-from from began =
      record {
        within = low;
        came = began;
        stays = λ rev above to. location_stays_here same_name (trees_to records peg) falls path lo peg rev above to itself;
        back = λ rev past.
            location_stays same_name (trees_to records peg) falls path lo peg rev low (omega arith) itself
            ∙ location_back same_name (trees_to records peg) falls path lo rev past
            ∙ ap (step_back (λ p r. location same_name (trees_to records peg) p r rev) rev) came_from
            ∙ onward rev from refl;
        earlier = each_origin (λ o. o.rev < lo) from fell;
        there = each_origin (λ o. IsThere records o.path o.rev) from
            (λ o is. let lower = fell o is in
            ap (λ tree. is_there same_name tree o.path) (sym (tree_of-earlier records o.rev peg (omega arith)))
            ∙ (OriginsAreThere-trees_of same_name IsSame-same_name (history_to records peg)).there path lo o.path o.rev (came_from ∙ ap origin_view is));
      }
    where
      falls : OriginsFall same_name (trees_to records peg)
      falls = OriginsFall-trees_of same_name (history_to records peg)

      itself : (rev : ℕ) → lo ≤ rev → rev < peg → origin_of same_name (trees_to records peg) path (suc rev) ≡ Some (path, rev)
      itself rev above below =
          ap (tree_origin path) (tree_of-earlier records (suc rev) peg (omega arith))
          ∙ (origin_in-idle records path rev (there_through records path lo peg there idle (suc rev) (omega arith) (omega arith)) (idle (suc rev) (omega arith) (omega arith))).1

      came_from : origin_of same_name (trees_to records peg) path lo ≡ origin_view from
      came_from = ap (tree_origin path) (tree_of-earlier records lo peg low) ∙ began

      fell : (o : Origin) → from ≡ Some o → o.rev < lo
      fell o is = falls.falls path lo o.path o.rev (came_from ∙ ap origin_view is)

      onward : (rev : ℕ) (o : Option Origin) → from ≡ o
          → step_back (λ p r. location same_name (trees_to records peg) p r rev) rev (origin_view o) ≡ location_before records rev o
      onward rev None is = refl
      onward rev (Some o) is =
          let lower = fell o is in
          ap (λ index. if nat_lt o.rev rev then None else index)
          (location_agree same_name (trees_to records peg) (trees_to records o.rev) falls o.rev
          (λ r within. tree_of-earlier records r peg (omega arith) ∙ sym (tree_of-earlier records r o.rev within))
          o.path o.rev rev (omega arith))

      each_origin : (P : Origin → Type 0) (o : Option Origin) → ((from : Origin) → o ≡ Some from → P from) → IfSome o P
      each_origin P None each = tt
      each_origin P (Some o) each = each o refl

-- ---- as the numbers of the records tell it

-- those of the records that are of no later revision keep the origin of the path
abbrev Keep : List NameId → ℕ → List NodeRecord → Type 0
Keep path peg records = All (λ each. each.rev ≤ peg → KeepsOrigin same_name path (record_view each)) records

module _ {records : List NodeRecord} {by_path : RecordsByPath} {peg count : ℕ} (path : List NameId) (are : AreByPath records by_path) (there : IsThere records path peg) (rising : AreRising records) (counted : IsCountUpTo peg records count) where
  keep_from : (first : ℕ) → ((index : ℕ) → first ≤ index → index < count → SetsAt by_path path index → ⊥) → Keep path peg (drop first records)
  keep_from first none k d inside =
      let index = first + k in
      let low : index < length records = omega (arith, length-drop first records) in
      let each = get_or records index d in
      rw (get_or-drop first records k d) (λ up. elim (cases_lt index count) [
        | inl early ↦ KeepsOrigin-unset each path (λ sets. none index (omega arith) early (SetsAt-SetsPath records by_path are path index each (slice_get-get_or records index d low) sets))
        | inr late ↦ absurd (true≢false (sym (le-leb each.rev peg up) ∙ counted.point.1 index d late low))
      ])

  -- where some record sets it
  pub IsSpan-newest : (index : ℕ) (each : NodeRecord) (from : Option Origin) → IsNewestBelow count (SetsAt by_path path) (Some index) → get_or records index each ≡ each
      → SetsOrigin same_name path (origin_view from) (record_view each) → IsSpan records path peg (record { lo = each.rev; origin = from })
  IsSpan-newest index each from (below, set, newest) at sets =
      let low : index < length records = let bound = counted.bound in omega arith in
      let front = take index records in
      let more = drop (index + 1) records in
      let split : records ≡ front ++ each ∷ more = sym (take-append-drop index records) ∙ ap (λ rest. front ++ rest) (drop_more records index each low ∙ ap (λ e. e ∷ more) at) in
      let up : each.rev ≤ peg = leb-true each.rev peg (rw at at (counted.point.0 index each (omega arith) below)) in
      let keep = keep_from (index + 1) (λ later past within. newest later (omega arith) within) in
      let older = All-push (λ (e : NodeRecord). e.rev ≤ each.rev) front each (AreUpTo-before front each more (subst AreRising split rising)) (omega arith) in
      let idle : AreIdle records path each.rev peg = λ rev past to.
      subst (All (KeepsOrigin same_name path))
      (sym (ap (λ all. records_of all rev) (split ∙ sym (append_assoc front (each ∷ []) more))
      ∙ records_of-back (front ++ each ∷ []) more rev (All-weaker (λ (e : NodeRecord). e.rev ≤ each.rev) (λ e. e.rev < rev) (λ e old. omega arith) (front ++ each ∷ []) older)))
      (All-records_of (KeepsOrigin same_name path) more peg rev to keep) in
      IsSpan-from there up idle from
      (origin_in-set records path each.rev (origin_view from) (records_of front each.rev) (record_view each) (records_of more each.rev)
      (there_through records path each.rev peg there idle each.rev (omega arith) up)
      (ap (λ all. records_of all each.rev) split ∙ records_of-among front each more)
      sets (All-records_of (KeepsOrigin same_name path) more peg each.rev up keep))

  -- where none does
  pub IsSpan-none : IsNewestBelow count (SetsAt by_path path) None → IsSpan records path peg (record { lo = 0; origin = None })
  IsSpan-none none =
      let idle : (rev : ℕ) → rev ≤ peg → IsIdle records path rev = λ rev within.
      All-records_of (KeepsOrigin same_name path) records peg rev within (keep_from 0 (λ index from below. none index below)) in
      let later : AreIdle records path 0 peg = λ rev past. idle rev in
      IsSpan-from there (omega arith) later None (origin_in-first records path (there_through records path 0 peg there later 0 (omega arith) (omega arith)) (idle 0 (omega arith)))
