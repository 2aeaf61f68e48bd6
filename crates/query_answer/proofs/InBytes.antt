-- The history of a dump by numbers and by bytes: what holds of the one holds of the other, renamed.
use Rattle.query_answer.proofs.Common.{◌≡◌, ℕ, zero, suc, ◌+◌, ◌<◌, Bool, true, false, List, [], ◌∷◌, All, map, length, take, bytes_eq, is_some, Option, Some, None, option_map, if◌then◌else◌, refl, sym, ap, ◌∙◌, subst, arith, inl, inr, cases_Bool, cases_lt, false_from_ne_true, length-map, All-cons, All-get_or, All-head, All-nil, All-tail, history_to, trees_to, operative_of, Segment, rename_segment, segments_up_to, same_location, segments_of, with_location, IsThere, IsWhole, segments_of-rename, IsComponent, parts_of, name_of, same_name, components_of, HasUnknown, IsPathOf, NameId, bytes_eq-name_of, bytes_eq-unknown, DumpValue, IsDump, history_view, history_in_bytes, record_view, text_of, location, Tree, is_there, tree_of, trees_of, ValueId, length-trees_of, rename_tree, trees_of-rename, tree_of-rename, is_there-rename, tree_of_unnamed, IsLocationOf, nearest, nearest_from, index_of_dump, trees_in_bytes}
use Rattle.path_index.proofs.Histories.{AreRising-from_revisions, history_to-take, operative_of-take, segments_of-take, segments_of-up}
use Rattle.std.proofs.Common.{add-one, replicate, true≢false}
use Rattle.std.proofs.lemmas.List.{get_or_past}
use Rattle.std.proofs.lemmas.List.Folds.{Any-from_list_any}
use Rattle.std.proofs.lemmas.Slice.Eq.{bytes_eq-Decides}
use Rattle.std.specs.List.{list_any}
use Rattle.svn_path.proofs.Components.{components-parts_of}
use Rattle.svn_path.specs.Components.{is_dot}
use Rattle.svn_dump.specs.Fault.{first_fault}
use Rattle.svn_dump.proofs.FirstRevisions.{is_there-take, location-take}
use Rattle.svn_dump.proofs.Grouped.{length-records_by_revision}
use Rattle.svn_dump.proofs.Renaming.Faults.{first_fault-rename}
use Rattle.svn_dump.proofs.Renaming.Locations.{location-rename}
use Rattle.query_answer.proofs.NearestMergeinfo.{nearest_from-rename, with_mergeinfo_by}
use Rattle.query_answer.proofs.TreePaths.{IsOf-location}

-- what holds of each located, and of none, holds of the path of each segment
module _ {C : Type 0} (same : C → C → Bool) (P : Option (List C) → Type 0) (nowhere : P None) where
  by_test : (b : Bool) (rev : ℕ) (located : Option (List C)) (segment : Segment C) (segments : List (Segment C)) → P located → All (λ one. P one.path) (segment ∷ segments)
      → All (λ one. P one.path) (if b then record segment { hi = rev } ∷ segments else record { lo = rev; hi = rev; path = located } ∷ segment ∷ segments)
  by_test true rev located segment segments here all =
      All-cons (λ one. P one.path) (record segment { hi = rev }) segments (All-head (λ one. P one.path) segment segments all) (All-tail (λ one. P one.path) segment segments all)
  by_test false rev located segment segments here all = All-cons (λ one. P one.path) (record { lo = rev; hi = rev; path = located }) (segment ∷ segments) here all

  with_location-All : (rev : ℕ) (located : Option (List C)) (segments : List (Segment C)) → P located → All (λ one. P one.path) segments → All (λ one. P one.path) (with_location same rev located segments)
  unfolding with_location
  with_location-All rev None [] here all = all
  with_location-All rev (Some path) [] here all = All-cons (λ one. P one.path) (record { lo = rev; hi = rev; path = Some path }) [] here all
  with_location-All rev None (segment ∷ segments) here all = by_test (same_location same None segment.path) rev None segment segments here all
  with_location-All rev (Some path) (segment ∷ segments) here all = by_test (same_location same (Some path) segment.path) rev (Some path) segment segments here all

  segments_up_to-All : (located : ℕ → Option (List C)) → ((rev : ℕ) → P (located rev)) → (rev : ℕ) → All (λ one. P one.path) (segments_up_to same located rev)
  unfolding segments_up_to
  segments_up_to-All located each zero = with_location-All 0 (located 0) [] (each 0) (All-nil (λ one. P one.path))
  segments_up_to-All located each (suc rev) = with_location-All (suc rev) (located (suc rev)) (segments_up_to same located rev) (each (suc rev)) (segments_up_to-All located each rev)

module _ (dump : DumpValue) (kept : IsDump dump) where
  abbrev pub name : NameId → List ℕ
  name id = name_of dump.names id.0

  abbrev pub text : ValueId → List ℕ
  text id = text_of dump.values id.0

  pub alike : (a b : NameId) → bytes_eq (name a) (name b) ≡ same_name a b
  alike a b = bytes_eq-name_of kept.names a.0 b.0

  abbrev pub trees_by_number : List (Tree NameId ValueId)
  trees_by_number = trees_of same_name (history_view dump)

  -- the trees by bytes are those by numbers, renamed
  pub trees-renamed : trees_in_bytes dump ≡ map (rename_tree name text) trees_by_number
  trees-renamed = trees_of-rename name text same_name bytes_eq alike (history_view dump)

  -- and the same record is faulty first
  pub first_fault-in_bytes : first_fault bytes_eq (history_in_bytes dump) ≡ first_fault same_name (history_view dump)
  first_fault-in_bytes = first_fault-rename name text same_name bytes_eq alike (history_view dump)

  pub length-trees : length trees_by_number ≡ length dump.counts
  length-trees = length-trees_of same_name (history_view dump) ∙ length-records_by_revision dump.counts (map record_view dump.records)

  pub length-trees_in_bytes : length (trees_in_bytes dump) ≡ length dump.counts
  length-trees_in_bytes = ap length trees-renamed ∙ length-map trees_by_number (rename_tree name text) ∙ length-trees

  -- the index is of a whole history
  pub IsWhole-index_of_dump : IsWhole (index_of_dump dump)
  IsWhole-index_of_dump = record { first = refl; rising = AreRising-from_revisions dump.records dump.counts kept.revisions }

  module _ (peg : ℕ) (within : peg < length dump.counts) where
    pub in_history : peg < length (history_view dump)
    in_history = omega (arith, within, length-records_by_revision dump.counts (map record_view dump.records))

    pub front_is : history_to dump.records peg ≡ take (peg + 1) (history_view dump)
    front_is = history_to-take dump kept.revisions peg within

    -- what the records tell up to a revision is what the trees of all revisions tell
    pub is_there-index : (path : List NameId) → is_there same_name (tree_of (trees_to dump.records peg) peg) path ≡ is_there same_name (tree_of trees_by_number peg) path
    is_there-index path =
        ap (λ front. is_there same_name (tree_of (trees_of same_name front) peg) path) front_is
        ∙ is_there-take same_name (history_view dump) peg in_history path peg (omega arith)

    pub location-index : (path : List NameId) (rev : ℕ) → location same_name (trees_to dump.records peg) path peg rev ≡ location same_name trees_by_number path peg rev
    location-index path rev =
        ap (λ front. location same_name (trees_of same_name front) path peg rev) front_is ∙ location-take same_name (history_view dump) peg in_history path peg rev (omega arith)

    pub segments-index : (path : List NameId) → segments_of same_name (trees_to dump.records peg) path peg ≡ segments_of same_name trees_by_number path peg
    segments-index path =
        ap (λ front. segments_of same_name (trees_of same_name front) path peg) front_is ∙ segments_of-take same_name (history_view dump) peg in_history path peg (omega arith)

    pub hits-index : (path : List NameId) → operative_of same_name (history_to dump.records peg) (trees_to dump.records peg) (segments_of same_name (trees_to dump.records peg) path peg)
        ≡ operative_of same_name (history_view dump) trees_by_number (segments_of same_name trees_by_number path peg)
    hits-index path =
        ap (λ front. operative_of same_name front (trees_of same_name front) (segments_of same_name (trees_to dump.records peg) path peg)) front_is
        ∙ operative_of-take same_name (history_view dump) peg in_history (segments_of same_name (trees_to dump.records peg) path peg) (segments_of-up same_name (trees_to dump.records peg) path peg)
        ∙ ap (operative_of same_name (history_view dump) trees_by_number) (segments-index path)

    -- so the index answers as the history in bytes does
    pub location-in_bytes : (path : List NameId) (rev : ℕ) → location bytes_eq (trees_in_bytes dump) (components_of dump.names path) peg rev
        ≡ option_map (components_of dump.names) (location same_name (trees_to dump.records peg) path peg rev)
    location-in_bytes path rev =
        ap (λ trees. location bytes_eq trees (map name path) peg rev) trees-renamed
        ∙ location-rename name text same_name bytes_eq alike trees_by_number path peg rev
        ∙ ap (option_map (map name)) (sym (location-index path rev))

    segments-renamed : (path : List NameId) → segments_of bytes_eq (trees_in_bytes dump) (map name path) peg ≡ map (rename_segment name) (segments_of same_name trees_by_number path peg)
    segments-renamed path =
        ap (λ trees. segments_of bytes_eq trees (map name path) peg) trees-renamed ∙ segments_of-rename name text same_name bytes_eq alike trees_by_number path peg

    pub segments-in_bytes : (path : List NameId) → segments_of bytes_eq (trees_in_bytes dump) (components_of dump.names path) peg
        ≡ map (rename_segment name) (segments_of same_name (trees_to dump.records peg) path peg)
    segments-in_bytes path = segments-renamed path ∙ ap (map (rename_segment name)) (sym (segments-index path))

    -- and what is found is of the dump's names
    pub location-of_names : (path : List NameId) (rev : ℕ) → IsPathOf dump.names path → IsLocationOf dump.names (location same_name (trees_to dump.records peg) path peg rev)
    location-of_names path rev of = by_location (location same_name (trees_to dump.records peg) path peg rev) refl
      where
        by_location : (found : Option (List NameId)) → location same_name (trees_to dump.records peg) path peg rev ≡ found → IsLocationOf dump.names found
        by_location None at = tt
        by_location (Some located) at = IsOf-location dump kept path peg rev located of (sym (location-index path rev) ∙ at)

    pub segments-of_names : (path : List NameId) → IsPathOf dump.names path → All (λ segment. IsLocationOf dump.names segment.path) (segments_of same_name (trees_to dump.records peg) path peg)
    segments-of_names path of =
        segments_up_to-All same_name (IsLocationOf dump.names) tt (λ rev. location same_name (trees_to dump.records peg) path peg rev) (λ rev. location-of_names path rev of) peg

  -- ---- the paths of its trees, and their mergeinfo

  pub there-in_bytes : (path : List NameId) (rev : ℕ)
      → is_there bytes_eq (tree_of (trees_in_bytes dump) rev) (components_of dump.names path) ≡ is_there same_name (tree_of trees_by_number rev) path
  there-in_bytes path rev =
      ap (λ all. is_there bytes_eq (tree_of all rev) (map name path)) trees-renamed
      ∙ ap (λ tree. is_there bytes_eq tree (map name path)) (tree_of-rename name text trees_by_number rev)
      ∙ is_there-rename name text same_name bytes_eq alike (tree_of trees_by_number rev) path

  pub unknown-in_bytes : (parts : List (List ℕ)) (rev : ℕ) → All IsComponent parts → HasUnknown dump.names parts → is_there bytes_eq (tree_of (trees_in_bytes dump) rev) parts ≡ false
  unknown-in_bytes parts rev components other =
      let (k, part, within, at, lacked) = other in
      let component : IsComponent part = subst IsComponent at (All-get_or IsComponent parts k part within components) in
      ap (λ all. is_there bytes_eq (tree_of all rev) parts) trees-renamed
      ∙ ap is_some (tree_of_unnamed name text bytes_eq part (λ id. bytes_eq-unknown dump.names part component lacked id.0) trees_by_number parts rev (k, within, at))

  -- `.` and `..` are no names
  not_dot-name : (number : ℕ) → is_dot (name_of dump.names number) ≡ false
  not_dot-name number = elim (cases_lt number (length dump.names)) [
    | inl within ↦ (kept.names.components number (replicate (number + 1) 47) within).not_dot
    | inr past ↦ ap is_dot (get_or_past dump.names number (replicate (number + 1) 47) past) ∙ slashes number
  ]
    where
      slashes : (n : ℕ) → is_dot (replicate (n + 1) 47) ≡ false
      slashes n = rw add-one refl

  dots-in_bytes : (parts : List (List ℕ)) (rev : ℕ) → list_any is_dot parts ≡ true → is_there bytes_eq (tree_of (trees_in_bytes dump) rev) parts ≡ false
  dots-in_bytes parts rev dots =
      let (k, part, within, at, dot) = Any-from_list_any is_dot parts dots in
      let other = λ (id : NameId). false_from_ne_true (bytes_eq (name id) part)
      (λ same. true≢false (sym (ap is_dot ((bytes_eq-Decides (name id) part).0 same) ∙ dot) ∙ not_dot-name id.0)) in
      ap (λ all. is_there bytes_eq (tree_of all rev) parts) trees-renamed
      ∙ ap is_some (tree_of_unnamed name text bytes_eq part other trees_by_number parts rev (k, within, at))

  -- the parts of bytes of which one is no name are in no tree
  pub unknown-parts_of : (bytes : List ℕ) (rev : ℕ) → HasUnknown dump.names (parts_of bytes) → is_there bytes_eq (tree_of (trees_in_bytes dump) rev) (parts_of bytes) ≡ false
  unknown-parts_of bytes rev unknown = elim (cases_Bool (list_any is_dot (parts_of bytes))) [
    | inl dots ↦ dots-in_bytes (parts_of bytes) rev dots
    | inr none ↦ unknown-in_bytes (parts_of bytes) rev (components-parts_of bytes none) unknown
  ]

  -- a path that is there is there for the index
  pub IsThere-there : (path : List NameId) (peg : ℕ) → peg < length dump.counts → is_there same_name (tree_of trees_by_number peg) path ≡ true → IsThere dump.records path peg
  IsThere-there path peg within there = is_there-index peg within path ∙ there

  -- the nearest mergeinfo of a path
  pub nearest-in_bytes : (path : List NameId) (rev : ℕ) → nearest bytes_eq (tree_of (trees_in_bytes dump) rev) (components_of dump.names path)
      ≡ option_map (with_mergeinfo_by text) (nearest same_name (tree_of trees_by_number rev) path)
  nearest-in_bytes path rev =
      ap (λ all. nearest bytes_eq (tree_of all rev) (map name path)) trees-renamed
      ∙ ap (λ tree. nearest bytes_eq tree (map name path)) (tree_of-rename name text trees_by_number rev)
      ∙ ap (nearest_from bytes_eq (rename_tree name text (tree_of trees_by_number rev)) (map name path)) (length-map path name)
      ∙ nearest_from-rename name text same_name bytes_eq alike (tree_of trees_by_number rev) path (length path)
