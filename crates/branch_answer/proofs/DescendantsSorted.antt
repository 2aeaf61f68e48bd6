-- The descendants of a path of a dump in the order of their bytes.
use Rattle.std.proofs.Common.{◌≡◌, ◌∙◌, ◌<◌, ◌≤◌, Bool, true, false, if◌then◌else◌, List, [], ◌∷◌, ℕ, All, Option, None, Some, ap, bytes_eq, filter, inl, inr, is_some, length, map, refl, sym, subst}
use Rattle.std.proofs.lemmas.Bool.{and_from, and_parts, both_ways, cases_lt}
use Rattle.std.proofs.lemmas.List.Elements.{All-contains, All-filter, All-map, All-weaker}
use Rattle.std.specs.List.{Contains}
use Rattle.svn_path.proofs.Belows.{same_path-is}
use Rattle.svn_path.proofs.Components.{parts_of-path_text}
use Rattle.svn_path.proofs.Tables.{components_of-components}
use Rattle.svn_path.specs.Below.{same_path}
use Rattle.svn_path.specs.Components.{IsComponent, parts_of, path_text}
use Rattle.svn_path.specs.Path.{IsPathOf, components_of}
use Rattle.svn_path.specs.declared.names.NameId.{NameId}
use Rattle.svn_dump.proofs.Locations.{location_later}
use Rattle.svn_dump.proofs.Origins.{OriginsFall-trees_of}
use Rattle.svn_dump.specs.Dump.{DumpValue, IsDump, history_in_bytes}
use Rattle.svn_dump.specs.Location.{location}
use Rattle.svn_dump.specs.Tree.{is_there, tree_of}
unfoldable use Rattle.svn_dump.specs.Tree.{entry_at}
use Rattle.query_answer.proofs.StandingsInBytes.{IsSame-bytes_eq}
use Rattle.query_answer.specs.Peg.{Peg}
use Rattle.query_answer.specs.Repo.{peg_in_bytes, trees_in_bytes}
use Rattle.query_answer.specs.declared.target.PathRev.{PathRev}
use Rattle.branch_answer.proofs.ByText.{All-by_text}
use Rattle.branch_answer.proofs.DescendantsFound.{stood-among_places}
use Rattle.branch_answer.proofs.EachOnce.{AllStand, AllStand-trees_of, StandsIn}
use Rattle.branch_answer.proofs.ExplicitSorted.{spelled}
use Rattle.branch_answer.proofs.FirstPaths.{Contains-cons}
use Rattle.branch_answer.proofs.Membership.{Contains-filter, Contains-from_filter, Contains-from_map, Contains-map}
use Rattle.branch_answer.proofs.SortedTexts.{HaveOneEach, map-sorted_by_text, sorted_by_text-same, with_other}
use Rattle.branch_answer.specs.Descendants.{is_path, stood_at, with_text_of_path}
unfoldable use Rattle.branch_answer.specs.Descendants.{descendants_of}
use Rattle.branch_answer.specs.KeptDescendants.{AreDescendantsIn, is_descendant, path_texts, places_in}
use Rattle.branch_answer.specs.Life.{PathOfBytes}
use Rattle.branch_answer.specs.Listing.{TreeOfBytes}
use Rattle.branch_answer.specs.TextOrder.{paths_by_text, sorted_by_text}

-- ---- the paths of a tree

abbrev pub paths_of : TreeOfBytes → List PathOfBytes
paths_of tree = map (λ each. each.0) tree

-- a path that is there is one of them
pub there-listed : (tree : TreeOfBytes) (path : PathOfBytes) → is_there bytes_eq tree path ≡ true → Contains (paths_of tree) path
unfolding entry_at
there-listed [] path there = absurd (both_ways false refl there)
there-listed (each ∷ tree) path there = by (same_path bytes_eq each.0 path) refl there (there-listed tree path)
  where
    by : (b : Bool) → same_path bytes_eq each.0 path ≡ b → is_some (if b then Some each.1 else entry_at bytes_eq tree path) ≡ true
        → (is_there bytes_eq tree path ≡ true → Contains (paths_of tree) path) → Contains (paths_of (each ∷ tree)) path
    by true here there rest = Contains-cons each.0 (paths_of tree) path (inl (sym ((same_path-is IsSame-bytes_eq each.0 path).0 here)))
    by false other there rest = Contains-cons each.0 (paths_of tree) path (inr (rest there))

-- and each of them is there
pub listed-there : (tree : TreeOfBytes) (path : PathOfBytes) → AllStand bytes_eq tree → Contains (paths_of tree) path → is_there bytes_eq tree path ≡ true
listed-there tree path stand has =
    All-contains (λ each. is_there bytes_eq tree each ≡ true) (paths_of tree) path
    (All-map (λ each. is_there bytes_eq tree each ≡ true) (λ each. each.0) tree
    (All-weaker (StandsIn bytes_eq tree) (λ each. is_there bytes_eq tree each.0 ≡ true) (λ each stands. ap is_some stands) tree stand))
    has

-- ---- paths with their texts

pub HaveOneEach-texts : (paths : List PathOfBytes) → All (All IsComponent) paths → HaveOneEach (map with_text_of_path paths)
HaveOneEach-texts paths components text x y has other =
    let Spelled : List ℕ × PathOfBytes → Type 0 = λ each. parts_of each.0 ≡ each.1 in
    let all : All Spelled (map with_text_of_path paths) =
    All-map Spelled with_text_of_path paths (All-weaker (All IsComponent) (λ each. Spelled (with_text_of_path each)) (λ each is. parts_of-path_text each is) paths components) in
    sym (All-contains Spelled (map with_text_of_path paths) (text, x) all has) ∙ All-contains Spelled (map with_text_of_path paths) (text, y) all other

-- the paths that have these texts
text-of : (paths : List PathOfBytes) (text : List ℕ) (x : PathOfBytes) → Contains (map with_text_of_path paths) (text, x) → Contains paths x × (path_text x ≡ text)
text-of paths text x has =
    let (path, among, is) = Contains-from_map with_text_of_path paths (text, x) has in
    let same : path ≡ x = ap (λ (each : List ℕ × PathOfBytes). each.1) is in
    (subst (Contains paths) same among, ap path_text (sym same) ∙ ap (λ (each : List ℕ × PathOfBytes). each.0) is)

with_text-Contains : (paths : List PathOfBytes) (text : List ℕ) (x : PathOfBytes) → Contains paths x → path_text x ≡ text → Contains (map with_text_of_path paths) (text, x)
with_text-Contains paths text x among is = subst (λ all. Contains (map with_text_of_path paths) (all, x)) is (Contains-map with_text_of_path paths x among)

-- what stood at a place was located there
pub located-stood : (place : PathOfBytes) (found : Option PathOfBytes) → is_path place found ≡ true → found ≡ Some place
located-stood place None stood = absurd (both_ways false refl stood)
located-stood place (Some other) stood = ap Some ((same_path-is IsSame-bytes_eq other place).0 stood)

module _ (dump : DumpValue) (kept : IsDump dump) (at : PathRev) (rev : ℕ) (within : rev < length dump.counts) where
  abbrev tree : TreeOfBytes
  tree = tree_of (trees_in_bytes dump) rev

  abbrev peg : Peg
  peg = peg_in_bytes dump at

  abbrev stood : PathOfBytes → Bool
  stood path = stood_at (trees_in_bytes dump) peg rev path

  stand : AllStand bytes_eq tree
  stand = AllStand-trees_of bytes_eq IsSame-bytes_eq (history_in_bytes dump) rev

  -- none stood there later
  not_later : (parts : PathOfBytes) → stood parts ≡ true → at.rev ≤ rev
  not_later parts has = elim (cases_lt rev at.rev) [
    | inl before ↦
        let nowhere = location_later bytes_eq (trees_in_bytes dump) (OriginsFall-trees_of bytes_eq (history_in_bytes dump)) parts rev at.rev before in
        absurd (both_ways false refl (sym (ap (is_path peg.path) nowhere) ∙ has))
    | inr above ↦ above
  ]

  module _ (found : List (List NameId)) (are : found ≡ filter (is_descendant dump at rev) (places_in dump at rev)) (of : All (IsPathOf dump.names) found) where
    abbrev in_bytes : List PathOfBytes
    in_bytes = map (components_of dump.names) found

    abbrev those : List PathOfBytes
    those = filter stood (paths_of tree)

    is_one : (path : PathOfBytes) → Contains in_bytes path → Contains those path
    is_one path has =
        let (one, among, spells) = Contains-from_map (components_of dump.names) found path has in
        let (place, passes) = Contains-from_filter (is_descendant dump at rev) (places_in dump at rev) one (subst (λ all. Contains all one) are among) in
        let (there, stands) = and_parts _ _ passes in
        subst (Contains those) spells (Contains-filter stood (paths_of tree) (components_of dump.names one) stands (there-listed tree (components_of dump.names one) there))

    has_one : (path : PathOfBytes) → Contains those path → Contains in_bytes path
    has_one path has =
        let (listed, stands) = Contains-from_filter stood (paths_of tree) path has in
        let there = listed-there tree path stand listed in
        let located = located-stood peg.path (location bytes_eq (trees_in_bytes dump) path rev at.rev) stands in
        let (one, among, spells) = stood-among_places dump kept at rev (not_later path stands) within path located in
        let passes : is_descendant dump at rev one ≡ true =
        and_from _ _ (ap (is_there bytes_eq tree) spells ∙ there) (ap stood spells ∙ stands) in
        subst (Contains in_bytes) spells
        (Contains-map (components_of dump.names) found one
        (subst (λ all. Contains all one) (sym are) (Contains-filter (is_descendant dump at rev) (places_in dump at rev) one passes among)))

    same_order : sorted_by_text (map with_text_of_path in_bytes) ≡ sorted_by_text (map with_text_of_path those)
    same_order =
        sorted_by_text-same (map with_text_of_path in_bytes) (map with_text_of_path those)
        (HaveOneEach-texts in_bytes (All-map (All IsComponent) (components_of dump.names) found
        (All-weaker (IsPathOf dump.names) (λ one. All IsComponent (components_of dump.names one)) (λ one is. components_of-components dump.names one kept.names.components is) found of)))
        (HaveOneEach-texts those (All-filter stood (All IsComponent) (paths_of tree) (All-map (All IsComponent) (λ each. each.0) tree (spelled dump kept rev))))
        (λ text x has. let (among, is) = text-of in_bytes text x has in with_text-Contains those text x (is_one x among) is)
        (λ text x has. let (among, is) = text-of those text x has in with_text-Contains in_bytes text x (has_one x among) is)

    spelled_with : (paths : List (List NameId)) → map (with_other (components_of dump.names)) (paths_by_text dump.names paths) ≡ map with_text_of_path (map (components_of dump.names) paths)
    spelled_with [] = refl
    spelled_with (path ∷ paths) = ap (λ more. with_text_of_path (components_of dump.names path) ∷ more) (spelled_with paths)

    only_texts : (paths : List (List NameId)) → path_texts dump.names paths ≡ map (λ (each : List ℕ × PathOfBytes). each.0) (map (with_other (components_of dump.names)) (paths_by_text dump.names paths))
    only_texts [] = refl
    only_texts (path ∷ paths) = ap (λ more. path_text (components_of dump.names path) ∷ more) (only_texts paths)

    -- what was found, in order
    pub AreDescendantsIn-sorted : (paths : List (List NameId)) → paths_by_text dump.names paths ≡ sorted_by_text (paths_by_text dump.names found) → AreDescendantsIn dump at rev paths
    unfolding descendants_of
    AreDescendantsIn-sorted paths sorted = record {
      of_names = All-by_text dump.names (IsPathOf dump.names) found paths sorted of;
      are = only_texts paths
          ∙ ap (map (λ (each : List ℕ × PathOfBytes). each.0))
          (ap (map (with_other (components_of dump.names))) sorted
          ∙ map-sorted_by_text (components_of dump.names) (paths_by_text dump.names found)
          ∙ ap sorted_by_text (spelled_with found)
          ∙ same_order);
    }
