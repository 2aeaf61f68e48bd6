-- The paths of a dump with mergeinfo of their own, in the order of their bytes.
use Rattle.std.proofs.Common.{◌≡◌, ℕ, List, [], ◌∷◌, ◌++◌, Some, All, bytes_eq, is_some, map, refl, sym, ap, subst, ◌∙◌}
use Rattle.std.proofs.lemmas.List.{map-append}
use Rattle.std.proofs.lemmas.List.Elements.{All-map, All-weaker}
use Rattle.std.specs.List.{Contains}
use Rattle.std.specs.Prelude.{unwrap_or}
use Rattle.svn_path.proofs.Belows.{IsSame-same_name}
use Rattle.svn_path.proofs.Tables.{components_of-components}
use Rattle.svn_path.specs.Components.{IsComponent, path_text}
use Rattle.svn_path.specs.Names.{name_of}
use Rattle.svn_path.specs.Path.{IsPathOf, components_of, same_name}
use Rattle.svn_path.specs.declared.names.NameId.{NameId}
use Rattle.svn_dump.proofs.Renaming.Trees.{rename_tree, tree_of-rename}
use Rattle.svn_dump.specs.Dump.{DumpValue, IsDump, history_in_bytes, history_view}
use Rattle.svn_dump.specs.Tree.{Tree, tree_of}
use Rattle.svn_dump.specs.declared.record.ValueId.{ValueId}
use Rattle.query_answer.proofs.InBytes.{name, text, trees-renamed, trees_by_number}
use Rattle.query_answer.proofs.StandingsInBytes.{IsSame-bytes_eq}
use Rattle.query_answer.proofs.TreePaths.{IsOf-entry}
use Rattle.query_answer.specs.Effective.{own_mergeinfo}
use Rattle.query_answer.specs.Repo.{trees_in_bytes}
use Rattle.branch_answer.proofs.ByText.{All-by_text}
use Rattle.branch_answer.proofs.EachOnce.{AllStand-trees_of, StandsIn}
use Rattle.branch_answer.proofs.ExplicitTexts.{IsExplicit, explicit_of-found}
use Rattle.branch_answer.proofs.Membership.{Contains-map}
use Rattle.branch_answer.proofs.SortedTexts.{map-sorted_by_text}
use Rattle.branch_answer.specs.ExplicitFound.{AreFoundIn, IsFoundIn}
use Rattle.branch_answer.specs.KeptExplicit.{AreExplicitIn, HasOwnText, explicit_text, own_text}
use Rattle.branch_answer.specs.Life.{PathOfBytes}
use Rattle.branch_answer.specs.Listing.{TreeOfBytes}
use Rattle.branch_answer.specs.TextOrder.{paths_by_text, sorted_by_text}

module _ (dump : DumpValue) (kept : IsDump dump) (rev : ℕ) where
  -- the paths of its trees have components alone
  pub spelled : All (λ each. All IsComponent each.0) (tree_of (trees_in_bytes dump) rev)
  spelled =
      let numbered : Tree NameId ValueId = tree_of (trees_by_number dump kept) rev in
      let same : tree_of (trees_in_bytes dump) rev ≡ rename_tree (name dump kept) (text dump kept) numbered =
      ap (λ all. tree_of all rev) (trees-renamed dump kept) ∙ tree_of-rename (name dump kept) (text dump kept) (trees_by_number dump kept) rev in
      subst (All (λ each. All IsComponent each.0)) (sym same)
      (All-map (λ each. All IsComponent each.0) _ numbered
      (All-weaker (StandsIn same_name numbered) (λ each. All IsComponent (components_of dump.names each.0))
      (λ each at. components_of-components dump.names each.0 kept.names.components (IsOf-entry dump kept each.0 rev each.1 at)) numbered
      (AllStand-trees_of same_name IsSame-same_name (history_view dump) rev)))

module _ (dump : DumpValue) (path : List NameId) (rev : ℕ) (found : List (List NameId)) (are : AreFoundIn dump path rev found) where
  abbrev tree : TreeOfBytes
  tree = tree_of (trees_in_bytes dump) rev

  abbrev parts : PathOfBytes
  parts = components_of dump.names path

  texts_are : All (IsExplicit tree parts) (map (explicit_text dump rev) found)
  texts_are = All-map (IsExplicit tree parts) (explicit_text dump rev) found (All-weaker (IsFoundIn dump path rev) (λ one. IsExplicit tree parts (explicit_text dump rev one)) each found are.sound)
    where
      each : (one : List NameId) → IsFoundIn dump path rev one → IsExplicit tree parts (explicit_text dump rev one)
      each one is =
          let same : parts ++ components_of dump.names is.rest ≡ components_of dump.names one =
          sym (ap (components_of dump.names) is.is ∙ map-append (λ (id : NameId). name_of dump.names id.0) path is.rest) in (
            components_of dump.names is.rest,
            ap (own_mergeinfo bytes_eq tree) same ∙ is.own.1 ∙ ap (λ own. Some (unwrap_or own [])) (sym is.own.1),
            ap path_text same,
          )

  all_texts : (rest : PathOfBytes) (mergeinfo : List ℕ) → own_mergeinfo bytes_eq tree (parts ++ rest) ≡ Some mergeinfo
      → Contains (map (explicit_text dump rev) found) (path_text (parts ++ rest), mergeinfo)
  all_texts rest mergeinfo own =
      let (one, among, spells) = are.complete rest (ap is_some own) in
      let same : explicit_text dump rev one ≡ (path_text (parts ++ rest), mergeinfo) =
      ap (λ all. (path_text all, unwrap_or (own_mergeinfo bytes_eq tree all) [])) spells ∙ ap (λ found_text. (path_text (parts ++ rest), unwrap_or found_text [])) own in
      subst (Contains (map (explicit_text dump rev) found)) same (Contains-map (explicit_text dump rev) found one among)

  -- what was found, in order
  pub AreExplicitIn-sorted : IsDump dump → (paths : List (List NameId)) → paths_by_text dump.names paths ≡ sorted_by_text (paths_by_text dump.names found)
      → AreExplicitIn dump path rev paths
  AreExplicitIn-sorted kept paths sorted = record {
    of_names = All-by_text dump.names (IsPathOf dump.names) found paths sorted (All-weaker (IsFoundIn dump path rev) (IsPathOf dump.names) (λ one is. is.of_names) found are.sound);
    own = All-by_text dump.names (HasOwnText dump rev) found paths sorted (All-weaker (IsFoundIn dump path rev) (HasOwnText dump rev) (λ one is. is.own) found are.sound);
    are = explicit_of-found tree parts (spelled dump kept rev) (AllStand-trees_of bytes_eq IsSame-bytes_eq (history_in_bytes dump) rev) (map (explicit_text dump rev) found) texts_are all_texts
        ∙ sym texts_sorted;
  }
    where
      own_of : List NameId → List ℕ
      own_of one = unwrap_or (own_text dump rev one) []

      with_texts : (all : List (List NameId)) → map (λ (each : List ℕ × List NameId). (each.0, own_of each.1)) (paths_by_text dump.names all) ≡ map (explicit_text dump rev) all
      with_texts [] = refl
      with_texts (one ∷ all) = ap (λ more. explicit_text dump rev one ∷ more) (with_texts all)

      texts_sorted : map (explicit_text dump rev) paths ≡ sorted_by_text (map (explicit_text dump rev) found)
      texts_sorted =
          sym (with_texts paths) ∙ ap (map (λ (each : List ℕ × List NameId). (each.0, own_of each.1))) sorted
          ∙ map-sorted_by_text own_of (paths_by_text dump.names found)
          ∙ ap sorted_by_text (with_texts found)
