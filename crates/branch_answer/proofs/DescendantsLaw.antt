-- Descendants and locations lead to each other.
use Rattle.std.proofs.Common.{◌≡◌, ◌∙◌, List, ℕ, true, ap, bytes_eq, filter, map, refl, subst}
use Rattle.std.proofs.lemmas.List.Elements.{All-contains, Contains-get_or}
use Rattle.std.specs.List.{Contains}
use Rattle.svn_path.proofs.Belows.{same_path-is}
use Rattle.svn_path.specs.Components.{path_text}
use Rattle.svn_dump.specs.Dump.{DumpValue, history_in_bytes}
use Rattle.svn_dump.specs.Location.{location}
use Rattle.svn_dump.specs.Tree.{tree_of}
use Rattle.query_answer.proofs.StandingsInBytes.{IsSame-bytes_eq}
use Rattle.query_answer.specs.Answer.{TreesOfBytes}
use Rattle.query_answer.specs.Peg.{Peg}
use Rattle.query_answer.specs.Repo.{trees_in_bytes}
use Rattle.branch_answer.proofs.DescendantsSorted.{listed-there, located-stood, paths_of, there-listed}
use Rattle.branch_answer.proofs.EachOnce.{AllStand, AllStand-trees_of}
use Rattle.branch_answer.proofs.Membership.{Contains-filter, Contains-from_filter, Contains-from_map, Contains-map}
use Rattle.branch_answer.proofs.SortedTexts.{All-sorted_by_text, Contains-sorted_by_text}
use Rattle.branch_answer.specs.Descendants.{is_path, stood_at, with_text_of_path}
unfoldable use Rattle.branch_answer.specs.Descendants.{descendants_of}
use Rattle.branch_answer.specs.DescendantsLaw.{HaveDescendants, IsDescendant}
use Rattle.branch_answer.specs.Life.{PathOfBytes}
use Rattle.branch_answer.specs.TextOrder.{sorted_by_text}

module _ (trees : TreesOfBytes) (peg : Peg) (rev : ℕ) (stand : AllStand bytes_eq (tree_of trees rev)) (text : List ℕ) where
  abbrev those : List PathOfBytes
  those = filter (stood_at trees peg rev) (paths_of (tree_of trees rev))

  abbrev entries : List (List ℕ × PathOfBytes)
  entries = map with_text_of_path those

  -- each text is that of a path that was located there
  descendant-located : Contains (descendants_of trees peg rev) text → IsDescendant trees peg rev text
  unfolding descendants_of
  descendant-located has =
      let (each, among, text_is) = Contains-from_map (λ (one : List ℕ × PathOfBytes). one.0) (sorted_by_text entries) text has in
      let Is = λ (one : List ℕ × PathOfBytes). Contains entries one in
      let listed = All-contains Is (sorted_by_text entries) each (All-sorted_by_text Is entries (λ k d within. Contains-get_or entries k d within)) among in
      let (path, kept, is) = Contains-from_map with_text_of_path those each listed in
      let (of_tree, stood) = Contains-from_filter (stood_at trees peg rev) (paths_of (tree_of trees rev)) path kept in
      record {
        path = path;
        text_is = ap (λ (one : List ℕ × PathOfBytes). one.0) is ∙ text_is;
        there = listed-there (tree_of trees rev) path stand of_tree;
        located = located-stood peg.path (location bytes_eq trees path rev peg.rev) stood;
      }

  -- and that of each such path is among them
  located-descendant : IsDescendant trees peg rev text → Contains (descendants_of trees peg rev) text
  unfolding descendants_of
  located-descendant is =
      let path = is.path in
      let stood : stood_at trees peg rev path ≡ true = ap (is_path peg.path) is.located ∙ (same_path-is IsSame-bytes_eq peg.path peg.path).1 refl in
      let kept = Contains-filter (stood_at trees peg rev) (paths_of (tree_of trees rev)) path stood (there-listed (tree_of trees rev) path is.there) in
      let listed = Contains-map with_text_of_path those path kept in
      subst (Contains (map (λ (one : List ℕ × PathOfBytes). one.0) (sorted_by_text entries))) is.text_is
      (Contains-sorted_by_text entries (path_text path) (Contains-map (λ (one : List ℕ × PathOfBytes). one.0) entries (with_text_of_path path) listed))

pub HaveDescendants-dump : (dump : DumpValue) → HaveDescendants (trees_in_bytes dump)
HaveDescendants-dump dump peg rev text =
    let stand = AllStand-trees_of bytes_eq IsSame-bytes_eq (history_in_bytes dump) rev in
    (descendant-located (trees_in_bytes dump) peg rev stand text, located-descendant (trees_in_bytes dump) peg rev stand text)
