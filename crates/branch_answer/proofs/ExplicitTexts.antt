-- The texts of the paths of a tree that have mergeinfo of their own, whatever the order in which they are found.
use Rattle.std.proofs.Common.{◌≡◌, ℕ, suc, arith, Bool, true, false, inl, inr, if◌then◌else◌, List, [], ◌∷◌, ◌++◌, Option, None, Some, IfSome, All, option_and_then, option_map, bytes_eq, filter_map, fold, refl, sym, ap, subst, ◌∙◌}
use Rattle.std.proofs.lemmas.List.Elements.{All-contains, All-weaker}
use Rattle.std.proofs.lemmas.Option.{none-some, same_Some}
use Rattle.std.specs.List.{Contains, cons_option}
use Rattle.svn_path.proofs.Belows.{is_below-append, same_path-is}
use Rattle.svn_path.proofs.Components.{parts_of-path_text}
use Rattle.svn_path.specs.Below.{is_below, same_path}
use Rattle.svn_path.specs.Components.{IsComponent, parts_of, path_text}
use Rattle.svn_dump.specs.Tree.{Entry}
unfoldable use Rattle.svn_dump.specs.Tree.{entry_at}
use Rattle.query_answer.proofs.StandingsInBytes.{IsSame-bytes_eq}
use Rattle.query_answer.proofs.TreeEntries.{All-filter_map}
use Rattle.query_answer.specs.Effective.{own_mergeinfo}
use Rattle.branch_answer.proofs.EachOnce.{AllStand, StandsIn}
use Rattle.branch_answer.proofs.FirstPaths.{Contains-cons}
use Rattle.branch_answer.proofs.SortedTexts.{HaveOneEach, sorted_by_text-same}
use Rattle.branch_answer.specs.Explicit.{ExplicitTexts, with_explicit, with_mergeinfo}
unfoldable use Rattle.branch_answer.specs.Explicit.{explicit_of}
use Rattle.branch_answer.specs.Life.{PathOfBytes}
use Rattle.branch_answer.specs.Listing.{TreeOfBytes}
use Rattle.branch_answer.specs.TextOrder.{sorted_by_text, with_text}

-- what holds of the path of each entry of a tree holds of each path that is there
pub path_has : (P : PathOfBytes → Type 0) (tree : TreeOfBytes) (path : PathOfBytes) (entry : Entry (List ℕ) (List ℕ)) → All (λ each. P each.0) tree
    → entry_at bytes_eq tree path ≡ Some entry → P path
unfolding entry_at
path_has P [] path entry all found = absurd (none-some entry found)
path_has P (each ∷ tree) path entry all found =
    by (same_path bytes_eq each.0 path) refl found
    (path_has P tree path entry (λ k d within. all (suc k) d (omega (arith, within))))
  where
    by : (b : Bool) → same_path bytes_eq each.0 path ≡ b → (if b then Some each.1 else entry_at bytes_eq tree path) ≡ Some entry
        → (entry_at bytes_eq tree path ≡ Some entry → P path) → P path
    by true here at later = subst P ((same_path-is IsSame-bytes_eq each.0 path).0 here) (all 0 each (omega arith))
    by false other at later = later at

module _ (tree : TreeOfBytes) (above : PathOfBytes) where
  -- the text of an entry's path and that of its mergeinfo, if it has some and is at or below the path
  abbrev texts_of : PathOfBytes × Entry (List ℕ) (List ℕ) → Option (List ℕ × List ℕ)
  texts_of each = if is_below bytes_eq above each.0 then option_map (λ text. (path_text each.0, text)) each.1.mergeinfo else None

  explicit_from : (more : TreeOfBytes) (others : ExplicitTexts) → fold (with_explicit above) others more ≡ fold with_text others (filter_map texts_of more)
  explicit_from [] others = refl
  explicit_from (each ∷ more) others =
      explicit_from more (with_explicit above others each) ∙ by (is_below bytes_eq above each.0) each.1.mergeinfo
    where
      left : List (List ℕ × List ℕ)
      left = filter_map texts_of more

      by : (b : Bool) (mergeinfo : Option (List ℕ)) → fold with_text (if b then with_mergeinfo each.0 mergeinfo others else others) left
          ≡ fold with_text others (cons_option (if b then option_map (λ text. (path_text each.0, text)) mergeinfo else None) left)
      by true None = refl
      by true (Some text) = refl
      by false mergeinfo = refl

  -- the texts of such a path
  abbrev pub IsExplicit : List ℕ × List ℕ → Type 0
  IsExplicit texts = (rest : PathOfBytes) × (own_mergeinfo bytes_eq tree (above ++ rest) ≡ Some texts.1) × (path_text (above ++ rest) ≡ texts.0)

  listed_is : AllStand bytes_eq tree → All IsExplicit (filter_map texts_of tree)
  listed_is stand =
      All-filter_map texts_of IsExplicit tree
      (All-weaker (StandsIn bytes_eq tree) (λ each. IfSome {T = List ℕ × List ℕ} (texts_of each) IsExplicit)
      (λ each at. by each at (is_below bytes_eq above each.0) refl each.1.mergeinfo refl) tree stand)
    where
      by : (each : PathOfBytes × Entry (List ℕ) (List ℕ)) → StandsIn bytes_eq tree each → (b : Bool) → is_below bytes_eq above each.0 ≡ b
          → (mergeinfo : Option (List ℕ)) → each.1.mergeinfo ≡ mergeinfo
          → IfSome {T = List ℕ × List ℕ} (if b then option_map (λ text. (path_text each.0, text)) mergeinfo else None) IsExplicit
      by each at false below mergeinfo is = tt
      by each at true below None is = tt
      by each at true below (Some text) is =
          let (rest, whole) = (is_below-append IsSame-bytes_eq above each.0).0 below in (
            rest,
            ap (own_mergeinfo bytes_eq tree) (sym whole) ∙ ap (option_and_then (λ entry. entry.mergeinfo)) at ∙ is,
            ap path_text (sym whole),
          )

  listed_at : (more : TreeOfBytes) (path : PathOfBytes) (mergeinfo : List ℕ) → is_below bytes_eq above path ≡ true
      → option_and_then (λ entry. entry.mergeinfo) (entry_at bytes_eq more path) ≡ Some mergeinfo → Contains (filter_map texts_of more) (path_text path, mergeinfo)
  unfolding entry_at
  listed_at [] path mergeinfo below own = absurd (none-some mergeinfo own)
  listed_at (each ∷ more) path mergeinfo below own = by (same_path bytes_eq each.0 path) refl own (listed_at more path mergeinfo below)
    where
      left : List (List ℕ × List ℕ)
      left = filter_map texts_of more

      behind : (o : Option (List ℕ × List ℕ)) → Contains left (path_text path, mergeinfo) → Contains (cons_option o left) (path_text path, mergeinfo)
      behind None has = has
      behind (Some first) has = Contains-cons first left (path_text path, mergeinfo) (inr has)

      by : (b : Bool) → same_path bytes_eq each.0 path ≡ b
          → option_and_then (λ (entry : Entry (List ℕ) (List ℕ)). entry.mergeinfo) (if b then Some each.1 else entry_at bytes_eq more path) ≡ Some mergeinfo
          → (option_and_then (λ (entry : Entry (List ℕ) (List ℕ)). entry.mergeinfo) (entry_at bytes_eq more path) ≡ Some mergeinfo → Contains left (path_text path, mergeinfo))
          → Contains (filter_map texts_of (each ∷ more)) (path_text path, mergeinfo)
      by true here at later =
          let same : each.0 ≡ path = (same_path-is IsSame-bytes_eq each.0 path).0 here in
          let is : texts_of each ≡ Some (path_text path, mergeinfo) =
          ap (λ b. if b then option_map (λ text. (path_text each.0, text)) each.1.mergeinfo else None) (ap (is_below bytes_eq above) same ∙ below)
          ∙ ap (option_map (λ text. (path_text each.0, text))) at ∙ ap (λ one. Some (path_text one, mergeinfo)) same in
          subst (λ o. Contains (cons_option o left) (path_text path, mergeinfo)) (sym is) (Contains-cons (path_text path, mergeinfo) left (path_text path, mergeinfo) (inl refl))
      by false other at later = behind (texts_of each) (later at)

  -- a path that is there has components alone
  module _ (spelled : All (λ each. All IsComponent each.0) tree) where
    components : (path : PathOfBytes) (mergeinfo : List ℕ) → own_mergeinfo bytes_eq tree path ≡ Some mergeinfo → All IsComponent path
    components path mergeinfo own = by (entry_at bytes_eq tree path) refl own
      where
        by : (o : Option (Entry (List ℕ) (List ℕ))) → entry_at bytes_eq tree path ≡ o → option_and_then (λ (entry : Entry (List ℕ) (List ℕ)). entry.mergeinfo) o ≡ Some mergeinfo
            → All IsComponent path
        by None at none = absurd (none-some mergeinfo none)
        by (Some entry) at some = path_has (All IsComponent) tree path entry spelled at

    same_mergeinfo : (text one other : List ℕ) → IsExplicit (text, one) → IsExplicit (text, other) → one ≡ other
    same_mergeinfo text one other (rest, own, spells) (more, also, spells_too) =
        let paths : above ++ rest ≡ above ++ more =
        sym (parts_of-path_text (above ++ rest) (components (above ++ rest) one own)) ∙ ap parts_of (spells ∙ sym spells_too)
        ∙ parts_of-path_text (above ++ more) (components (above ++ more) other also) in
        same_Some one other (sym own ∙ ap (own_mergeinfo bytes_eq tree) paths ∙ also)

    HaveOneEach-explicit : (texts : List (List ℕ × List ℕ)) → All IsExplicit texts → HaveOneEach texts
    HaveOneEach-explicit texts all text one other has also =
        same_mergeinfo text one other (All-contains IsExplicit texts (text, one) all has) (All-contains IsExplicit texts (text, other) all also)

    -- such texts, and all of them, are those of the tree once they are in order
    pub explicit_of-found : AllStand bytes_eq tree → (texts : List (List ℕ × List ℕ)) → All IsExplicit texts
        → ((rest : PathOfBytes) (mergeinfo : List ℕ) → own_mergeinfo bytes_eq tree (above ++ rest) ≡ Some mergeinfo → Contains texts (path_text (above ++ rest), mergeinfo))
        → explicit_of tree above ≡ sorted_by_text texts
    unfolding explicit_of
    explicit_of-found stand texts all whole =
        let listed = filter_map texts_of tree in
        let are : All IsExplicit listed = listed_is stand in
        explicit_from tree []
        ∙ sorted_by_text-same listed texts (HaveOneEach-explicit listed are) (HaveOneEach-explicit texts all)
        (λ text mergeinfo has.
        let (rest, own, spells) = All-contains IsExplicit listed (text, mergeinfo) are has in
        subst (λ one. Contains texts (one, mergeinfo)) spells (whole rest mergeinfo own))
        (λ text mergeinfo has.
        let (rest, own, spells) = All-contains IsExplicit texts (text, mergeinfo) all has in
        subst (λ one. Contains listed (one, mergeinfo)) spells
        (listed_at tree (above ++ rest) mergeinfo ((is_below-append IsSame-bytes_eq above (above ++ rest)).1 (rest, refl)) own))
