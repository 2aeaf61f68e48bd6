-- The lines of held revisions.
use Rattle.std.proofs.Common.{◌≡◌, ◌∙◌, ℕ, suc, ◌+◌, ◌<◌, ◌≤◌, List, [], ◌∷◌, ◌++◌, Some, sym, ap, arith, append_assoc, drop, get_or, length}
use Rattle.std.proofs.lemmas.List.{drop_all, drop_more, get_or-map, get_or_past, length-map}
use Rattle.svn_text.specs.Line.{line_text}
use Rattle.svn_path.specs.Components.{path_text}
use Rattle.svn_path.specs.Path.{components_of}
use Rattle.svn_path.specs.declared.names.NameId.{NameId}
use Rattle.branch_answer.specs.Holding.{in_part_below}
use Rattle.branch_answer.specs.KeptHolding.{holding_view}
use Rattle.branch_answer.specs.KeptHoldings.{held_text, holdings_text, texts_of}
unfoldable use Rattle.branch_answer.specs.KeptHoldings.{held_from}
use Rattle.branch_answer.specs.declared.holding.Holding.{Holding}
use Rattle.branch_answer.specs.declared.holding.Holding.TheVariants.{Below}

-- one revision more, below the others
pub holdings_text-more : (below : List (List ℕ)) (first i : ℕ) (how : List Holding) (d : Holding) → i < length how
    → holdings_text below (first + i) (drop i how) ≡ holdings_text below (first + (i + 1)) (drop (i + 1) how) ++ held_text (first + i) (holding_view below (get_or how i d))
unfolding held_from
holdings_text-more below first i how d within =
    let next : suc (first + i) ≡ first + (i + 1) = omega arith in
    ap (holdings_text below (first + i)) (drop_more how i d within)
    ∙ ap (λ rev. holdings_text below rev (drop (i + 1) how) ++ held_text (first + i) (holding_view below (get_or how i d))) next

-- none is left
pub holdings_text-none : (below : List (List ℕ)) (rev : ℕ) (how : List Holding) (i : ℕ) → length how ≤ i → holdings_text below rev (drop i how) ≡ []
unfolding held_from
holdings_text-none below rev how i past = ap (holdings_text below rev) (drop_all i how past)

-- a line that is written piece by piece
pub line-written : (out number word path : List ℕ) → ((((out ++ number) ++ 32 ∷ []) ++ word) ++ path) ++ 10 ∷ [] ≡ out ++ line_text ((number ++ 32 ∷ []) ++ (word ++ path))
line-written out number word path = simp append_assoc

-- ---- what mergeinfo of a path below has

module _ (names : List (List ℕ)) (below : List (List NameId)) (index : ℕ) where
  -- the path of the index
  pub holding_view-Below : (path : List NameId) → index < length below → path ≡ get_or below index path
      → holding_view (texts_of names below) (Below index) ≡ Some (in_part_below (path_text (components_of names path)))
  holding_view-Below path within is =
      ap (λ text. Some (in_part_below text)) (get_or-map (λ each. path_text (components_of names each)) below index path [] within)
      ∙ ap (λ each. Some (in_part_below (path_text (components_of names each)))) (sym is)

  -- there is none
  pub holding_view-past : length below ≤ index → holding_view (texts_of names below) (Below index) ≡ Some (in_part_below [])
  holding_view-past past =
      ap (λ text. Some (in_part_below text)) (get_or_past (texts_of names below) index [] (omega (arith, past, length-map below (λ path. path_text (components_of names path)))))
