-- What mergeinfo of the paths below has, one path after another.
use Rattle.std.proofs.Common.{◌≡◌, ◌∙◌, ℕ, suc, ◌+◌, ◌≤◌, Bool, true, false, List, [], ◌∷◌, ◌++◌, Option, None, Some, is_some, refl, sym, ap, arith, append_assoc, length, map, if◌then◌else◌}
use Rattle.std.proofs.lemmas.List.{get_or_at, length_push}
use Rattle.std.specs.Prelude.{option_and_then}
use Rattle.merge_info.specs.CanonicalValue.{value_of}
use Rattle.merge_info.specs.Value.{MergeInfoValue}
use Rattle.svn_path.specs.declared.names.NameId.{NameId}
use Rattle.svn_dump.specs.Dump.{DumpValue, history_in_bytes}
use Rattle.query_answer.specs.Repo.{trees_in_bytes}
use Rattle.branch_answer.specs.Explicit.{ExplicitTexts}
unfoldable use Rattle.branch_answer.specs.HeldRevisions.{below_mark}
use Rattle.branch_answer.specs.HeldRevisions.{text_mark, value_mark}
unfoldable use Rattle.branch_answer.specs.Holding.{first_below}
use Rattle.branch_answer.specs.Holding.{in_part_below, text_holds, value_holds}
use Rattle.branch_answer.specs.KeptExplicit.{explicit_text}
use Rattle.branch_answer.specs.KeptHolding.{holding_by, holding_view, strength, stronger}
use Rattle.branch_answer.specs.KeptHoldings.{texts_of}
use Rattle.branch_answer.specs.declared.holding.Holding.{Holding}
use Rattle.branch_answer.specs.declared.holding.Holding.TheVariants.{Below, Not}
use Rattle.branch_answer.proofs.Strengths.{Not-stronger, stronger-one}

-- whether it is inheritable or not
same_holding_by : (how : Holding) (has : Option Bool) → holding_by how how has ≡ (if is_some has then how else Not)
same_holding_by how None = refl
same_holding_by how (Some true) = refl
same_holding_by how (Some false) = refl

strength-holding_by : (index : ℕ) (has : Option Bool) → strength (holding_by (Below index) (Below index) has) ≤ 1
strength-holding_by index None = omega arith
strength-holding_by index (Some true) = omega arith
strength-holding_by index (Some false) = omega arith

module _ (dump : DumpValue) where
  abbrev has : List ℕ → ℕ → Option Bool
  has text rev = text_holds (history_in_bytes dump) (trees_in_bytes dump) text rev

  -- the marks of a text are those of its value
  pub text_mark-value : (how : Holding) (text : List ℕ) (value : MergeInfoValue) → value_of text ≡ Some value → (rev : ℕ) → text_mark dump how text rev ≡ value_mark dump how how value rev
  text_mark-value how text value is rev =
      ap (λ found. holding_by how how (option_and_then (λ each. value_holds (history_in_bytes dump) (trees_in_bytes dump) each rev) found)) is

  pub text_mark-malformed : (how : Holding) (text : List ℕ) → value_of text ≡ None → (rev : ℕ) → text_mark dump how text rev ≡ Not
  text_mark-malformed how text is rev =
      ap (λ found. holding_by how how (option_and_then (λ each. value_holds (history_in_bytes dump) (trees_in_bytes dump) each rev) found)) is

  pub below_mark-nil : (index rev : ℕ) → below_mark dump index [] rev ≡ Not
  unfolding below_mark
  below_mark-nil index rev = refl

  pub strength-below_mark : (index : ℕ) (texts : ExplicitTexts) (rev : ℕ) → strength (below_mark dump index texts rev) ≤ 1
  unfolding below_mark
  strength-below_mark index [] rev = omega arith
  strength-below_mark index (each ∷ texts) rev =
      elim (is_some (has each.1 rev)) as (λ b. strength (if b then Below index else below_mark dump (suc index) texts rev) ≤ 1) [
        | true ↦ omega arith
        | false ↦ strength-below_mark (suc index) texts rev
      ]

  -- with one path more
  pub below_mark-push : (index : ℕ) (texts : ExplicitTexts) (each : List ℕ × List ℕ) (last rev : ℕ) → last ≡ index + length texts
      → stronger (below_mark dump index texts rev) (text_mark dump (Below last) each.1 rev) ≡ below_mark dump index (texts ++ each ∷ []) rev
  unfolding below_mark
  below_mark-push index [] each last rev is =
      let same : last ≡ index = omega (arith, is) in
      Not-stronger (text_mark dump (Below last) each.1 rev) ∙ same_holding_by (Below last) (has each.1 rev)
      ∙ ap (λ n. if is_some (has each.1 rev) then Below n else Not) same
  below_mark-push index (first ∷ texts) each last rev is =
      elim (is_some (has first.1 rev)) as (λ b. stronger (if b then Below index else below_mark dump (suc index) texts rev) (text_mark dump (Below last) each.1 rev)
      ≡ (if b then Below index else below_mark dump (suc index) (texts ++ each ∷ []) rev)) [
        | true ↦ stronger-one (Below index) (text_mark dump (Below last) each.1 rev) (strength-holding_by last (has each.1 rev))
        | false ↦ below_mark-push (suc index) texts each last rev (omega (arith, is))
      ]

  -- the first path that has the revision
  view-from : (before : List (List ℕ)) (texts : ExplicitTexts) (rev : ℕ)
      → holding_view (before ++ map (λ each. each.0) texts) (below_mark dump (length before) texts rev) ≡ first_below (history_in_bytes dump) (trees_in_bytes dump) texts rev
  unfolding below_mark first_below
  view-from before [] rev = refl
  view-from before (each ∷ texts) rev =
      let more = map (λ (one : List ℕ × List ℕ). one.0) texts in
      let next : length (before ++ each.0 ∷ []) ≡ suc (length before) = omega (arith, length_push before each.0) in
      elim (is_some (has each.1 rev)) as (λ b. holding_view (before ++ each.0 ∷ more) (if b then Below (length before) else below_mark dump (suc (length before)) texts rev)
      ≡ (if b then Some (in_part_below each.0) else first_below (history_in_bytes dump) (trees_in_bytes dump) texts rev)) [
        | true ↦ ap (λ text. Some (in_part_below text)) (get_or_at before each.0 more [] (length before) refl)
        | false ↦
            (λ i. holding_view (sym (append_assoc before (each.0 ∷ []) more) i) (below_mark dump (sym next i) texts rev))
            ∙ view-from (before ++ each.0 ∷ []) texts rev
      ]

  texts-explicit_text : (rev : ℕ) (below : List (List NameId)) → map (λ each. each.0) (map (explicit_text dump rev) below) ≡ texts_of dump.names below
  texts-explicit_text rev [] = refl
  texts-explicit_text rev (path ∷ below) = ap (λ texts. (explicit_text dump rev path).0 ∷ texts) (texts-explicit_text rev below)

  pub view-below_mark : (peg : ℕ) (below : List (List NameId)) (rev : ℕ)
      → holding_view (texts_of dump.names below) (below_mark dump 0 (map (explicit_text dump peg) below) rev)
      ≡ first_below (history_in_bytes dump) (trees_in_bytes dump) (map (explicit_text dump peg) below) rev
  view-below_mark peg below rev =
      ap (λ texts. holding_view texts (below_mark dump 0 (map (explicit_text dump peg) below) rev)) (sym (texts-explicit_text peg below))
      ∙ view-from [] (map (explicit_text dump peg) below) rev
