-- How a path holds each revision of a range, after all marks.
use Rattle.std.proofs.Common.{◌≡◌, ◌∙◌, ℕ, zero, suc, ◌+◌, ◌≤◌, Bool, true, false, List, ◌∷◌, Option, None, Some, refl, sym, ap, ap₂, arith, map, replicate, if◌then◌else◌}
use Rattle.std.specs.List.{range_with_len}
use Rattle.merge_info.specs.Value.{MergeInfoValue}
use Rattle.svn_path.specs.declared.names.NameId.{NameId}
use Rattle.svn_dump.specs.Dump.{DumpValue, history_in_bytes}
use Rattle.query_answer.specs.Repo.{peg_in_bytes, trees_in_bytes}
use Rattle.query_answer.specs.declared.target.PathRev.{PathRev}
use Rattle.branch_answer.specs.HeldRevisions.{AreBelow, AreHeldBy, below_mark, count_in, history_mark, holding_in, value_mark}
use Rattle.branch_answer.specs.Holding as holding
use Rattle.branch_answer.specs.Holding.{explicit_below, first_below, is_in_history, merged_or_below, value_holds}
use Rattle.branch_answer.specs.KeptExplicit.{explicit_text}
use Rattle.branch_answer.specs.KeptHolding.{holding_by, holding_view, strength, stronger}
use Rattle.branch_answer.specs.KeptHoldings.{AreMarked, Mark, texts_of}
unfoldable use Rattle.branch_answer.specs.KeptHoldings.{marked}
use Rattle.branch_answer.specs.declared.holding.Holding.{Holding}
use Rattle.branch_answer.specs.declared.holding.Holding.TheVariants.{InHistory, InPart, Merged, Not}
use Rattle.branch_answer.specs.declared.holdings.Holdings.{Holdings}
use Rattle.branch_answer.proofs.HeldBelow.{strength-below_mark, view-below_mark}
use Rattle.branch_answer.proofs.Marks.{AreMarked-then}
use Rattle.branch_answer.proofs.Strengths.{Not-stronger, stronger-one}

-- ---- one revision

-- the history comes first, then the value of the path, and what is below it last
view-stronger : (texts : List (List ℕ)) (history trees : _) (in_history : Bool) (has : Option Bool) (below : Holding) (first : Option holding.Holding)
    → strength below ≤ 1 → holding_view texts below ≡ first
    → holding_view texts (stronger (stronger (if in_history then InHistory else Not) (holding_by Merged InPart has)) below)
    ≡ (if in_history then Some holding.in_history else merged_or_below history trees has first)
view-stronger texts history trees true None below first weak is = ap (holding_view texts) (stronger-one InHistory below (omega (arith, weak)))
view-stronger texts history trees true (Some true) below first weak is = ap (holding_view texts) (stronger-one InHistory below (omega (arith, weak)))
view-stronger texts history trees true (Some false) below first weak is = ap (holding_view texts) (stronger-one InHistory below (omega (arith, weak)))
view-stronger texts history trees false None below first weak is = ap (holding_view texts) (Not-stronger below) ∙ is
view-stronger texts history trees false (Some true) below first weak is = ap (holding_view texts) (stronger-one Merged below (omega (arith, weak)))
view-stronger texts history trees false (Some false) below first weak is = ap (holding_view texts) (stronger-one InPart below (omega (arith, weak)))

-- ---- all of them

view-marked : (texts : List (List ℕ)) (mark : Mark) (first n : ℕ) → map (holding_view texts) (marked mark first (replicate n Not)) ≡ map (λ rev. holding_view texts (mark rev)) (range_with_len first n)
unfolding marked
view-marked texts mark first zero = refl
view-marked texts mark first (suc n) =
    let next : suc first ≡ first + 1 = omega arith in
    ap₂ (λ x xs. x ∷ xs) (ap (holding_view texts) (Not-stronger (mark first)))
    (view-marked texts mark (suc first) n ∙ ap (λ from. map (λ rev. holding_view texts (mark rev)) (range_with_len from n)) next)

module _ (dump : DumpValue) (at : PathRev) (value : MergeInfoValue) (range : ℕ × ℕ) (below : List (List NameId)) (are : AreBelow dump at below) where
  -- the marks that are made
  abbrev mark : Mark
  mark rev =
      stronger (stronger (history_mark dump at rev) (value_mark dump Merged InPart value rev)) (below_mark dump 0 (map (explicit_text dump at.rev) below) rev)

  view-mark : (rev : ℕ) → holding_view (texts_of dump.names below) (mark rev) ≡ holding_in dump at value rev
  view-mark rev =
      let history = history_in_bytes dump in
      let trees = trees_in_bytes dump in
      let peg = peg_in_bytes dump at in
      let explicit = map (explicit_text dump at.rev) below in
      view-stronger (texts_of dump.names below) history trees (is_in_history history trees peg rev) (value_holds history trees value rev) (below_mark dump 0 explicit rev)
      (first_below history trees explicit rev) (strength-below_mark dump 0 explicit rev) (view-below_mark dump at.rev below rev)
      ∙ ap (λ paths. if is_in_history history trees peg rev then Some holding.in_history else merged_or_below history trees (value_holds history trees value rev) (first_below history trees paths rev))
      (sym are.are)

  pub AreHeldBy-marked : (new one two three : Holdings) → new.first ≡ range.0 → new.how.items ≡ replicate (count_in dump range) Not
      → AreMarked new one (history_mark dump at) → AreMarked one two (value_mark dump Merged InPart value) → AreMarked two three (below_mark dump 0 (map (explicit_text dump at.rev) below))
      → AreHeldBy dump at value range below three
  AreHeldBy-marked new one two three first how in_history of_value of_below =
      let whole = AreMarked-then new two three (λ rev. stronger (history_mark dump at rev) (value_mark dump Merged InPart value rev)) (below_mark dump 0 (map (explicit_text dump at.rev) below))
      (AreMarked-then new one two (history_mark dump at) (value_mark dump Merged InPart value) in_history of_value) of_below in
      let texts = texts_of dump.names below in
      record {
        first = whole.first ∙ first;
        how = ap (map (holding_view texts)) (whole.how ∙ (λ i. marked mark (first i) (how i))) ∙ view-marked texts mark range.0 (count_in dump range)
            ∙ (λ i. map (λ rev. view-mark rev i) (range_with_len range.0 (count_in dump range)));
      }
