-- Operative revisions that are kept by their paths.
use Rattle.std.proofs.Common.{◌≡◌, ◌∙◌, ℕ, suc, ◌+◌, ◌-◌, ◌<◌, ◌≤◌, inl, inr, Some, List, ◌++◌, ap, arith, length, min, replicate, subst, sym}
use Rattle.std.proofs.lemmas.Bool.{cases_Bool, cond-false, cond-true}
use Rattle.std.proofs.lemmas.Option.{none-some, same_Some}
use Rattle.std.proofs.lemmas.List.{length-replicate}
use Rattle.std.specs.BTreeMap as map
use Rattle.std.specs.Cmp.Lexicographic.{slice_cmp}
use Rattle.std.specs.Global.{Vec}
use Rattle.std.specs.Map.{lookup}
use Rattle.std.specs.Ordering.{eq_by_cmp}
use Rattle.svn_path.proofs.Orders.{paths_eq-Decides}
use Rattle.svn_path.specs.PathOrder.{name_cmp, paths_ties}
use Rattle.svn_path.specs.declared.names.NameId.{NameId}
use Rattle.svn_dump.proofs.Histories.{length-history_in_bytes}
use Rattle.svn_dump.specs.Dump.{DumpValue, history_in_bytes}
use Rattle.branch_answer.specs.HeldRevisions.{count_in}
use Rattle.branch_answer.specs.KeptHoldings.{AreMarked, Mark}
use Rattle.branch_answer.specs.KeptOperatives.{AreCutAt, AreFromTo, AreOperativesFor, AreOperativesFrom, AreOperativesIn, AreOperativesOf, IsListOf, IsPartOfList}
use Rattle.branch_answer.specs.Operative.{is_operative_in, operative_from_to}
use Rattle.branch_answer.specs.declared.holding.Holding.TheVariants.{Not}
use Rattle.branch_answer.specs.declared.holdings.Holdings.{Holdings}
use Rattle.branch_answer.specs.declared.operatives.Operatives.{Operatives}
use Rattle.branch_answer.proofs.Marks.{length-marked}
use Rattle.branch_answer.proofs.OperativeFound.{operative_from_to-below}
use Rattle.branch_answer.proofs.RevisionsDown.{All-passing_below, passing_below, passing_below-split}

-- ---- the lists

module _ (dump : DumpValue) (old new : Operatives) (range : new.range ≡ old.range) where
  -- with a list more
  pub AreOperativesOf-insert : (path : List NameId) (revs : Vec ℕ) → AreOperativesOf dump old
      → map.Updates (slice_cmp name_cmp) old.by_path new.by_path path (Some revs)
      → revs.items ≡ operative_from_to dump path old.range.0 old.range.1 → AreOperativesOf dump new
  AreOperativesOf-insert path revs are updates found = record {
    within = subst (λ of. of.1 < length dump.counts) (sym range) are.within;
    lists = each;
  }
    where
      each : (one : List NameId) (has : Vec ℕ) → IsListOf new one has → has.items ≡ operative_from_to dump one new.range.0 new.range.1
      each one has is = elim (cases_Bool (eq_by_cmp (slice_cmp name_cmp) path one)) [
        | inl same ↦
            let here : path ≡ one = (paths_eq-Decides path one).0 (paths_ties path one ∙ same) in
            let of : revs ≡ has = same_Some revs has (sym (updates.0 one ∙ cond-true _ (Some revs) _ same) ∙ is) in
            ap (λ (each : Vec ℕ). each.items) (sym of) ∙ found ∙ (λ i. operative_from_to dump (here i) (sym range i).0 (sym range i).1)
        | inr other ↦
            are.lists one has (sym (updates.0 one ∙ cond-false _ (Some revs) _ other) ∙ is) ∙ (λ i. operative_from_to dump one (sym range i).0 (sym range i).1)
      ]

-- ---- a part of a list

pub IsPartOfList-from_to : (operatives : Operatives) (path : List NameId) (revs : Vec ℕ) (lo hi : ℕ) (part : List ℕ) → IsListOf operatives path revs
    → operatives.range.0 ≤ lo → lo ≤ hi → hi ≤ operatives.range.1 → AreFromTo revs.items lo hi part → IsPartOfList operatives path lo hi part
IsPartOfList-from_to operatives path revs lo hi part listed low ordered high from_to dump are =
    from_to newer among older cut whole ∙ sym (operative_from_to-below dump path lo hi)
  where
    first : ℕ
    first = operatives.range.0

    last : ℕ
    last = operatives.range.1

    newer : List ℕ
    newer = passing_below (is_operative_in dump path) (suc hi) (suc last)

    among : List ℕ
    among = passing_below (is_operative_in dump path) lo (suc hi)

    older : List ℕ
    older = passing_below (is_operative_in dump path) first lo

    cut : AreCutAt lo hi newer among older
    cut = record {
      ordered = ordered;
      above = All-passing_below (is_operative_in dump path) (λ rev. hi < rev) (suc hi) (suc last) (λ rev from below. omega (arith, from));
      from = All-passing_below (is_operative_in dump path) (λ rev. lo ≤ rev) lo (suc hi) (λ rev from below. from);
      to = All-passing_below (is_operative_in dump path) (λ rev. rev ≤ hi) lo (suc hi) (λ rev from below. omega (arith, below));
      below = All-passing_below (is_operative_in dump path) (λ rev. rev < lo) first lo (λ rev from below. below);
    }

    whole : revs.items ≡ newer ++ (among ++ older)
    whole =
        are.lists path revs listed ∙ operative_from_to-below dump path first last
        ∙ passing_below-split (is_operative_in dump path) first (suc hi) (suc last) (omega (arith, low, ordered)) (omega (arith, high))
        ∙ ap (λ rest. newer ++ rest) (passing_below-split (is_operative_in dump path) first lo (suc hi) low (omega (arith, ordered)))

-- ---- the range

pub AreOperativesIn-none : (dump : DumpValue) (range : ℕ × ℕ) (youngest : ℕ) (operatives : Operatives) → youngest + 1 ≡ length dump.counts
    → operatives.range ≡ (range.0, min range.1 youngest) → map.IsEmpty operatives.by_path → AreOperativesIn dump range operatives
AreOperativesIn-none dump range youngest operatives counts are none =
    let first : operatives.range.0 ≡ range.0 = ap (λ (of : ℕ × ℕ). of.0) are in
    let last : operatives.range.1 ≡ min range.1 youngest = ap (λ (of : ℕ × ℕ). of.1) are in
    record {
      kept = record {
        within = omega (arith, last, counts);
        lists = λ path revs listed. absurd (none-some revs (sym (ap (lookup (map.is_at (slice_cmp name_cmp path))) none) ∙ listed));
      };
      from = λ some. omega (arith, first);
      to = λ some. omega (arith, some, last, counts);
    }

AreOperativesFrom-same : (dump : DumpValue) (first count other_first other_count : ℕ) (operatives : Operatives) → other_first ≡ first → other_count ≡ count
    → AreOperativesFrom dump first count operatives → AreOperativesFrom dump other_first other_count operatives
AreOperativesFrom-same dump first count other_first other_count operatives same_first same_count so = record {
  kept = so.kept;
  from = λ some. omega (arith, same_first, so.from (omega (arith, same_count, some)));
  to = λ some. omega (arith, same_first, same_count, so.to (omega (arith, same_count, some)));
}

-- marks leave the revisions as they were
module _ (dump : DumpValue) (old new : Holdings) (mark : Mark) (operatives : Operatives) (are : AreMarked old new mark) where
  same_count : length new.how.items ≡ length old.how.items
  same_count = ap length are.how ∙ length-marked mark old.first old.how.items

  pub AreOperativesFor-marked : AreOperativesFor dump old operatives → AreOperativesFor dump new operatives
  AreOperativesFor-marked =
      AreOperativesFrom-same dump old.first (length old.how.items) new.first (length new.how.items) operatives are.first same_count

  pub AreOperativesFor-before : AreOperativesFor dump new operatives → AreOperativesFor dump old operatives
  AreOperativesFor-before =
      AreOperativesFrom-same dump new.first (length new.how.items) old.first (length old.how.items) operatives (sym are.first) (sym same_count)

-- holdings of the revisions of a range that the dump has
pub record AreOfRange (dump : DumpValue) (range : ℕ × ℕ) (holdings : Holdings) : Type 0 where
  pub first : holdings.first ≡ range.0
  pub count : length holdings.how.items ≡ count_in dump range

pub AreOfRange-new : (dump : DumpValue) (range : ℕ × ℕ) (youngest last : ℕ) (new : Holdings) → youngest + 1 ≡ length (history_in_bytes dump) → last ≡ min range.1 youngest
    → new.first ≡ range.0 → new.how.items ≡ replicate (last + 1 - range.0) Not → AreOfRange dump range new
AreOfRange-new dump range youngest last new counts last_is first how =
    let long : length (history_in_bytes dump) ≡ length dump.counts = length-history_in_bytes dump.names dump.records dump.counts dump.values in
    record { first = first; count = ap length how ∙ length-replicate (last + 1 - range.0) Not ∙ omega (arith, last_is, counts, long) }

pub AreOfRange-marked : (dump : DumpValue) (range : ℕ × ℕ) (old new : Holdings) (mark : Mark) → AreMarked old new mark → AreOfRange dump range old → AreOfRange dump range new
AreOfRange-marked dump range old new mark are of =
    record { first = are.first ∙ of.first; count = ap length are.how ∙ length-marked mark old.first old.how.items ∙ of.count }

module _ (dump : DumpValue) (range : ℕ × ℕ) (holdings : Holdings) (operatives : Operatives) (of : AreOfRange dump range holdings) where
  pub AreOperativesFor-range : AreOperativesIn dump range operatives → AreOperativesFor dump holdings operatives
  AreOperativesFor-range =
      AreOperativesFrom-same dump range.0 (count_in dump range) holdings.first (length holdings.how.items) operatives of.first of.count

  pub AreOperativesIn-holdings : AreOperativesFor dump holdings operatives → AreOperativesIn dump range operatives
  AreOperativesIn-holdings =
      AreOperativesFrom-same dump holdings.first (length holdings.how.items) range.0 (count_in dump range) operatives (sym of.first) (sym of.count)
