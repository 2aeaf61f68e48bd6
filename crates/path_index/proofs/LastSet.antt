-- The newest revision whose records set a path, found by the numbers of the records, and what the path does after it.
use Rattle.path_index.proofs.Common.{◌≡◌, ℕ, zero, suc, ◌-◌, ◌<◌, ◌≤◌, leb, List, length, get_or, slice_get, None, Some, All, inl, inr, refl, sym, ap, ◌∙◌, pred, true≢false, arith, cases_lt, leb-true, le-leb, slice_get-get_or, slice_get_within, get_or_from_slice_get, same_name, NameId, NodeRecord, AreRising, records_of, history_to, trees_to, IsThere, origin_stays, OriginsFall-trees_of, SetsPath, IsNewestBelow, IsCountUpTo, AreByPath, SetsAt, RecordsByPath}
use Rattle.path_index.specs.Index.{location_in}
use Rattle.path_index.specs.LastSet.{IsLastSet, IsSetIn, origin_in}
use Rattle.path_index.proofs.EntriesOfPaths.{SetsAt-SetsPath}
use Rattle.path_index.proofs.Prefixes.{All-of_revision}
use Rattle.path_index.proofs.RecordEffects.{KeepsOrigin-unset}
use Rattle.path_index.proofs.Rising.{IsNonDecreasingBy-AllPairs}
use Rattle.path_index.proofs.Spans.{origin_in-idle}
use Rattle.path_index.proofs.Steps.{KeepsOrigin}

-- ---- where no record sets it

-- the records of a revision of which none sets the path keep its origin
KeepsOrigin-all : (records : List NodeRecord) (path : List NameId) (rev : ℕ) → (IsSetIn records path rev → ⊥)
    → All (KeepsOrigin same_name path) (records_of records rev)
KeepsOrigin-all records path rev unset =
    All-of_revision (KeepsOrigin same_name path) records rev
    (λ k d within here.
    let each = get_or records k d in
    KeepsOrigin-unset each path
    (λ sets. unset (record { index = k; set = record { each = each; at = slice_get-get_or records k d within; sets = sets }; in_revision = here })))

-- so through such revisions the path was there, and came from itself in the revision before
pub KeepsPath-unset : (records : List NodeRecord) (path : List NameId) (from to : ℕ)
    → ((later : ℕ) → from < later → later ≤ to → IsSetIn records path later → ⊥)
    → (later : ℕ) → from < later → later ≤ to → IsThere records path later
    → IsThere records path (pred later) × (origin_in records path later ≡ Some (path, pred later))
KeepsPath-unset records path from to unset zero past within there = absurd (omega arith)
KeepsPath-unset records path from to unset (suc rev) past within there =
    origin_in-idle records path rev there (KeepsOrigin-all records path (suc rev) (unset (suc rev) past within))

-- ---- as the numbers of the records tell it

module _ {records : List NodeRecord} {by_path : RecordsByPath} {rev count : ℕ} (path : List NameId) (are : AreByPath records by_path) (rising : AreRising records) (counted : IsCountUpTo rev records count) where
  -- a record of one of the revisions up to the limit is among those that are counted
  is_counted : (index : ℕ) (each : NodeRecord) → slice_get records index ≡ Some each → each.rev ≤ rev → index < count
  is_counted index each at up = elim (cases_lt index count) [
    | inl early ↦ early
    | inr late ↦
        let past = counted.point.1 index each late (slice_get_within records index each at) in
        absurd (true≢false (sym (le-leb each.rev rev up) ∙ ap (λ (e : NodeRecord). leb e.rev rev) (sym (get_or_from_slice_get records index each each at)) ∙ past))
  ]

  -- and so by the numbers it sets the path
  set_by_number : (later : ℕ) → later ≤ rev → (is : IsSetIn records path later) → (is.index < count) × SetsAt by_path path is.index
  set_by_number later within is =
      let one = is.set.each in
      let here : one.rev ≡ later = is.in_revision in
      (is_counted is.index one is.set.at (omega arith), SetsAt-SetsPath records by_path are path is.index one is.set.at is.set.sets)

  -- where some record sets it
  pub IsLastSet-newest : (index : ℕ) (each : NodeRecord) → IsNewestBelow count (SetsAt by_path path) (Some index)
      → slice_get records index ≡ Some each → SetsPath each path → IsLastSet records path rev each.rev
  IsLastSet-newest index each (below, set, newest) at sets =
      let rev_of = λ (e : NodeRecord). e.rev in
      let is = get_or_from_slice_get records index each each at in
      let low : index < length records = slice_get_within records index each at in
      record {
        within = leb-true each.rev rev (rw is at (counted.point.0 index each (omega arith) below));
        sets = inr (record { index = index; set = record { each = each; at = at; sets = sets }; in_revision = refl });
        newest = λ later past within later_set.
            let (early, sets_at) = set_by_number later within later_set in
            let here : later_set.set.each.rev ≡ later = later_set.in_revision in
            elim (cases_lt index later_set.index) [
              | inl after ↦ newest later_set.index after early sets_at
              | inr before ↦
                  let rises = IsNonDecreasingBy-AllPairs rev_of records rising later_set.index index each before low in
                  let other = get_or_from_slice_get records later_set.index later_set.set.each each later_set.set.at in
                  omega (arith, rises, ap rev_of is, ap rev_of other, here, past)
            ];
      }

  -- where none does
  pub IsLastSet-none : IsNewestBelow count (SetsAt by_path path) None → IsLastSet records path rev 0
  IsLastSet-none none = record {
    within = omega arith;
    sets = inl refl;
    newest = λ later past within later_set.
        let (early, sets_at) = set_by_number later within later_set in
        none later_set.index early sets_at;
  }

-- ---- the origin

-- where the path of the revision stood in the one before at the same place, it came from there
pub origin_in-stays : (records : List NodeRecord) (path : List NameId) (lo peg : ℕ) → lo < peg
    → ((rev : ℕ) → lo ≤ rev → rev ≤ peg → location_in records path peg rev ≡ Some path) → origin_in records path peg ≡ Some (path, peg - 1)
origin_in-stays records path lo zero past stays = absurd (omega arith)
origin_in-stays records path lo (suc rev) past stays =
    let before : rev ≡ suc rev - 1 = omega arith in
    origin_stays same_name (trees_to records (suc rev)) (OriginsFall-trees_of same_name (history_to records (suc rev))) path rev (stays rev (omega arith) (omega arith))
    ∙ ap (λ n. Some (path, n)) before
