-- The ends of the revisions of a dump, added up one after another.
use Rattle.std.proofs.Common.{◌≡◌, ℕ, ◌+◌, ◌<◌, ◌^◌, sum, List, [], ◌∷◌, ◌++◌, All, get_or, length, take, sym, ap, ◌∙◌, arith}
use Rattle.std.specs.List.{range_with_len}
use Rattle.std.proofs.lemmas.List.{map-append, take_more}
use Rattle.std.proofs.lemmas.List.Elements.{All-map}
use Rattle.std.proofs.lemmas.List.Sums.{sum_by-append}
use Rattle.svn_dump.specs.Dump.{DumpValue, IsDump}
use Rattle.par_scan.specs.declared.sum.Sum.{Sum}
use Rattle.block_map.specs.Ends.{end_of, ends_of, ends_view}
use Rattle.block_map.proofs.RevisionEnds.{ends_of-at, length-ends_of}
use Rattle.block_map.proofs.RevisionStates.{end_of-within}

-- the first revisions have so many records, and these are their ends
pub record AreFirstEnds (counts : List ℕ) (revisions count : ℕ) (sums : List Sum) : Type 0 where
  pub counted : count ≡ sum (take revisions counts)
  pub ends : ends_view sums ≡ take revisions (ends_of counts)

module _ (counts : List ℕ) (revisions count : ℕ) (sums : List Sum) (first : AreFirstEnds counts revisions count sums) where
  -- with one revision more they are the records up to its end
  pub end-next : revisions < length counts → count + get_or counts revisions 0 ≡ end_of counts revisions
  end-next within =
      omega (
        arith,
        first.counted,
        ap sum (take_more counts revisions 0 within),
        sum_by-append (λ (x : ℕ). x) (take revisions counts) (get_or counts revisions 0 ∷ []),
      )

  pub AreFirstEnds-next : (next : ℕ) → revisions < length counts → next ≡ count + get_or counts revisions 0
      → AreFirstEnds counts (revisions + 1) next (sums ++ record { 0 = next } ∷ [])
  AreFirstEnds-next next within is =
      let end : next ≡ end_of counts revisions = is ∙ end-next within in
      let inside : revisions < length (ends_of counts) = omega (arith, within, length-ends_of counts) in
      record {
        counted = end;
        ends = map-append (λ (each : Sum). each.0) sums (record { 0 = next } ∷ [])
            ∙ (λ i. first.ends i ++ (end ∙ sym (ends_of-at counts revisions within)) i ∷ [])
            ∙ sym (take_more (ends_of counts) revisions 0 inside);
      }

module _ (dump : DumpValue) (is : IsDump dump) where
  -- each end fits a number
  pub end-below : (rev : ℕ) → end_of dump.counts rev < 2 ^ 32
  end-below rev = omega (arith, end_of-within dump rev is, is.few_records)

  pub ends-below : All (λ end. end < 2 ^ 32) (ends_of dump.counts)
  ends-below =
      let revisions = range_with_len 0 (length dump.counts) in
      All-map (λ end. end < 2 ^ 32) (end_of dump.counts) revisions (λ k d within. end-below (get_or revisions k d))
