-- The records of a revision, by how many the revisions have.
use Rattle.query_answer.proofs.Common.{◌≡◌, ℕ, zero, suc, ◌+◌, ◌-◌, ◌<◌, ◌≤◌, List, [], ◌∷◌, take, drop, map, sum, length, get_or, refl, ap, sym, ◌∙◌, arith, drop-map, take-map, take_more, DumpValue, IsDump, history_view, record_view, records_by_revision}
use Rattle.std.proofs.lemmas.List.{drop-drop}
use Rattle.std.proofs.lemmas.List.Sums.{sum_by-append, sum_by-cons, sum_by-take-le}
use Rattle.block_map.specs.Ends.{end_of}
use Rattle.query_answer.proofs.RevisionTicks.{sum-counts}

-- one revision more has its records more
end_of-more : (counts : List ℕ) (rev : ℕ) → rev < length counts → end_of counts rev ≡ sum (take rev counts) + get_or counts rev 0
end_of-more counts rev within =
    omega (
      arith,
      ap sum (take_more counts rev 0 within),
      sum_by-append (λ (x : ℕ). x) (take rev counts) (get_or counts rev 0 ∷ []),
      sum_by-cons (λ (x : ℕ). x) (get_or counts rev 0) [],
    )

-- the items of a group are those behind the groups before it
records_by_revision-at : {X : Type 0} (counts : List ℕ) (items : List X) (rev : ℕ) → rev < length counts
    → get_or (records_by_revision counts items) rev [] ≡ take (get_or counts rev 0) (drop (sum (take rev counts)) items)
records_by_revision-at [] items rev within = absurd (omega arith)
records_by_revision-at (count ∷ counts) items zero within = refl
records_by_revision-at (count ∷ counts) items (suc rev) within =
    records_by_revision-at counts (drop count items) rev (omega (arith, within))
    ∙ ap (take (get_or counts rev 0))
    (drop-drop (sum (take rev counts)) count items ∙ ap (λ n. drop n items) (sym (sum_by-cons (λ (x : ℕ). x) count (take rev counts))))

module _ (dump : DumpValue) (rev first end : ℕ) (within : rev < length dump.counts) (first_is : first ≡ sum (take rev dump.counts)) (end_is : end ≡ end_of dump.counts rev) where
  -- the records of a revision end behind those of the revisions before it
  pub first-le-end : first ≤ end
  first-le-end = omega (arith, first_is, end_is, end_of-more dump.counts rev within)

  pub end-le-all : IsDump dump → end ≤ length dump.records
  end-le-all is = omega (arith, end_is, sum_by-take-le (λ (x : ℕ). x) dump.counts (rev + 1), sum-counts dump is)

  -- and are those between the two ends
  pub records-between : map record_view (take (end - first) (drop first dump.records)) ≡ get_or (history_view dump) rev []
  records-between =
      let many : end - first ≡ get_or dump.counts rev 0 = omega (arith, first_is, end_is, end_of-more dump.counts rev within) in
      sym (take-map record_view (end - first) (drop first dump.records))
      ∙ ap (take (end - first)) (sym (drop-map record_view first dump.records))
      ∙ ap (λ n. take n (drop first (map record_view dump.records))) many
      ∙ ap (λ n. take (get_or dump.counts rev 0) (drop n (map record_view dump.records))) first_is
      ∙ sym (records_by_revision-at dump.counts (map record_view dump.records) rev within)
