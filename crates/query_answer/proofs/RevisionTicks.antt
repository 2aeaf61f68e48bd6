-- The ends of the revisions of a repository, and what stands at a path there.
use Rattle.query_answer.proofs.Common.{◌≡◌, ℕ, ◌+◌, ◌<◌, ◌≤◌, sum, List, length, get_or, Option, None, Some, is_some, option_map, refl, sym, ap, ◌∙◌, arith, length-map, none-some, DumpValue, IsDump, Entry, Tree, entry_at, is_there, NodeRecord, ValueId, IndexValue, IsEndIn, MapValue, hi_of, entry_view, standing_at, same_name, NameId, IsRepo}
use Rattle.std.proofs.lemmas.List.Sums.{sum_by-take-le}
use Rattle.svn_dump.proofs.Grouped.{length-revisions_from, total-sum}
use Rattle.block_map.specs.Ends.{end_of}
use Rattle.block_map.specs.declared.entry.Entry as kept
use Rattle.block_map.proofs.RevisionEnds.{ends_of-at, length-ends_of}

-- each record of a dump has its revision
pub sum-counts : (dump : DumpValue) → IsDump dump → sum dump.counts ≡ length dump.records
sum-counts dump is =
    let all = length-map dump.records (λ (each : NodeRecord). each.rev) in
    omega (arith, length-revisions_from 0 dump.counts, total-sum dump.counts, ap length is.revisions, all)

module _ (dump : DumpValue) (index : IndexValue) (kept : MapValue) (ends : List ℕ) (repo : IsRepo dump index kept ends) where
  -- each revision has an end
  pub length-ends : length ends ≡ length dump.counts
  length-ends = ap length repo.ends_are ∙ length-ends_of dump.counts

  module _ (rev : ℕ) (within : rev < length dump.counts) where
    pub end-at : get_or ends rev 0 ≡ end_of dump.counts rev
    end-at = ap (λ all. get_or all rev 0) repo.ends_are ∙ ends_of-at dump.counts rev within

    -- a revision's number of records is its end
    pub IsEndIn-at : (tick : ℕ) → tick ≡ get_or ends rev 0 → IsEndIn dump rev tick
    IsEndIn-at tick at = record { dump_is = repo.dump_is; within = within; end = at ∙ end-at }

  -- which the map has
  pub end-within : (rev tick : ℕ) → IsEndIn dump rev tick → tick ≤ hi_of kept
  end-within rev tick end =
      let few = sum_by-take-le (λ (x : ℕ). x) dump.counts (rev + 1) in
      omega (arith, end.end, few, sum-counts dump repo.dump_is, repo.map_is.whole)

-- what the map says of a path tells whether the path is there
pub is_there-entry : (tree : Tree NameId ValueId) (path : List NameId) (found : Option kept.Entry)
    → option_map entry_view found ≡ standing_at same_name tree path → is_there same_name tree path ≡ is_some found
is_there-entry tree path found is = by (entry_at same_name tree path) found is
  where
    by : (o : Option (Entry NameId ValueId)) (found : Option kept.Entry)
        → option_map entry_view found ≡ option_map (λ entry. record { kind = entry.kind; mergeinfo = entry.mergeinfo }) o → is_some o ≡ is_some found
    by None None is = refl
    by None (Some entry) is = absurd (none-some (entry_view entry) (sym is))
    by (Some entry) None is = cc
    by (Some entry) (Some found) is = refl
