-- What stands in the tree after the records of a revision stands in the tree of the revision.
use Rattle.block_map.proofs.Common.{◌≡◌, ℕ, zero, suc, ◌+◌, ◌-◌, ◌<◌, ◌≤◌, Bool, inl, inr, List, [], ◌∷◌, Option, None, Some, fold, length, map, drop, option_map, refl, sym, ap, ap₂, ◌∙◌, arith, length-drop, take_all, cases_order, le-leb, lt-leb, length-map, length-take-le, sum_by-take-le, same_name, NameId, IsSame, IsSame-same_name, DumpValue, IsDump, history_view, record_view, records_by_revision, History, Record, state, state_from, tree_within, Tree, Entry, entry_at, tree_of, tree_from_revision, start_tree, end_tree, with_revision, trees_of, total, total-sum, tree_of-revisions, tree_of_push, length-with_revision, opening_next, end_of, IsEndIn, state_in, revision_in, Standing, standing_at}
use Rattle.svn_dump.proofs.Histories.{total-revisions}
use Rattle.svn_dump.proofs.Trees.{entry_from, entry_at-tree_from_revision}
use Rattle.block_map.proofs.Sources.{end_of-cons, end_of-zero}

-- the kind and the mergeinfo of an entry
abbrev pub standing_of_entry : {C M : Type 0} → Entry C M → Standing M
standing_of_entry entry = record { kind = entry.kind; mergeinfo = entry.mergeinfo }

-- ---- the tree after so many records of the revisions that follow some trees

module _ {C M : Type 0} (same : C → C → Bool) where
  -- it is that within the first of them
  pub state_from-within : (trees : List (Tree C M)) (records : List (Record C M)) (history : History C M) (count : ℕ) → count ≤ length records
      → state_from same trees (records ∷ history) count ≡ tree_within same trees records count
  unfolding state_from
  state_from-within trees records history count within = rw (le-leb count (length records) within, state_from)

  -- or in the others, past all records of the first
  pub state_from-later : (trees : List (Tree C M)) (records : List (Record C M)) (history : History C M) (count : ℕ) → length records < count
      → state_from same trees (records ∷ history) count ≡ state_from same (with_revision same trees records) history (count - length records)
  unfolding state_from
  state_from-later trees records history count past = rw (lt-leb count (length records) past, state_from)

  -- before any record it is the one with which the first begins
  pub state_from-zero : (trees : List (Tree C M)) (history : History C M) → state_from same trees history zero ≡ start_tree trees
  unfolding state_from
  state_from-zero trees [] = refl
  state_from-zero trees (records ∷ history) = state_from-within trees records history zero (omega arith)

  -- all records of a revision leave its tree
  pub tree_within_all : (trees : List (Tree C M)) (records : List (Record C M))
      → tree_within same trees records (length records) ≡ end_tree same trees records
  tree_within_all trees records = ap (end_tree same trees) (take_all (length records) records (omega arith))

module _ {C M : Type 0} (same : C → C → Bool) (is : IsSame same) where
  -- ---- what stands where a revision begins

  -- where an entry came from makes no difference
  pub standing_at-tree_from_revision : (rev : ℕ) (tree : Tree C M) (path : List C)
      → standing_at same (tree_from_revision rev tree) path ≡ standing_at same tree path
  standing_at-tree_from_revision rev tree path =
      ap (option_map standing_of_entry) (entry_at-tree_from_revision same is rev tree path)
      ∙ came (entry_at same tree path)
    where
      came : (o : Option (Entry C M)) → option_map standing_of_entry (option_map (entry_from path rev) o) ≡ option_map standing_of_entry o
      came None = refl
      came (Some entry) = refl

  -- so a revision begins with what stood at the end of the one before
  pub standing_at_next : (trees : List (Tree C M)) (records : List (Record C M)) (path : List C)
      → standing_at same (start_tree (with_revision same trees records)) path ≡ standing_at same (end_tree same trees records) path
  standing_at_next trees records path =
      ap (λ tree. standing_at same tree path) (opening_next same trees records)
      ∙ standing_at-tree_from_revision (length trees) (end_tree same trees records) path

  -- ---- what stands after so many records

  -- where they are all records of a revision or more, it is what stands after the others in the revisions behind it
  pub standing_past : (trees : List (Tree C M)) (records : List (Record C M)) (history : History C M) (count : ℕ) (path : List C)
      → length records ≤ count
      → standing_at same (state_from same trees (records ∷ history) count) path
      ≡ standing_at same (state_from same (with_revision same trees records) history (count - length records)) path
  standing_past trees records history count path past =
      elim (cases_order count (length records)) [
        | inl here ↦
            let next = with_revision same trees records in
            let none : zero ≡ count - length records = omega arith in
            ap (λ n. standing_at same (state_from same trees (records ∷ history) n) path) here
            ∙ ap (λ tree. standing_at same tree path)
            (state_from-within same trees records history (length records) (omega arith) ∙ tree_within_all same trees records)
            ∙ sym (standing_at_next trees records path)
            ∙ ap (λ tree. standing_at same tree path) (sym (state_from-zero same next history))
            ∙ ap (λ n. standing_at same (state_from same next history n) path) none
        | inr (inl before) ↦ absurd (omega arith)
        | inr (inr after) ↦ ap (λ tree. standing_at same tree path) (state_from-later same trees records history count after)
      ]

  -- at the end of a revision it is what its tree has
  pub standing_at_end : (trees : List (Tree C M)) (history : History C M) (rev : ℕ) (path : List C) → rev < length history
      → standing_at same (state_from same trees history (end_of (map length history) rev)) path
      ≡ standing_at same (tree_of (fold (with_revision same) trees history) (length trees + rev)) path
  standing_at_end trees [] rev path within = absurd (omega arith)
  standing_at_end trees (records ∷ history) zero path within =
      let next = with_revision same trees records in
      let here : length trees ≡ length trees + zero = omega arith in
      ap (λ n. standing_at same (state_from same trees (records ∷ history) n) path) (end_of-zero (length records) (map length history))
      ∙ ap (λ tree. standing_at same tree path)
      (state_from-within same trees records history (length records) (omega arith) ∙ tree_within_all same trees records
      ∙ sym (tree_of_push trees (end_tree same trees records))
      ∙ sym (tree_of-revisions same next history (length trees) (omega (arith, length-with_revision same trees records)))
      ∙ ap (tree_of (fold (with_revision same) next history)) here)
  standing_at_end trees (records ∷ history) (suc rev) path within =
      let next = with_revision same trees records in
      let ends = end_of-cons (length records) (map length history) rev in
      let rest : end_of (length records ∷ map length history) (suc rev) - length records ≡ end_of (map length history) rev = omega (arith, ends) in
      let number : length next + rev ≡ length trees + suc rev = omega (arith, length-with_revision same trees records) in
      standing_past trees records history (end_of (length records ∷ map length history) (suc rev)) path (omega (arith, ends))
      ∙ ap (λ n. standing_at same (state_from same next history n) path) rest
      ∙ standing_at_end next history rev path (omega arith)
      ∙ ap (λ n. standing_at same (tree_of (fold (with_revision same) next history) n) path) number

  -- so it is in a whole history
  pub standing_revision : (history : History C M) (rev : ℕ) (path : List C) → rev < length history
      → standing_at same (state same history (end_of (map length history) rev)) path ≡ standing_at same (tree_of (trees_of same history) rev) path
  unfolding trees_of
  standing_revision history rev path within =
      let here : 0 + rev ≡ rev = omega arith in
      standing_at_end [] history rev path within ∙ ap (λ n. standing_at same (tree_of (fold (with_revision same) [] history) n) path) here

-- ---- dumps

-- groups have the sizes by which they were made
pub lengths-records_by_revision : {X : Type 0} (counts : List ℕ) (items : List X) → total counts ≡ length items
    → map length (records_by_revision counts items) ≡ counts
lengths-records_by_revision [] items all = refl
lengths-records_by_revision (count ∷ counts) items all =
    ap₂ (λ n ns. n ∷ ns) (length-take-le count items (omega arith))
    (lengths-records_by_revision counts (drop count items) (omega (arith, length-drop count items)))

module _ (dump : DumpValue) (is : IsDump dump) where
  -- a dump has as many records as its revisions together
  pub total-dump : total dump.counts ≡ length dump.records
  total-dump = total-revisions dump.records dump.counts is.revisions

  -- and each revision of its history has as many as it counts
  pub lengths-history_view : map length (history_view dump) ≡ dump.counts
  lengths-history_view =
      lengths-records_by_revision dump.counts (map record_view dump.records) (omega (arith, total-dump, length-map dump.records record_view))

  -- there is a revision for each count
  pub length-history_view : length (history_view dump) ≡ length dump.counts
  length-history_view = omega (arith, length-map (history_view dump) length, ap length lengths-history_view)

-- a revision ends at the last record at the latest
pub end_of-within : (dump : DumpValue) (rev : ℕ) → IsDump dump → end_of dump.counts rev ≤ length dump.records
end_of-within dump rev is = omega (arith, total-dump dump is, total-sum dump.counts, sum_by-take-le (λ (x : ℕ). x) dump.counts (rev + 1))

-- at the end of a revision stands what stands in its tree
pub standing-revision : (dump : DumpValue) (rev tick : ℕ) → IsEndIn dump rev tick → (path : List NameId)
    → standing_at same_name (state_in dump tick) path ≡ standing_at same_name (revision_in dump rev) path
standing-revision dump rev tick end path =
    let lengths = lengths-history_view dump end.dump_is in
    let tick_is = end.end ∙ ap (λ counts. end_of counts rev) (sym lengths) in
    ap (λ n. standing_at same_name (state_in dump n) path) tick_is
    ∙ standing_revision same_name IsSame-same_name (history_view dump) rev path (omega (arith, end.within, length-history_view dump end.dump_is))
