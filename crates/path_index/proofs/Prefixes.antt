-- The trees of the records up to a revision, and those of fewer records that have the same revisions up to it.
use Rattle.path_index.proofs.Common.{◌≡◌, ◌≢◌, ℕ, zero, suc, ◌+◌, ◌<◌, ◌≤◌, ◌==◌, if◌then◌else◌, List, [], ◌∷◌, ◌++◌, All, filter, map, length, ◌-◌, refl, sym, ap, ◌∙◌, arith, inl, inr, cases_lt, cond_both, eq-eqb, eqb-true, map-append, All-nil, All-cons, All-head, All-tail, All-weaker, filter-append, same_name, NameId, record_view, Record, Tree, tree_of, end_tree, start_tree, tree_from_revision, first_tree, NodeRecord, ValueId, records_of, history_to, trees_to}
use Rattle.svn_dump.proofs.Revisions.{tree_of-append, trees_of-nil, trees_of_push, tree_of_push, length-trees_of, opening_last, start_tree-nil}
use Rattle.path_index.proofs.Rising.{records_of-others}
use Rattle.path_index.proofs.HistoryTo.{length-history_to}

-- ---- revisions of one list of records

-- as many trees as revisions
pub length-trees_to : (records : List NodeRecord) (rev : ℕ) → length (trees_to records rev) ≡ rev + 1
length-trees_to records rev = length-trees_of same_name (history_to records rev) ∙ length-history_to records rev

-- the trees before a revision
abbrev pub trees_before : List NodeRecord → ℕ → List (Tree NameId ValueId)
trees_before records zero = []
trees_before records (suc rev) = trees_to records rev

length-trees_before : (records : List NodeRecord) (rev : ℕ) → length (trees_before records rev) ≡ rev
length-trees_before records zero = refl
length-trees_before records (suc rev) = omega (arith, length-trees_to records rev)

-- the trees up to a revision are those before it and the one after its records
pub trees_to-last : (records : List NodeRecord) (rev : ℕ)
    → trees_to records rev ≡ trees_before records rev ++ end_tree same_name (trees_before records rev) (records_of records rev) ∷ []
unfolding history_to
trees_to-last records zero =
    trees_of_push same_name [] (records_of records 0)
    ∙ ap (λ trees. trees ++ end_tree same_name trees (records_of records 0) ∷ []) (trees_of-nil {M = ValueId} same_name)
trees_to-last records (suc rev) = trees_of_push same_name (history_to records rev) (records_of records (suc rev))

-- the tree of the last revision
pub tree_of-last : (records : List NodeRecord) (rev : ℕ)
    → tree_of (trees_to records rev) rev ≡ end_tree same_name (trees_before records rev) (records_of records rev)
tree_of-last records rev =
    let tree = end_tree same_name (trees_before records rev) (records_of records rev) in
    ap (λ trees. tree_of trees rev) (trees_to-last records rev)
    ∙ ap (tree_of (trees_before records rev ++ tree ∷ [])) (sym (length-trees_before records rev))
    ∙ tree_of_push (trees_before records rev) tree

-- later revisions leave the trees of the earlier ones
pub tree_of-earlier : (records : List NodeRecord) (rev last : ℕ) → rev ≤ last → tree_of (trees_to records last) rev ≡ tree_of (trees_to records rev) rev
tree_of-earlier records rev zero low =
    let first : 0 ≡ rev = omega arith in ap (λ n. tree_of (trees_to records n) rev) first
tree_of-earlier records rev (suc last) low = elim (cases_lt last rev) [
  | inl past ↦ let here : suc last ≡ rev = omega arith in ap (λ n. tree_of (trees_to records n) rev) here
  | inr within ↦
      ap (λ trees. tree_of trees rev) (trees_to-last records (suc last))
      ∙ tree_of-append (trees_to records last) _ rev (omega (arith, length-trees_to records last, within))
      ∙ tree_of-earlier records rev last within
]

-- the first revision begins with the root
pub start_tree-first : (records : List NodeRecord) → start_tree (trees_before records 0) ≡ first_tree
start_tree-first records = start_tree-nil

-- another one begins with the tree of the revision before, each path with its origin there
pub start_tree-suc : (records : List NodeRecord) (rev : ℕ) → start_tree (trees_before records (suc rev)) ≡ tree_from_revision rev (tree_of (trees_to records rev) rev)
start_tree-suc records rev =
    let trees = trees_to records rev in
    let last : length trees - 1 ≡ rev = omega (arith, length-trees_to records rev) in
    opening_last trees (omega (arith, length-trees_to records rev)) ∙ (λ i. tree_from_revision (last i) (tree_of trees (last i)))

-- ---- the records of a revision

records_of-append : (front more : List NodeRecord) (rev : ℕ) → records_of (front ++ more) rev ≡ records_of front rev ++ records_of more rev
records_of-append front more rev =
    ap (map record_view) (filter-append (λ (each : NodeRecord). each.rev == rev) front more)
    ∙ map-append record_view (filter (λ each. each.rev == rev) front) (filter (λ each. each.rev == rev) more)

-- a record is among those of its revision
pub records_of-here : (each : NodeRecord) (records : List NodeRecord) → records_of (each ∷ records) each.rev ≡ record_view each ∷ records_of records each.rev
records_of-here each records =
    ap (λ b. map record_view (if b then each ∷ filter (λ e. e.rev == each.rev) records else filter (λ e. e.rev == each.rev) records)) (eq-eqb each.rev each.rev refl)

-- what holds of the records of a revision holds of those in its list
pub All-of_revision : (P : Record NameId ValueId → Type 0) (records : List NodeRecord) (rev : ℕ)
    → All (λ each. each.rev ≡ rev → P (record_view each)) records → All P (records_of records rev)
All-of_revision P [] rev all = All-nil P
All-of_revision P (each ∷ records) rev all =
    let Q = λ (e : NodeRecord). e.rev ≡ rev → P (record_view e) in
    let rest = records_of records rev in
    let more = All-of_revision P records rev (All-tail Q each records all) in
    cond_both (each.rev == rev) (each ∷ filter (λ e. e.rev == rev) records) (filter (λ e. e.rev == rev) records) (λ found. All P (map record_view found))
    (λ here. All-cons P (record_view each) rest (All-head Q each records all (eqb-true each.rev rev here)) more)
    (λ other. more)

-- what holds of the records of the revisions up to a limit holds of those of each of these revisions
pub All-records_of : (P : Record NameId ValueId → Type 0) (records : List NodeRecord) (limit rev : ℕ) → rev ≤ limit
    → All (λ each. each.rev ≤ limit → P (record_view each)) records → All P (records_of records rev)
All-records_of P records limit rev within all =
    All-of_revision P records rev
    (All-weaker (λ (e : NodeRecord). e.rev ≤ limit → P (record_view e)) (λ (e : NodeRecord). e.rev ≡ rev → P (record_view e)) (λ e up here. up (omega arith)) records all)

-- ---- fewer records

-- records of earlier revisions are not of a later one
pub records_of-back : (front more : List NodeRecord) (rev : ℕ) → All (λ each. each.rev < rev) front → records_of (front ++ more) rev ≡ records_of more rev
records_of-back front more rev earlier =
    records_of-append front more rev
    ∙ ap (λ first. first ++ records_of more rev)
    (records_of-others front rev (All-weaker (λ (each : NodeRecord). each.rev < rev) (λ each. each.rev ≢ rev) (λ each before e. omega arith) front earlier))

-- a record with those before and after it
pub records_of-among : (front : List NodeRecord) (each : NodeRecord) (more : List NodeRecord)
    → records_of (front ++ each ∷ more) each.rev ≡ records_of front each.rev ++ record_view each ∷ records_of more each.rev
records_of-among front each more =
    records_of-append front (each ∷ more) each.rev ∙ ap (λ rest. records_of front each.rev ++ rest) (records_of-here each more)
