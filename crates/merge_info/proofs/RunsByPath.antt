-- The map from paths to runs as lines, and what a line put into it makes of them.
use Rattle.merge_info.proofs.Common.{◌≡◌, true, arith, ℕ, Bool, false, IfSome, List, [], ◌∷◌, ◌++◌, Option, None, Some, All, map, bytes_eq, refl, sym, ap, subst, ◌∙◌, inl, inr, append-nil, Ordering, cases_Bool, eq_by_cmp_equiv, nat_list_cmp_total, nat_list_eq_equiv, common_steps, All-append, All-map, bytes_eq-Decides, slice_cmp, IsStrictlySortedBy, nat_cmp, IsRun, Run, IsLine, IsPrintedPath, Line, AddsLine, RunsByPath, lines_in, AreRising, runs_at}
use Rattle.std.proofs.lemmas.Map.Keys.{sorted_head, sorted_tail}
use Rattle.std.proofs.lemmas.Map.Text.{is_eq-slice_cmp}
use Rattle.std.proofs.lemmas.Map.Views.{All-keys-insert_entry, All-values-insert_entry, All-values-set_value, IfSome-lookup_from_All}
use Rattle.std.specs.BTreeMap.{get_by, is_at, insert_entry, IsOrdered, UpdatesBy, WritesThrough}
use Rattle.std.specs.Global.{Vec}
use Rattle.std.specs.Map.{KeepsOthers, keys_of, values_of, lookup}
use Rattle.std.specs.Option.{is_some}
use Rattle.merge_info.proofs.Each.{All-from_map}
use Rattle.merge_info.proofs.Rising.{AreRising-first, AreRising-tail, runs_at-before}
use Rattle.merge_info.proofs.RunsAt.{runs_at-push}

-- a path of the map with its runs
abbrev pub MapEntry : Type 0
MapEntry = Vec ℕ × Vec Run

-- a path and its runs as a line
abbrev pub line_in : MapEntry → Line
line_in entry = record { path = entry.0.items; runs = entry.1.items }

-- the order of the keys
abbrev path_cmp : Vec ℕ → Vec ℕ → Ordering
path_cmp a b = slice_cmp nat_cmp a.items b.items

-- whether a key has the path
abbrev has_path : List ℕ → Vec ℕ → Bool
has_path path = is_at (λ key. slice_cmp nat_cmp path key.items)

-- what a search for a path finds in the map
abbrev pub runs_found : RunsByPath → List ℕ → Option (Vec Run)
runs_found by_path path = get_by (λ (key : Vec ℕ). slice_cmp nat_cmp path key.items) by_path

-- its runs, or none
abbrev items_found : Option (Vec Run) → List Run
items_found None = []
items_found (Some runs) = runs.items

-- ---- the lines of the map

-- keys in order are lines with rising paths
AreRising-sorted : (entries : List MapEntry) → IsStrictlySortedBy path_cmp (keys_of entries)
    → AreRising (map line_in entries)
AreRising-sorted [] sorted = tt
AreRising-sorted (entry ∷ []) sorted = tt
AreRising-sorted (entry ∷ next ∷ entries) sorted = (
  (sorted_head path_cmp entry.0 (keys_of (next ∷ entries)) sorted).0,
  AreRising-sorted (next ∷ entries) (sorted_tail path_cmp entry.0 (keys_of (next ∷ entries)) sorted),
)

abbrev ArePaths : List MapEntry → Type 0
ArePaths entries = All (λ (key : Vec ℕ). IsPrintedPath key.items) (keys_of entries)

abbrev AreRuns : List MapEntry → Type 0
AreRuns entries = All (λ (runs : Vec Run). All IsRun runs.items) (values_of entries)

AreLines-entries : (entries : List MapEntry) → ArePaths entries → AreRuns entries → All IsLine (map line_in entries)
AreLines-entries entries paths runs = All-map IsLine line_in entries (λ k d below. record {
  path = All-from_map (λ (key : Vec ℕ). IsPrintedPath key.items) (λ entry. entry.0) entries paths k d below;
  runs = All-from_map (λ (runs : Vec Run). All IsRun runs.items) (λ entry. entry.1) entries runs k d below;
})

-- and back
module _ (entries : List MapEntry) (are_lines : All IsLine (map line_in entries)) where
  ArePaths-lines : ArePaths entries
  ArePaths-lines = All-map (λ (key : Vec ℕ). IsPrintedPath key.items) (λ entry. entry.0) entries
      (λ k d below. (All-from_map IsLine line_in entries are_lines k d below).path)

  AreRuns-lines : AreRuns entries
  AreRuns-lines = All-map (λ (runs : Vec Run). All IsRun runs.items) (λ entry. entry.1) entries
      (λ k d below. (All-from_map IsLine line_in entries are_lines k d below).runs)

-- they give a path the runs that a search finds
runs_at-lookup : (entries : List MapEntry) (path : List ℕ) → AreRising (map line_in entries)
    → runs_at (map line_in entries) path ≡ items_found (lookup (has_path path) entries)
runs_at-lookup [] path rising = refl
runs_at-lookup (entry ∷ entries) path rising =
    let lines = map line_in entries in
    let rest = runs_at-lookup entries path (AreRising-tail (line_in entry) lines rising) in
    let tested = is_eq-slice_cmp path entry.0.items ∙ nat_list_eq_equiv.symm path entry.0.items in
    let none : bytes_eq entry.0.items path ≡ true → runs_at lines path ≡ [] = λ same.
    ap (runs_at lines) (sym ((bytes_eq-Decides entry.0.items path).0 same))
    ∙ runs_at-before lines entry.0.items (AreRising-first (line_in entry) lines rising) in
    grind (arith, common_steps)

-- ---- a line put into the map

-- after the runs of the path come those of the line
module _ (old new : RunsByPath) (line : Line) (more : Vec Run) (ordered : IsOrdered path_cmp new)
    (longer : more.items ≡ items_found (runs_found old line.path) ++ line.runs)
    (updates : UpdatesBy path_cmp (λ (key : Vec ℕ). slice_cmp nat_cmp line.path key.items) old new (Some more)) where
  others : (path : List ℕ) → bytes_eq line.path path ≡ false → runs_found new path ≡ runs_found old path
  unfolding KeepsOthers
  others path other =
      updates.3 (has_path path) (λ x y. (eq_by_cmp_equiv nat_list_cmp_total).congr path x.items y.items)
      (λ key has.
      let is = (bytes_eq-Decides line.path key.items).0 (sym (is_eq-slice_cmp line.path key.items) ∙ has) in
      is_eq-slice_cmp path key.items ∙ ap (bytes_eq path) (sym is) ∙ nat_list_eq_equiv.symm path line.path ∙ other)

  AddsLine-update : (All IsLine (lines_in old) → All IsLine (lines_in new)) → AddsLine line old new
  AddsLine-update kept lines unites =
      let rising = AreRising-sorted new.entries ordered in
      record {
        rising = rising;
        kept = kept unites.kept;
        same = λ path.
            rw (
              runs_at-lookup new.entries path rising,
              runs_at-push,
              ← unites.same path,
              runs_at-lookup old.entries path unites.rising,
            )
            (elim (cases_Bool (bytes_eq line.path path)) [
              | inl same ↦ rw same
                  (subst (λ each. items_found (runs_found new each) ≡ items_found (runs_found old each) ++ line.runs)
                  ((bytes_eq-Decides line.path path).0 same) (ap items_found updates.1 ∙ longer))
              | inr other ↦ rw (other, append-nil) (ap items_found (others path other))
            ]);
      }

-- under a path that the map has not
pub AreRunsByPath-insert : (old new : RunsByPath) (path : Vec ℕ) (runs : Vec Run) → IsLine (line_in (path, runs))
    → runs_found old path.items ≡ None → new.entries ≡ insert_entry path_cmp old.entries path runs
    → UpdatesBy path_cmp (path_cmp path) old new (Some runs) → IsOrdered path_cmp new
    → AddsLine (line_in (path, runs)) old new
AreRunsByPath-insert old new path runs is_line absent entries updates ordered =
    AddsLine-update old new (line_in (path, runs)) runs ordered
    (ap (λ found. items_found found ++ runs.items) (sym absent)) updates
    (λ kept. rw entries (AreLines-entries (insert_entry path_cmp old.entries path runs)
    (All-keys-insert_entry path_cmp path runs (λ key. IsPrintedPath key.items) old.entries
    (ArePaths-lines old.entries kept) is_line.path)
    (All-values-insert_entry path_cmp path runs (λ each. All IsRun each.items) old.entries
    (AreRuns-lines old.entries kept) is_line.runs)))

-- under a path that the map has, whose runs the new ones follow
pub AreRunsByPath-write : (old new : RunsByPath) (path : List ℕ) (all more : Vec Run) (runs : List Run)
    → All IsRun runs → runs_found old path ≡ Some all → more.items ≡ all.items ++ runs
    → WritesThrough path_cmp (λ (key : Vec ℕ). slice_cmp nat_cmp path key.items) old more new
    → AddsLine (record { path = path; runs = runs }) old new
AreRunsByPath-write old new path all more runs are_runs found longer writes =
    AddsLine-update old new (record { path = path; runs = runs }) more writes.4
    (longer ∙ ap (λ found. items_found found ++ runs) (sym found)) (writes.3 (ap is_some found))
    (λ kept.
    let values = AreRuns-lines old.entries kept in
    let all_runs = subst (λ o. IfSome o (λ (each : Vec Run). All IsRun each.items)) found
    (IfSome-lookup_from_All (λ (each : Vec Run). All IsRun each.items) (has_path path) old.entries values) in
    AreLines-entries new.entries (rw writes.1 (ArePaths-lines old.entries kept))
    (rw writes.0 (All-values-set_value (has_path path) (λ each. All IsRun each.items) old.entries more values
    (rw longer (All-append IsRun all.items runs all_runs are_runs)))))
