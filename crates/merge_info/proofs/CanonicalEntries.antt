-- The entries of a value, made of the lines of a map one after another.
use Rattle.merge_info.proofs.Common.{◌≡◌, ◌≢◌, true, List, [], ◌∷◌, ◌++◌, All, filter, map, bytes_eq, get_or, inl, inr, refl, sym, ◌∙◌, append-nil, cases_Bool, All-head, All-map, All-rest, All-tail, IsCanonical, Run, canonical_runs-HasSameNumbers, canonical_runs-IsCanonical, HasSameNumbers-append, HasSameNumbers-refl, canonical_value, has_runs, is_some_run, IsLine, IsPrintedPath, Line, AreRunsByPath, RunsByPath, lines_in, AreRising, HasSameRevisions, IsMergeInfo, runs_at}
use Rattle.std.proofs.Common.{append_assoc}
use Rattle.range_list.specs.Canonical.{canonical_runs}
use Rattle.merge_info.proofs.CanonicalValues.{HasSameRevisions-canonical_value, IsMergeInfo-canonical_value, IsMergeInfo-filter, canonical_value-only, runs_at-filter}

abbrev pub canonical_line : Line → Line
canonical_line line = record { path = line.path; runs = canonical_runs line.runs }

abbrev pub canonical_entries : List Line → List Line
canonical_entries lines = filter has_runs (map canonical_line lines)

AreRising-canonical_line : (lines : List Line) → AreRising lines → AreRising (map canonical_line lines)
AreRising-canonical_line [] rising = tt
AreRising-canonical_line (line ∷ []) rising = tt
AreRising-canonical_line (line ∷ next ∷ lines) rising = (rising.0, AreRising-canonical_line (next ∷ lines) rising.1)

HasSameRevisions-canonical_line : (lines : List Line) → All IsLine lines
    → HasSameRevisions (map canonical_line lines) lines
HasSameRevisions-canonical_line [] are_lines path = HasSameNumbers-refl []
HasSameRevisions-canonical_line (line ∷ lines) are_lines path =
    let rest = HasSameRevisions-canonical_line lines (All-tail IsLine line lines are_lines) path in
    let first = canonical_runs-HasSameNumbers line.runs (All-head IsLine line lines are_lines).runs in
    elim (cases_Bool (bytes_eq line.path path)) [
      | inl same ↦
          rw same (HasSameNumbers-append (canonical_runs line.runs) line.runs
          (runs_at (map canonical_line lines) path) (runs_at lines path) first rest)
      | inr other ↦ rw other rest
    ]

-- the entries so far, with those of the lines that are left, are the value
pub record IsSoFar (lines entries rest : List Line) : Type 0 where
  pub value : canonical_value lines ≡ entries ++ canonical_entries rest
  pub are_lines : All IsLine rest

-- the lines of a map are those that are left at first
pub IsSoFar-none : (lines : List Line) (by_path : RunsByPath) → All IsLine lines → AreRunsByPath lines by_path
    → IsSoFar lines [] (lines_in by_path)
IsSoFar-none lines by_path are_lines unites =
    let all = lines_in by_path in
    record {
      value = sym (canonical_value-only lines are_lines (canonical_entries all)
          (IsMergeInfo-filter (map canonical_line all)
          (All-map (λ line. IsPrintedPath line.path) canonical_line all (λ k d below. (unites.kept k d below).path))
          (All-map (λ line. IsCanonical line.runs) canonical_line all
          (λ k d below. canonical_runs-IsCanonical (get_or all k d).runs))
          (AreRising-canonical_line all unites.rising))
          (λ path. rw (runs_at-filter (map canonical_line all) path, ← unites.same path)
          (HasSameRevisions-canonical_line all unites.kept path)));
      are_lines = unites.kept;
    }

is_some_run-some : (runs : List Run) → runs ≢ [] → is_some_run runs ≡ true
is_some_run-some [] some = absurd (some refl)
is_some_run-some (run ∷ runs) some = refl

module _ {lines entries rest : List Line} (so_far : IsSoFar lines entries rest) where
  -- at the end
  pub IsSoFar-all : rest ≡ [] → All IsLine lines
      → IsMergeInfo entries × HasSameRevisions entries lines × (entries ≡ canonical_value lines)
  IsSoFar-all none are_lines =
      let exact : entries ≡ canonical_value lines = sym (so_far.value ∙ rw none (append-nil entries)) in
      rw exact (IsMergeInfo-canonical_value lines are_lines, HasSameRevisions-canonical_value lines are_lines, refl)

  module _ {line : Line} {others : List Line} (next : rest ≡ line ∷ others) where
    -- the next line has no number
    pub IsSoFar-skip : canonical_runs line.runs ≡ [] → IsSoFar lines entries others
    IsSoFar-skip none = record {
      value = so_far.value ∙ rw (next, none) refl;
      are_lines = All-rest IsLine line others rest next so_far.are_lines;
    }

    -- the next line gives an entry
    pub IsSoFar-push : canonical_runs line.runs ≢ [] → IsSoFar lines (entries ++ canonical_line line ∷ []) others
    IsSoFar-push some = record {
      value = so_far.value ∙ rw (next, is_some_run-some (canonical_runs line.runs) some)
          (sym (append_assoc entries (canonical_line line ∷ []) (canonical_entries others)));
      are_lines = All-rest IsLine line others rest next so_far.are_lines;
    }
