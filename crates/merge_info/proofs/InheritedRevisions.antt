-- What a path inherits, source path by source path.
use Rattle.merge_info.proofs.Common.{◌≡◌, ℕ, true, false, cond, List, [], ◌∷◌, ◌++◌, Some, None, All, bytes_eq, get_or, refl, arith, sym, ap, ◌∙◌, common_steps, false_from_ne_true, bytes_eq-Decides, append_cancel_right, All-append, All-head, All-map, All-tail, IsComponent, parts_of, path_text, parts_of-path_text, inheritability_of, inheritable_runs, Run, IsInheritablePart-filter, is_inheritable-out, inherited_value, inherited_line, inherited_lines, inherited_revision, path_below, IsPrintedPath, Line, IsEntry, IsMergeInfo, MergeInfoValue, runs_at}
use Rattle.std.specs.Cmp.{both_ways}
use Rattle.merge_info.proofs.CanonicalValues.{HasSameRevisions-canonical_value}
use Rattle.merge_info.proofs.Inheriting.{AreLines-inherited, components-printed}
use Rattle.merge_info.proofs.PrintedPaths.{IsPrintedPath-path_text}
use Rattle.merge_info.proofs.RunsAt.{runs_at-none}

-- ---- revisions

-- of the inheritable runs a number has the sort that is inherited
inheritability_of-inheritable : (runs : List Run) (n : ℕ)
    → inheritability_of (inheritable_runs runs) n ≡ inherited_revision (inheritability_of runs n)
inheritability_of-inheritable runs n =
    let part = IsInheritablePart-filter runs n in
    let out = is_inheritable-out runs n in
    grind arith

-- ---- source paths

module _ (rest : List (List ℕ)) (components : All IsComponent rest) where
  -- a printed path followed by the rest is another path where its parts are those
  path_below-parts : (path : List ℕ) (parts : List (List ℕ)) → IsPrintedPath path → All IsComponent parts
      → bytes_eq (path_below path (path_text rest)) (path_text parts) ≡ true → parts ≡ parts_of path ++ rest
  path_below-parts path parts printed are both =
      let below = path_below path (path_text rest) in
      sym (parts_of-path_text parts are) ∙ ap parts_of (sym ((bytes_eq-Decides below (path_text parts)).0 both))
      ∙ rw (parts_of-path_text rest components) (parts_of-path_text (parts_of path ++ rest)
      (All-append IsComponent (parts_of path) rest (components-printed path printed) components))

  -- it is another one followed by it exactly where both are the same
  path_below-same : (path : List ℕ) (above : List (List ℕ)) → IsPrintedPath path → All IsComponent above
      → bytes_eq (path_below path (path_text rest)) (path_text (above ++ rest)) ≡ bytes_eq path (path_text above)
  path_below-same path above printed parts = both_ways _ _
      (λ both.
      let are = All-append IsComponent above rest parts components in
      let all = path_below-parts path (above ++ rest) printed are both in
      let same = append_cancel_right (parts_of path) above rest (sym all) in
      (bytes_eq-Decides path (path_text above)).1 (sym printed.printed ∙ ap path_text same))
      (λ same.
      let above_is = ap parts_of ((bytes_eq-Decides path (path_text above)).0 same) ∙ parts_of-path_text above parts in
      (bytes_eq-Decides _ _).1 (λ i. path_text (above_is i ++ parts_of-path_text rest components i)))

  -- a path that does not end with the rest is none followed by it
  path_below-other : (path : List ℕ) (parts : List (List ℕ)) → IsPrintedPath path → All IsComponent parts
      → ((above : List (List ℕ)) → parts ≡ above ++ rest → ⊥)
      → bytes_eq (path_below path (path_text rest)) (path_text parts) ≡ false
  path_below-other path parts printed are none =
      false_from_ne_true _ (λ both. none (parts_of path) (path_below-parts path parts printed are both))

  -- ---- the runs of lines

  runs_at-below : (lines : List Line) (above : List (List ℕ)) → All IsEntry lines → All IsComponent above
      → runs_at (inherited_lines (path_text rest) lines) (path_text (above ++ rest))
      ≡ inheritable_runs (runs_at lines (path_text above))
  runs_at-below [] above entries parts = refl
  runs_at-below (line ∷ lines) above entries parts =
      let same_test = path_below-same line.path above (All-head IsEntry line lines entries).path parts in
      let later = runs_at-below lines above (All-tail IsEntry line lines entries) parts in
      grind (arith, common_steps)

  runs_at-other : (lines : List Line) (parts : List (List ℕ)) → All IsEntry lines → All IsComponent parts
      → ((above : List (List ℕ)) → parts ≡ above ++ rest → ⊥)
      → runs_at (inherited_lines (path_text rest) lines) (path_text parts) ≡ []
  runs_at-other lines parts entries are none =
      runs_at-none (inherited_lines (path_text rest) lines) (path_text parts)
      (All-map (λ line. bytes_eq line.path (path_text parts) ≡ false) (inherited_line (path_text rest)) lines
      (λ k d below. path_below-other (get_or lines k d).path parts (entries k d below).path are none))

  -- ---- a value

  module _ (value : MergeInfoValue) (is : IsMergeInfo value) where
    -- the value has the revisions of its lines
    inheritability_of-lines : (path : List ℕ) (n : ℕ)
        → inheritability_of (runs_at (inherited_value (path_text rest) value) path) n
        ≡ inheritability_of (runs_at (inherited_lines (path_text rest) value) path) n
    inheritability_of-lines path n =
        let lines = AreLines-inherited (path_text rest) value (IsPrintedPath-path_text rest components) is.entries in
        let same = HasSameRevisions-canonical_value (inherited_lines (path_text rest) value) lines path n in
        (λ i. cond (same.0 i) (Some (same.1 i)) None)

    -- what is inherited for a path that ends with the rest
    pub inherited-below : (above : List (List ℕ)) (n : ℕ) → All IsComponent above
        → inheritability_of (runs_at (inherited_value (path_text rest) value) (path_text (above ++ rest))) n
        ≡ inherited_revision (inheritability_of (runs_at value (path_text above)) n)
    inherited-below above n parts =
        inheritability_of-lines (path_text (above ++ rest)) n
        ∙ ap (λ runs. inheritability_of runs n) (runs_at-below value above is.entries parts)
        ∙ inheritability_of-inheritable (runs_at value (path_text above)) n

    -- and for any other path
    pub inherited-other : (parts : List (List ℕ)) (n : ℕ) → All IsComponent parts
        → ((above : List (List ℕ)) → parts ≡ above ++ rest → ⊥)
        → inheritability_of (runs_at (inherited_value (path_text rest) value) (path_text parts)) n ≡ None
    inherited-other parts n are none =
        inheritability_of-lines (path_text parts) n
        ∙ ap (λ runs. inheritability_of runs n) (runs_at-other value parts is.entries are none)
