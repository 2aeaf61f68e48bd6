-- What a line says, by the cut at its last colon.
use Rattle.merge_info.proofs.Common.{◌≡◌, ℕ, List, Some, None, refl, ap, ◌∙◌, option_and_then, false_from_ne_true, Run, IsCutAtLast, Lacks, list_any-cut, before_last-cut, after_last-cut, list_any-Lacks, components-parts_of, HasDot, parts_of, path_text, IsPrintedPath, elements_of, line_from, line_of, without_blanks}
use Rattle.merge_info.proofs.PrintedPaths.{IsPrintedPath-path_text}

-- a line without a colon is malformed
pub line_of-uncut : (bytes : List ℕ) → Lacks 58 bytes → line_of bytes ≡ None
unfolding line_of
line_of-uncut bytes none = rw (list_any-Lacks 58 bytes none) refl

-- a line with one
line_of-cut : (bytes path list : List ℕ) → IsCutAtLast 58 bytes path list → line_of bytes ≡ option_and_then (line_from path) (elements_of (without_blanks list))
unfolding line_of
line_of-cut bytes path list cut = rw (list_any-cut 58 bytes path list cut, before_last-cut 58 bytes path list cut, after_last-cut 58 bytes path list cut) refl

module _ (bytes path list : List ℕ) (cut : IsCutAtLast 58 bytes path list) where
  pub line_of-malformed_list : elements_of (without_blanks list) ≡ None → line_of bytes ≡ None
  line_of-malformed_list none = line_of-cut bytes path list cut ∙ ap (option_and_then (line_from path)) none

  module _ (runs : List Run) (read : elements_of (without_blanks list) ≡ Some runs) where
    pub line_of-line_from : line_of bytes ≡ line_from path runs
    line_of-line_from = line_of-cut bytes path list cut ∙ ap (option_and_then (line_from path)) read

-- the path as it is printed is a printed path
pub IsPrintedPath-of_bytes : (path : List ℕ) → (HasDot path → ⊥) → IsPrintedPath (path_text (parts_of path))
IsPrintedPath-of_bytes path fine = IsPrintedPath-path_text (parts_of path) (components-parts_of path (false_from_ne_true _ fine))
