-- The text of a value, as it is read again.
use Rattle.merge_info.proofs.Common.{◌≡◌, ◌≢◌, ℕ, ◌<◌, List, [], ◌∷◌, ◌++◌, length, get_or, map, All, refl, arith, strip_last, join_with_byte, slice_split, common_steps, append_assoc, All-map, list_any_none, is_dot, parts_of, is_newline, Lacks, after_last-whole, before_last-whole, IsCanonical, Run, IsPrintedPath, Line, line_from, line_of, printed_entry, value_text, IsEntry, IsMergeInfo, IsOnOneLine, lines_between, lines_of, text_lines, AreRuns-from_canonical}
use Rattle.std.specs.Prelude.{Some}
use Rattle.std.proofs.lemmas.List.{append-nil}
use Rattle.range_list.specs.Text.{rangelist_text}
use Rattle.merge_info.proofs.CanonicalRuns.{has_clash-canonical}
use Rattle.merge_info.proofs.JoinedBytes.{Lacks-append, Lacks-cons, Lacks-nil, all_of-map, length-join, list_any-whole, slice_split-join}
use Rattle.merge_info.proofs.RunTexts.{Lacks-rangelist_text, elements_of-rangelist_text, without_blanks-rangelist_text}

-- ---- a line

line_from-entry : (path : List ℕ) (runs : List Run) → IsPrintedPath path → IsCanonical runs
    → line_from path runs ≡ Some (record { path = path; runs = runs })
line_from-entry path runs is_path canonical =
    rw (list_any_none is_dot (parts_of path) is_path.no_dot, has_clash-canonical runs canonical, is_path.printed) refl

-- the last colon stands before the rangelist
line_of-joined : (path : List ℕ) (runs : List Run) → IsPrintedPath path → IsCanonical runs → runs ≢ []
    → line_of (path ++ 58 ∷ rangelist_text runs) ≡ Some (record { path = path; runs = runs })
unfolding line_of
line_of-joined path runs is_path canonical some =
    let text = rangelist_text runs in
    let are_runs = AreRuns-from_canonical runs canonical in
    let none = Lacks-rangelist_text 58 runs (refl, refl, refl) refl are_runs in
    rw (
      list_any-whole 58 path text,
      after_last-whole 58 path text none,
      before_last-whole 58 path text none,
      without_blanks-rangelist_text runs are_runs,
      elements_of-rangelist_text runs some are_runs,
    )
    (line_from-entry path runs is_path canonical)

-- a printed line is read as the entry
line_of-printed_entry : (line : Line) → IsEntry line → line_of (printed_entry line) ≡ Some line
line_of-printed_entry line is_entry =
    rw append_assoc (line_of-joined line.path line.runs is_entry.path is_entry.canonical is_entry.some)

-- it has no newline, if its path has none
Lacks-printed_entry : (line : Line) → IsEntry line → IsOnOneLine line → Lacks 10 (printed_entry line)
Lacks-printed_entry line is_entry one_line =
    let colon = Lacks-cons 10 58 [] refl (Lacks-nil 10) in
    let are_runs = AreRuns-from_canonical line.runs is_entry.canonical in
    let runs = Lacks-rangelist_text 10 line.runs (refl, refl, refl) refl are_runs in
    let path = Lacks-append 10 line.path (58 ∷ []) one_line colon in
    Lacks-append 10 (line.path ++ 58 ∷ []) (rangelist_text line.runs) path runs

length-printed_entry : (line : Line) → 0 < length (printed_entry line)
length-printed_entry line = grind (arith, common_steps)

-- ---- the lines

-- the last byte, which was put behind the others, is taken off
strip_last-push : (byte : ℕ) (bytes : List ℕ) → strip_last byte (bytes ++ byte ∷ []) ≡ bytes
strip_last-push byte bytes = grind (arith, common_steps)

-- newlines join the lines, and one more follows
value_text-joined : (line : Line) (lines : List Line)
    → value_text (line ∷ lines) ≡ join_with_byte 10 (map printed_entry (line ∷ lines)) ++ 10 ∷ []
value_text-joined line [] = append-nil (printed_entry line ++ 10 ∷ [])
value_text-joined line (next ∷ lines) =
    let more = value_text-joined next lines in
    grind (arith, common_steps)

-- bytes that are not empty are a line or more
lines_between-some : (bytes : List ℕ) → 0 < length bytes → lines_between bytes ≡ slice_split is_newline bytes
lines_between-some [] some = absurd (omega arith)
lines_between-some (byte ∷ bytes) some = refl

-- the lines of a printed value are those of its entries
text_lines-value_text : (value : List Line) → All IsEntry value → All IsOnOneLine value
    → text_lines (value_text value) ≡ map printed_entry value
text_lines-value_text [] entries one_line = refl
text_lines-value_text (line ∷ lines) entries one_line =
    let joined = join_with_byte 10 (map printed_entry (line ∷ lines)) in
    let some = length-join 10 (printed_entry line) (map printed_entry lines) (length-printed_entry line) in
    let none = All-map (Lacks 10) printed_entry (line ∷ lines)
    (λ k d below. Lacks-printed_entry (get_or (line ∷ lines) k d) (entries k d below) (one_line k d below)) in
    rw (value_text-joined line lines, strip_last-push 10 joined, lines_between-some joined some)
    (slice_split-join 10 (printed_entry line) (map printed_entry lines) none)

-- a printed value is read as the value
pub lines_of-value_text : (value : List Line) → IsMergeInfo value → All IsOnOneLine value
    → lines_of (value_text value) ≡ Some value
unfolding lines_of
lines_of-value_text value is_value one_line =
    rw (text_lines-value_text value is_value.entries one_line)
    (all_of-map line_of printed_entry value
    (λ k d below. line_of-printed_entry (get_or value k d) (is_value.entries k d below)))
