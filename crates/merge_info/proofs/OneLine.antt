-- No newline stands in the paths of a value that was read from a text.
use Rattle.merge_info.proofs.Common.{◌≡◌, ℕ, Bool, true, false, IfSome, List, [], ◌∷◌, Option, Some, None, All, inl, inr, get_or, map, refl, subst, if◌then◌else◌, option_and_then, option_map, cases_Bool, All-nil, All-cons, All-head, All-tail, All-append, All-filter, All-take, Any-from_list_any, bytes_eq-Decides, strip_last, after_last, before_last, list_any, onto_first, slice_split, is_dot, is_slash, parts_of, parts_text, path_text, is_colon, is_not_empty, Run, Line, all_of, elements_of, has_clash, line_from, line_of, without_blanks, is_newline, HasSameRevisions, IsEntry, IsMergeInfo, IsOnOneLine, lines_between, lines_of, text_lines}
use Rattle.std.specs.Prelude.{bytes_eq}
use Rattle.range_list.proofs.Only.{only_canonical}
use Rattle.merge_info.proofs.Each.{All-from_list_any}
use Rattle.merge_info.proofs.Rising.{runs_at-line}
use Rattle.merge_info.proofs.RunsAt.{runs_at-none}

-- ---- what holds of each byte

module _ (P : ℕ → Type 0) where
  onto_first-All : (byte : ℕ) (parts : List (List ℕ)) → P byte → All (All P) parts → All (All P) (onto_first byte parts)
  onto_first-All byte [] first all = All-cons (All P) (byte ∷ []) [] (All-cons P byte [] first (All-nil P)) all
  onto_first-All byte (part ∷ parts) first all =
      All-cons (All P) (byte ∷ part) parts (All-cons P byte part first (All-head (All P) part parts all))
      (All-tail (All P) part parts all)

  parts_text-All : P 47 → (parts : List (List ℕ)) → All (All P) parts → All P (parts_text parts)
  parts_text-All slash [] all = All-nil P
  parts_text-All slash (part ∷ parts) all =
      All-append P (47 ∷ part) (parts_text parts) (All-cons P 47 part slash (All-head (All P) part parts all))
      (parts_text-All slash parts (All-tail (All P) part parts all))

  path_text-All : P 47 → (parts : List (List ℕ)) → All (All P) parts → All P (path_text parts)
  path_text-All slash [] all = All-cons P 47 [] slash (All-nil P)
  path_text-All slash (part ∷ parts) all = parts_text-All slash (part ∷ parts) all

module _ (P : ℕ → Type 0) (test : ℕ → Bool) where
  abbrev IsBetween : ℕ → Type 0
  IsBetween byte = P byte × (test byte ≡ false)

  -- each byte of a part is one of the bytes, and none at which they were split
  slice_split-All : (bytes : List ℕ) → All P bytes → All (All IsBetween) (slice_split test bytes)
  slice_split-All [] all = All-cons (All IsBetween) [] [] (All-nil IsBetween) (All-nil (All IsBetween))
  slice_split-All (byte ∷ bytes) all =
      let rest = slice_split-All bytes (All-tail P byte bytes all) in
      elim (cases_Bool (test byte)) [
        | inl ends ↦ rw ends (All-cons (All IsBetween) [] (slice_split test bytes) (All-nil IsBetween) rest)
        | inr goes ↦
            rw goes (onto_first-All IsBetween byte (slice_split test bytes) (All-head P byte bytes all, goes) rest)
      ]

abbrev LacksNewline : List ℕ → Type 0
LacksNewline bytes = All (λ byte. is_newline byte ≡ false) bytes

-- ---- the path of a line

line_from-one_line : (path : List ℕ) (runs : List Run) → LacksNewline path → IfSome (line_from path runs) IsOnOneLine
line_from-one_line path runs all = by (list_any is_dot (parts_of path)) (has_clash runs)
  where
    by : (dot clash : Bool) → IfSome (if dot then None
        else (if clash then None else Some (record { path = path_text (parts_of path); runs = runs }))) IsOnOneLine
    by true clash = tt
    by false true = tt
    by false false =
        path_text-All (λ byte. is_newline byte ≡ false) refl (parts_of path)
        (All-filter is_not_empty LacksNewline (slice_split is_slash path)
        (λ k d below j e within.
        (slice_split-All (λ byte. is_newline byte ≡ false) is_slash path all k d below j e within).0))

line_of-one_line : (bytes : List ℕ) → LacksNewline bytes → IfSome (line_of bytes) IsOnOneLine
unfolding line_of
line_of-one_line bytes all = by (list_any is_colon bytes) (elements_of (without_blanks (after_last is_colon bytes)))
  where
    path : List ℕ
    path = before_last is_colon bytes

    by : (cut : Bool) (list : Option (List Run))
        → IfSome (if cut then option_and_then (line_from path) list else None) IsOnOneLine
    by true None = tt
    by true (Some runs) = line_from-one_line path runs (All-take (λ byte. is_newline byte ≡ false) _ bytes all)
    by false list = tt

-- ---- the lines of a text

all_of-All : {X Y : Type 0} (read : X → Option Y) (P : Y → Type 0) (xs : List X) → All (λ x. IfSome (read x) P) xs
    → IfSome (all_of (map read xs)) (All P)
all_of-All read P [] all = All-nil P
all_of-All {Y = Y} read P (x ∷ xs) all =
    by (read x) (all_of (map read xs)) (All-head (λ x. IfSome (read x) P) x xs all)
    (all_of-All read P xs (All-tail (λ x. IfSome (read x) P) x xs all))
  where
    by : (one : Option Y) (rest : Option (List Y)) → IfSome one P → IfSome rest (All P)
        → IfSome (option_and_then (λ y. option_map (λ more. y ∷ more) rest) one) (All P)
    by None rest first others = tt
    by (Some y) None first others = tt
    by (Some y) (Some more) first others = All-cons P y more first others

text_lines-one_line : (text : List ℕ) → All LacksNewline (text_lines text)
text_lines-one_line text = between (strip_last 10 text)
  where
    between : (bytes : List ℕ) → All LacksNewline (lines_between bytes)
    between [] = All-nil LacksNewline
    between (byte ∷ bytes) = λ k d below j e within.
        (slice_split-All (λ _. Unit {0}) is_newline (byte ∷ bytes) (λ k d below. tt) k d below j e within).1

pub lines_of-one_line : (text : List ℕ) (lines : List Line) → lines_of text ≡ Some lines → All IsOnOneLine lines
unfolding lines_of
lines_of-one_line text lines is =
    subst (λ read. IfSome read (All IsOnOneLine)) is
    (all_of-All line_of IsOnOneLine (text_lines text)
    (λ k d below. line_of-one_line (get_or (text_lines text) k d) (text_lines-one_line text k d below)))

-- the paths of a value that has the revisions of lines are paths of lines
pub IsOnOneLine-value : (value lines : List Line) → IsMergeInfo value → HasSameRevisions value lines
    → All IsOnOneLine lines → All IsOnOneLine value
IsOnOneLine-value value lines is same all k d below =
    let entry : Line = get_or value k d in
    let fine : IsEntry entry = is.entries k d below in
    let has_path = λ (line : Line). bytes_eq line.path entry.path in
    elim (cases_Bool (list_any has_path lines)) [
      | inl there ↦
          let (j, line, within, at, found) = Any-from_list_any has_path lines there in
          rw (← (bytes_eq-Decides line.path entry.path).0 found, ← at) (all j line within)
      | inr absent ↦
          let none = runs_at-none lines entry.path (All-from_list_any has_path lines absent) in
          absurd (fine.some (only_canonical entry.runs [] fine.canonical tt
          (rw (runs_at-line value k d is.rising below, none) at (same entry.path))))
    ]
