-- The block at the front of the bytes: its lines, what stands behind them, and that it is a block exactly where nothing is
-- told against its form.
use Rattle.svn_dump.proofs.Common.{◌≡◌, ℕ, zero, suc, ◌<◌, ◌≤◌, Bool, true, false, cond, not, ◌||◌, List, [], ◌∷◌, ◌++◌, length, take, drop, replicate, refl, sym, ap, ap₂, ◌∙◌, append_assoc, append-nil, arith, take-append-drop, length-append, Option, Some, None, All, IsFalse, flat_map, count_by, is_none, nat_lt, unwrap_or, ◌==◌, list_any, slice_split, onto_first, join_with_byte, take-append_seam, drop-append_seam, both_ways, eqb-true, false_from_ne_true, le-ltb, not-false, not_from_true, or_from, or_parts, All-cons, All-head, All-nil, All-tail, list_any_at, list_any_none, none-some, is_not_empty, Block, IsBlock, IsHeader, block_text, body_length, is_header_named, listed_names, is_newline, line_text, after_block, after_lines, begins_with_newline, block_at, body_length_at, front_refusals, has_twice, header_lines, is_cut, is_no_header, lines_before_empty, without_empty_lines, first_holding, reason, Refusal, Header, Length, Truncated}
use Rattle.std.proofs.Common.{length-take-le}
use Rattle.std.proofs.lemmas.Bool.{ltb-false}
use Rattle.std.proofs.lemmas.List.Splits.{join_with_byte-slice_split, length-slice_split, slice_split_at, slice_split_none}

-- ---- tests of each element

-- a test that no element passes
pub All-none : {X : Type 0} (p : X → Bool) (xs : List X) → IsFalse (list_any p xs) → All (λ x. p x ≡ false) xs
All-none p xs none k d h = false_from_ne_true _ (λ e. both_ways _ none (list_any_at p xs k d h e))

module _ {X : Type 0} (f : X → ℕ) where
  few_none : (xs : List X) → All (λ x. f x ≤ 1) xs → list_any (λ x. nat_lt 1 (f x)) xs ≡ false
  few_none xs few = list_any_none (λ x. nat_lt 1 (f x)) xs (λ k d h. le-ltb _ _ (few k d h))

  none_few : (xs : List X) → list_any (λ x. nat_lt 1 (f x)) xs ≡ false → All (λ x. f x ≤ 1) xs
  none_few xs none k d h = ltb-false _ _ (All-none (λ x. nat_lt 1 (f x)) xs none k d h)

-- ---- lines

some_byte : (line : List ℕ) → IsHeader line → is_not_empty line ≡ true
some_byte [] header = header.colon
some_byte (byte ∷ line) header = refl

-- the first of several lines
lines_before_empty-line : (line : List ℕ) (lines : List (List ℕ)) → 0 < length lines → is_not_empty line ≡ true → lines_before_empty (line ∷ lines) ≡ line ∷ lines_before_empty lines
lines_before_empty-line line [] some e = absurd (omega arith)
lines_before_empty-line line (more ∷ lines) some e = ap (λ b. cond b (line ∷ lines_before_empty (more ∷ lines)) []) e

lines_before_empty-empty : (lines : List (List ℕ)) → lines_before_empty ([] ∷ lines) ≡ []
lines_before_empty-empty [] = refl
lines_before_empty-empty (line ∷ lines) = refl

-- a line, and what follows it
pub header_lines-line : (line rest : List ℕ) → is_not_empty line ≡ true → IsFalse (list_any is_newline line) → header_lines (line ++ 10 ∷ rest) ≡ line ∷ header_lines rest
unfolding header_lines
header_lines-line line rest some one =
    ap lines_before_empty (slice_split_at is_newline line 10 rest (All-none is_newline line one) refl)
    ∙ lines_before_empty-line line (slice_split is_newline rest) (omega (arith, length-slice_split is_newline rest)) some

-- an empty line ends them
pub header_lines-empty : (rest : List ℕ) → header_lines (10 ∷ rest) ≡ []
unfolding header_lines
header_lines-empty rest = lines_before_empty-empty (slice_split is_newline rest)

-- and a line without its newline is none
pub header_lines-unfinished : (rest : List ℕ) → IsFalse (list_any is_newline rest) → header_lines rest ≡ []
unfolding header_lines
header_lines-unfinished rest none = ap lines_before_empty (slice_split_none is_newline rest (All-none is_newline rest none))

line_text-more : (line more rest : List ℕ) → (line_text line ++ more) ++ rest ≡ line ++ 10 ∷ (more ++ rest)
line_text-more line more rest = append_assoc (line_text line) more rest ∙ append_assoc line (10 ∷ []) (more ++ rest)

pub header_lines-lines : (lines : List (List ℕ)) (rest : List ℕ) → All IsHeader lines → header_lines (flat_map line_text lines ++ rest) ≡ lines ++ header_lines rest
header_lines-lines [] rest all = refl
header_lines-lines (line ∷ lines) rest all =
    let header = All-head IsHeader line lines all in
    ap header_lines (line_text-more line (flat_map line_text lines) rest)
    ∙ header_lines-line line (flat_map line_text lines ++ rest) (some_byte line header) header.one_line
    ∙ ap (λ more. line ∷ more) (header_lines-lines lines rest (All-tail IsHeader line lines all))

-- ---- what stands behind the lines

abbrev BeginsWith : List ℕ → List (List ℕ) → Type 0
BeginsWith bytes lines = (rest : List ℕ) × (bytes ≡ flat_map line_text lines ++ rest)

begins_with_line : (line text : List ℕ) (lines : List (List ℕ)) (b : Bool) → BeginsWith text lines → BeginsWith (line ++ 10 ∷ text) (cond b (line ∷ lines) [])
begins_with_line line text lines true later = (later.0, ap (λ all. line ++ 10 ∷ all) later.1 ∙ sym (line_text-more line (flat_map line_text lines) later.0))
begins_with_line line text lines false later = (line ++ 10 ∷ text, refl)

-- the parts between newlines begin with the lines
begins_with_lines : (parts : List (List ℕ)) → BeginsWith (join_with_byte 10 parts) (lines_before_empty parts)
begins_with_lines [] = ([], refl)
begins_with_lines (last ∷ []) = (last, refl)
begins_with_lines (line ∷ more ∷ parts) =
    begins_with_line line (join_with_byte 10 (more ∷ parts)) (lines_before_empty (more ∷ parts)) (is_not_empty line) (begins_with_lines (more ∷ parts))

-- the bytes are the lines and what stands behind them
pub after_lines-whole : (bytes : List ℕ) → bytes ≡ flat_map line_text (header_lines bytes) ++ after_lines bytes
unfolding header_lines after_lines
after_lines-whole bytes =
    let found = begins_with_lines (slice_split is_newline bytes) in
    let front = flat_map line_text (lines_before_empty (slice_split is_newline bytes)) in
    let whole : bytes ≡ front ++ found.0 = sym (join_with_byte-slice_split 10 bytes) ∙ found.1 in
    whole ∙ ap (λ rest. front ++ rest) (sym (ap (drop (length front)) whole ∙ drop-append_seam front found.0))

pub after_lines-lines : (lines : List (List ℕ)) (rest : List ℕ) → header_lines (flat_map line_text lines ++ rest) ≡ lines → after_lines (flat_map line_text lines ++ rest) ≡ rest
unfolding after_lines
after_lines-lines lines rest e =
    ap (λ all. drop (length (flat_map line_text all)) (flat_map line_text lines ++ rest)) e ∙ drop-append_seam (flat_map line_text lines) rest

-- ---- headers

pub is_no_header-IsHeader : (line : List ℕ) → IsHeader line → is_no_header line ≡ false
is_no_header-IsHeader line header = or_from _ _ (not_from_true _ header.colon) (not_from_true _ header.named)

pub list_any-no_header : (lines : List (List ℕ)) → All IsHeader lines → list_any is_no_header lines ≡ false
list_any-no_header lines all = list_any_none is_no_header lines (λ k d h. is_no_header-IsHeader _ (all k d h))

pub has_twice-once : (lines : List (List ℕ)) → All (λ name. count_by (is_header_named name) lines ≤ 1) listed_names → has_twice lines ≡ false
has_twice-once lines once = few_none (λ name. count_by (is_header_named name) lines) listed_names once

pub once-has_twice : (lines : List (List ℕ)) → has_twice lines ≡ false → All (λ name. count_by (is_header_named name) lines ≤ 1) listed_names
once-has_twice lines none = none_few (λ name. count_by (is_header_named name) lines) listed_names none

-- each part between newlines is on one line
abbrev IsOneLine : List ℕ → Type 0
IsOneLine line = IsFalse (list_any is_newline line)

one_line-more : (byte : ℕ) (parts : List (List ℕ)) (b : Bool) → is_newline byte ≡ b → All IsOneLine parts → All IsOneLine (cond b ([] ∷ parts) (onto_first byte parts))
one_line-more byte parts true e all = All-cons IsOneLine [] parts refl all
one_line-more byte [] false e all = All-cons IsOneLine (byte ∷ []) [] (or_from (is_newline byte) false e refl) (All-nil IsOneLine)
one_line-more byte (part ∷ parts) false e all =
    All-cons IsOneLine (byte ∷ part) parts (or_from (is_newline byte) (list_any is_newline part) e (All-head IsOneLine part parts all)) (All-tail IsOneLine part parts all)

one_line : (bytes : List ℕ) → All IsOneLine (slice_split is_newline bytes)
one_line [] = All-cons IsOneLine [] [] refl (All-nil IsOneLine)
one_line (byte ∷ bytes) = one_line-more byte (slice_split is_newline bytes) (is_newline byte) refl (one_line bytes)

-- and each line is a part
All-unless : (P : List ℕ → Type 0) (line : List ℕ) (lines : List (List ℕ)) (b : Bool) → P line → All P lines → All P (cond b (line ∷ lines) [])
All-unless P line lines true h all = All-cons P line lines h all
All-unless P line lines false h all = All-nil P

All-lines_before_empty : (P : List ℕ → Type 0) (parts : List (List ℕ)) → All P parts → All P (lines_before_empty parts)
All-lines_before_empty P [] all = All-nil P
All-lines_before_empty P (last ∷ []) all = All-nil P
All-lines_before_empty P (line ∷ more ∷ parts) all =
    All-unless P line (lines_before_empty (more ∷ parts)) (is_not_empty line) (All-head P line (more ∷ parts) all)
    (All-lines_before_empty P (more ∷ parts) (All-tail P line (more ∷ parts) all))

header_lines-one_line : (bytes : List ℕ) → All IsOneLine (header_lines bytes)
unfolding header_lines
header_lines-one_line bytes = All-lines_before_empty IsOneLine (slice_split is_newline bytes) (one_line bytes)

IsHeader-none : (line : List ℕ) → IsOneLine line → is_no_header line ≡ false → IsHeader line
IsHeader-none line one none =
    let parts = or_parts _ _ none in
    record { one_line = one; colon = not-false _ parts.0; named = not-false _ parts.1 }

header_lines-IsHeader : (bytes : List ℕ) → list_any is_no_header (header_lines bytes) ≡ false → All IsHeader (header_lines bytes)
header_lines-IsHeader bytes none k d h = IsHeader-none _ (header_lines-one_line bytes k d h) (All-none is_no_header (header_lines bytes) none k d h)

-- ---- blocks

-- three reasons, none of which holds
module _ (a b c : Refusal) where
  none_of_three : (x y z : Bool) → x ≡ false → y ≡ false → z ≡ false → first_holding (reason a x ∷ reason b y ∷ reason c z ∷ []) ≡ None
  unfolding first_holding
  none_of_three true y z e f g = absurd (both_ways _ e refl)
  none_of_three false true z e f g = absurd (both_ways _ f refl)
  none_of_three false false true e f g = absurd (both_ways _ g refl)
  none_of_three false false false e f g = refl

  pub three_none : (x y z : Bool) → first_holding (reason a x ∷ reason b y ∷ reason c z ∷ []) ≡ None → (x ≡ false) × (y ≡ false) × (z ≡ false)
  unfolding first_holding
  three_none true y z e = absurd (none-some a (sym e))
  three_none false true z e = absurd (none-some b (sym e))
  three_none false false true e = absurd (none-some c (sym e))
  three_none false false false e = (refl, refl, refl)

module _ (bytes rest : List ℕ) (block : Block) (is : IsBlock block) (whole : bytes ≡ block_text block ++ rest) where
  from_lines : bytes ≡ flat_map line_text block.lines ++ 10 ∷ (block.body ++ rest)
  from_lines = whole ∙ append_assoc (flat_map line_text block.lines) (10 ∷ block.body) rest

  lines_found : header_lines (flat_map line_text block.lines ++ 10 ∷ (block.body ++ rest)) ≡ block.lines
  lines_found =
      header_lines-lines block.lines (10 ∷ (block.body ++ rest)) is.headers
      ∙ ap (λ more. block.lines ++ more) (header_lines-empty (block.body ++ rest)) ∙ append-nil block.lines

  lines_at : header_lines bytes ≡ block.lines
  lines_at = ap header_lines from_lines ∙ lines_found

  left : after_lines bytes ≡ 10 ∷ (block.body ++ rest)
  left = ap after_lines from_lines ∙ after_lines-lines block.lines (10 ∷ (block.body ++ rest)) lines_found

  length_at : body_length (header_lines bytes) ≡ Some (length block.body)
  length_at = ap body_length lines_at ∙ is.whole

  long : body_length_at bytes ≡ length block.body
  long = ap (λ o. unwrap_or o 0) length_at

  uncut : is_cut bytes ≡ false
  uncut =
      ap₂ (λ after n. not (begins_with_newline after) || nat_lt (length (drop 1 after)) n) left long
      ∙ le-ltb (length (block.body ++ rest)) (length block.body) (omega (arith, length-append block.body rest))

  -- bytes that begin with a block: nothing is told against them, and the block and the rest are found
  pub front-block : (first_holding (front_refusals bytes) ≡ None) × (block_at bytes ≡ block) × (after_block bytes ≡ rest)
  front-block = (
    none_of_three Header Length Truncated _ _ _
        (or_from _ _ (ap (list_any is_no_header) lines_at ∙ list_any-no_header block.lines is.headers) (ap has_twice lines_at ∙ has_twice-once block.lines is.once))
        (ap is_none length_at) uncut,
    ap₂ (λ lines body. record { lines = lines; body = body }) lines_at (ap₂ (λ n after. take n (drop 1 after)) long left ∙ take-append_seam block.body rest),
    ap₂ (λ n after. drop n (drop 1 after)) long left ∙ drop-append_seam block.body rest,
  )

-- ---- from the judgement to the block

from_newline : (bytes : List ℕ) → begins_with_newline bytes ≡ true → bytes ≡ 10 ∷ drop 1 bytes
from_newline [] e = absurd (both_ways _ refl e)
from_newline (byte ∷ bytes) e = ap (λ first. first ∷ bytes) (eqb-true byte 10 e)

value_there : (o : Option ℕ) → is_none o ≡ false → o ≡ Some (unwrap_or o 0)
value_there None e = absurd (both_ways _ e refl)
value_there (Some n) e = refl

-- bytes that begin with no newline, but whose lines end with one
line_there : (bytes rest : List ℕ) (lines : List (List ℕ)) → bytes ≡ flat_map line_text lines ++ rest → begins_with_newline bytes ≡ false → begins_with_newline rest ≡ true → length lines ≡ 0 → ⊥
line_there bytes rest [] whole other ends none = both_ways _ (sym (ap begins_with_newline whole) ∙ other) ends
line_there bytes rest (line ∷ lines) whole other ends none = absurd (omega arith)

-- bytes against whose form nothing is told begin with a block
pub block-front :
    (bytes : List ℕ) → is_not_empty bytes ≡ true → begins_with_newline bytes ≡ false → first_holding (front_refusals bytes) ≡ None →
    IsBlock (block_at bytes) × (bytes ≡ block_text (block_at bytes) ++ after_block bytes)
block-front bytes some other none = (
  record {
    some_line = line_there bytes (after_lines bytes) (header_lines bytes) (after_lines-whole bytes) other newline;
    headers = header_lines-IsHeader bytes lines.0;
    once = once-has_twice (header_lines bytes) lines.1;
    whole = value_there (body_length (header_lines bytes)) parts.1 ∙ ap Some (sym (length-take-le n rest (ltb-false _ _ ends.1)));
  },
  after_lines-whole bytes ∙ ap (λ all. front ++ all) (from_newline (after_lines bytes) newline ∙ ap (λ all. 10 ∷ all) (sym (take-append-drop n rest)))
      ∙ sym (append_assoc front (10 ∷ take n rest) (drop n rest)),
)
  where
    front : List ℕ
    front = flat_map line_text (header_lines bytes)

    rest : List ℕ
    rest = drop 1 (after_lines bytes)

    n : ℕ
    n = body_length_at bytes

    parts : ((list_any is_no_header (header_lines bytes) || has_twice (header_lines bytes)) ≡ false) × (is_none (body_length (header_lines bytes)) ≡ false) × (is_cut bytes ≡ false)
    parts = three_none Header Length Truncated _ _ _ none

    lines : (list_any is_no_header (header_lines bytes) ≡ false) × (has_twice (header_lines bytes) ≡ false)
    lines = or_parts _ _ parts.0

    ends : (not (begins_with_newline (after_lines bytes)) ≡ false) × (nat_lt (length rest) n ≡ false)
    ends = or_parts _ _ parts.2

    newline : begins_with_newline (after_lines bytes) ≡ true
    newline = not-false _ ends.0

-- ---- empty lines

pub without_empty_lines-front : (bytes : List ℕ) → (empty : ℕ) × (bytes ≡ replicate empty 10 ++ without_empty_lines bytes)
without_empty_lines-front [] = (0, refl)
without_empty_lines-front (byte ∷ bytes) = with_byte byte bytes (byte == 10) refl (without_empty_lines-front bytes)
  where
    with_byte :
        (first : ℕ) (more : List ℕ) (b : Bool) → (first == 10) ≡ b → (empty : ℕ) × (more ≡ replicate empty 10 ++ without_empty_lines more) →
        (empty : ℕ) × (first ∷ more ≡ replicate empty 10 ++ cond b (without_empty_lines more) (first ∷ more))
    with_byte first more true e later = (suc later.0, ap₂ (λ one all. one ∷ all) (eqb-true first 10 e) later.1)
    with_byte first more false e later = (0, refl)

pub without_empty_lines-other : (bytes : List ℕ) → begins_with_newline (without_empty_lines bytes) ≡ false
without_empty_lines-other [] = refl
without_empty_lines-other (byte ∷ bytes) = with_byte byte bytes (byte == 10) refl (without_empty_lines-other bytes)
  where
    with_byte :
        (first : ℕ) (more : List ℕ) (b : Bool) → (first == 10) ≡ b → begins_with_newline (without_empty_lines more) ≡ false →
        begins_with_newline (cond b (without_empty_lines more) (first ∷ more)) ≡ false
    with_byte first more true e later = later
    with_byte first more false e later = e

pub without_empty_lines-skip : (empty : ℕ) (rest : List ℕ) → without_empty_lines (replicate empty 10 ++ rest) ≡ without_empty_lines rest
without_empty_lines-skip zero rest = refl
without_empty_lines-skip (suc empty) rest = without_empty_lines-skip empty rest
