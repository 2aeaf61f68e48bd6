-- No reason is told against bytes exactly where they are a dump, and a dump tells one history.
use Rattle.svn_dump.proofs.Common.{◌≡◌, ◌≢◌, ◌↔◌, ℕ, zero, suc, ◌+◌, ◌-◌, ◌<◌, ◌≤◌, Bool, true, false, cond, not, ◌&&◌, ⊎_elim, inl, inr, List, [], ◌∷◌, ◌++◌, length, take, drop, replicate, refl, sym, ap, ap₂, subst, ◌∙◌, append_assoc, append-nil, arith, take-append-drop, length-append, length-drop, Option, Some, None, All, bytes_eq, codes, flat_map, is_none, nat_eq, option_and_then, after_first, before_first, list_any, position_or_len, starts_with, option_or, both_ways, cases_Bool, cases_lt, cond-false, cond-true, eqb-true, not-false, or_parts, take-append-le, All-head, fold_stays, list_any_none, fails_before_first, passes_at_first, split_at_first, none-some, same_Some, bytes_eq-Decides, slice_eq-Decides, is_not_empty, AreBlocks, Block, IsBlock, IsHeader, block_text, is_newline, line_text, IsDumpText, IsSmall, first_line, RefusalAt, after_block, begins_with_newline, block_at, block_refusal, end_refusal, first_refusal, format_of, front_refusals, line_refusals, magic, refusal_from, refusal_or, without_empty_lines, format_of_version, version, HistoryOfBytes, history_of, content_of, with_block, first_holding, content_refusals, Format, Two, Three, Refusal, Magic, Truncated, Version}
use Rattle.std.specs.Prelude.{fold}
use Rattle.std.proofs.lemmas.Bool.{eq-eqb}
use Rattle.svn_dump.proofs.Fronts.{block-front, front-block, three_none, without_empty_lines-front, without_empty_lines-other, without_empty_lines-skip}
use Rattle.svn_dump.proofs.Refusals.{IsSmall-before, first_holding-append, no_refusal, none_holds-append, refusal_none}

-- ---- one refusal or another

pub no_first : (o : Option Refusal) (at : ℕ) (later : Option RefusalAt) → o ≡ None → refusal_or o at later ≡ later
no_first o at later e = ap (λ first. refusal_or first at later) e

neither : (o : Option Refusal) (at : ℕ) (later : Option RefusalAt) → refusal_or o at later ≡ None → (o ≡ None) × (later ≡ None)
neither None at later e = (refl, e)
neither (Some refusal) at later e = absurd (none-some _ (sym e))

and_true : (x y : Bool) → x ≡ true → (x && y) ≡ false → y ≡ false
and_true true y e none = none
and_true false y e none = absurd (both_ways _ refl e)

-- ---- the histories of blocks

module _ (format : Format) where
  abbrev pub told_by : Option HistoryOfBytes → Block → Option HistoryOfBytes
  told_by so_far block = option_and_then (λ history. with_block format history block) so_far

  -- the first of some blocks leaves a history, and the others go on with it
  pub after_first_block :
      (o : Option HistoryOfBytes) (blocks : List Block) (last : HistoryOfBytes) → fold told_by o blocks ≡ Some last →
      (after : HistoryOfBytes) × (o ≡ Some after) × (fold told_by (Some after) blocks ≡ Some last)
  after_first_block None blocks last tells = absurd (none-some last (sym (fold_stays told_by None (λ block. refl) blocks) ∙ tells))
  after_first_block (Some after) blocks last tells = (after, refl, tells)

  -- a history is small if what it becomes is
  IsSmall-before_blocks : (history : HistoryOfBytes) (blocks : List Block) (last : HistoryOfBytes) → fold told_by (Some history) blocks ≡ Some last → IsSmall last → IsSmall history
  IsSmall-before_blocks history [] last tells small = subst IsSmall (sym (same_Some history last tells)) small
  IsSmall-before_blocks history (block ∷ blocks) last tells small =
      let (after, told, later) = after_first_block (with_block format history block) blocks last tells in
      IsSmall-before history after (content_of format block) told (IsSmall-before_blocks after blocks last later small)

-- ---- the front of blocks

-- a block begins with a byte, which is no newline
line_first : (line more : List ℕ) → IsHeader line → (is_not_empty (line ++ more) ≡ true) × (begins_with_newline (line ++ more) ≡ false)
line_first [] more header = absurd (both_ways _ refl header.colon)
line_first (byte ∷ line) more header = (refl, (or_parts _ _ header.one_line).0)

lines_first :
    (lines : List (List ℕ)) (more : List ℕ) → (length lines ≡ 0 → ⊥) → All IsHeader lines →
    (is_not_empty (flat_map line_text lines ++ more) ≡ true) × (begins_with_newline (flat_map line_text lines ++ more) ≡ false)
lines_first [] more some all = absurd (some refl)
lines_first (line ∷ lines) more some all =
    subst (λ text. (is_not_empty text ≡ true) × (begins_with_newline text ≡ false))
    (sym (append_assoc (line_text line) (flat_map line_text lines) more ∙ append_assoc line (10 ∷ []) (flat_map line_text lines ++ more)))
    (line_first line (10 ∷ (flat_map line_text lines ++ more)) (All-head IsHeader line lines all))

block_first : (block : Block) (rest : List ℕ) → IsBlock block → (is_not_empty (block_text block ++ rest) ≡ true) × (begins_with_newline (block_text block ++ rest) ≡ false)
block_first block rest is =
    subst (λ text. (is_not_empty text ≡ true) × (begins_with_newline text ≡ false))
    (sym (append_assoc (flat_map line_text block.lines) (10 ∷ block.body) rest))
    (lines_first block.lines (10 ∷ (block.body ++ rest)) is.some_line is.headers)

-- bytes that begin with no newline have no empty lines in front
pub without_empty_lines-none : (bytes : List ℕ) → begins_with_newline bytes ≡ false → without_empty_lines bytes ≡ bytes
without_empty_lines-none [] other = refl
without_empty_lines-none (byte ∷ bytes) other = ap (λ b. cond b (without_empty_lines bytes) (byte ∷ bytes)) other

without_empty_lines-end : (empty : ℕ) (rest : List ℕ) → rest ≡ replicate empty 10 → without_empty_lines rest ≡ []
without_empty_lines-end empty rest whole = ap without_empty_lines (whole ∙ sym (append-nil (replicate empty 10))) ∙ without_empty_lines-skip empty []

without_empty_lines-block :
    (empty : ℕ) (block : Block) (rest bytes : List ℕ) → IsBlock block →
    bytes ≡ replicate empty 10 ++ block_text block ++ rest → without_empty_lines bytes ≡ block_text block ++ rest
without_empty_lines-block empty block rest bytes is whole =
    ap without_empty_lines (whole ∙ append_assoc (replicate empty 10) (block_text block) rest) ∙ without_empty_lines-skip empty (block_text block ++ rest)
    ∙ without_empty_lines-none (block_text block ++ rest) (block_first block rest is).1

-- a block takes bytes
pub length-block : (front : List ℕ) (block : Block) (rest bytes : List ℕ) → bytes ≡ front ++ block_text block ++ rest → length rest < length bytes
length-block front block rest bytes whole =
    let long : length bytes ≡ length front + (length (flat_map line_text block.lines) + suc (length block.body)) + length rest =
    ap length whole ∙ length-append (front ++ block_text block) rest
    ∙ ap (λ n. n + length rest) (length-append front (block_text block) ∙ ap (λ n. length front + n) (length-append (flat_map line_text block.lines) (10 ∷ block.body))) in
    omega (arith, long)

-- ---- one step

module _ (format : Format) where
  -- what is told against the blocks after the first
  abbrev later_refusal : ℕ → ℕ → HistoryOfBytes → List ℕ → Option RefusalAt
  later_refusal most total history bytes = option_and_then (λ after. refusal_from format most total after (after_block bytes)) (with_block format history (block_at bytes))

  abbrev refusal_at : ℕ → ℕ → HistoryOfBytes → List ℕ → Option RefusalAt
  refusal_at most total history bytes =
      cond (is_not_empty bytes) (refusal_or (block_refusal format history bytes) (total - length bytes) (later_refusal most total history bytes)) (end_refusal total history)

  pub refusal_from-at :
      (most total : ℕ) (history : HistoryOfBytes) (rest bytes : List ℕ) → without_empty_lines rest ≡ bytes →
      refusal_from format (suc most) total history rest ≡ refusal_at most total history bytes
  unfolding refusal_from
  refusal_from-at most total history rest bytes e = ap (refusal_at most total history) e

  -- the end of a history with a revision
  end_refusal-none : (total : ℕ) (history : HistoryOfBytes) → history ≢ [] → end_refusal total history ≡ None
  end_refusal-none total [] some = absurd (some refl)
  end_refusal-none total (records ∷ history) some = refl

  none-end_refusal : (total : ℕ) (history : HistoryOfBytes) → end_refusal total history ≡ None → history ≢ []
  none-end_refusal total [] none e = absurd (none-some _ (sym none))
  none-end_refusal total (records ∷ history) none e = absurd (omega (arith, ap length e))

  module _
      (history after : HistoryOfBytes) (bytes rest : List ℕ) (block : Block) (is : IsBlock block)
      (whole : bytes ≡ block_text block ++ rest) (told : with_block format history block ≡ Some after) where
    block_refusal-none : IsSmall after → block_refusal format history bytes ≡ None
    unfolding block_refusal
    block_refusal-none small =
        let found = front-block bytes rest block is whole in
        first_holding-append (front_refusals bytes) (content_refusals history (content_of format (block_at bytes)))
        ∙ ap₂ option_or found.0 (ap (λ each. first_holding (content_refusals history (content_of format each))) found.1 ∙ no_refusal history after (content_of format block) told small)

    later_refusal-after : (most total : ℕ) → later_refusal most total history bytes ≡ refusal_from format most total after rest
    later_refusal-after most total =
        let found = front-block bytes rest block is whole in
        ap (λ each. option_and_then (λ next. refusal_from format most total next (after_block bytes)) (with_block format history each)) found.1
        ∙ ap (option_and_then (λ next. refusal_from format most total next (after_block bytes))) told ∙ ap (refusal_from format most total after) found.2

    pub refusal_at-block : (most total : ℕ) → IsSmall after → refusal_at most total history bytes ≡ refusal_from format most total after rest
    refusal_at-block most total small =
        ap (λ b. cond b (refusal_or (block_refusal format history bytes) (total - length bytes) (later_refusal most total history bytes)) (end_refusal total history))
        (ap is_not_empty whole ∙ (block_first block rest is).0)
        ∙ no_first (block_refusal format history bytes) (total - length bytes) (later_refusal most total history bytes) (block_refusal-none small)
        ∙ later_refusal-after most total

  -- ---- from the form to the judgement

  -- nothing is told against blocks that tell a small history
  refusal_from-blocks :
      (most total : ℕ) (history last : HistoryOfBytes) (rest : List ℕ) (blocks : List Block) → AreBlocks rest blocks → fold (told_by format) (Some history) blocks ≡ Some last →
      last ≢ [] → IsSmall last → length rest < most → refusal_from format most total history rest ≡ None
  refusal_from-blocks zero total history last rest blocks are tells some small enough = absurd (omega arith)
  refusal_from-blocks (suc most) total history last rest [] are tells some small enough =
      refusal_from-at most total history rest [] (without_empty_lines-end are.0 rest are.1)
      ∙ end_refusal-none total history (subst (λ all. all ≢ []) (sym (same_Some history last tells)) some)
  refusal_from-blocks (suc most) total history last rest (block ∷ blocks) are tells some small enough =
      let (empty, next, is, whole, more) = are in
      let (after, told, later) = after_first_block format (with_block format history block) blocks last tells in
      refusal_from-at most total history rest (block_text block ++ next) (without_empty_lines-block empty block next rest is whole)
      ∙ refusal_at-block history after (block_text block ++ next) next block is refl told most total (IsSmall-before_blocks format after blocks last later small)
      ∙ refusal_from-blocks most total after last next blocks more later some small (omega (arith, length-block (replicate empty 10) block next rest whole))

  -- after blocks that tell a small history, what stands against the bytes stands in what follows
  pub refusal_from-front :
      (most total : ℕ) (history last : HistoryOfBytes) (rest more : List ℕ) (blocks : List Block) → AreBlocks rest blocks → fold (told_by format) (Some history) blocks ≡ Some last →
      IsSmall last → length rest + length more < most → (left : ℕ) × (length more < left) × (refusal_from format most total history (rest ++ more) ≡ refusal_from format left total last more)
  refusal_from-front zero total history last rest more blocks are tells small enough = absurd (omega arith)
  refusal_from-front (suc most) total history last rest more [] are tells small enough = (
    suc most,
    omega arith,
    refusal_from-at most total history (rest ++ more) (without_empty_lines more) (ap (λ empty. without_empty_lines (empty ++ more)) are.1 ∙ without_empty_lines-skip are.0 more)
        ∙ sym (refusal_from-at most total history more (without_empty_lines more) refl)
        ∙ ap (λ told. refusal_from format (suc most) total told more) (same_Some history last tells),
  )
  refusal_from-front (suc most) total history last rest more (block ∷ blocks) are tells small enough =
      let (empty, next, is, whole, follow) = are in
      let (after, told, later) = after_first_block format (with_block format history block) blocks last tells in
      let from : rest ++ more ≡ replicate empty 10 ++ block_text block ++ (next ++ more) =
      ap (λ all. all ++ more) whole ∙ append_assoc (replicate empty 10 ++ block_text block) next more in
      let shorter = length-block (replicate empty 10) block next rest whole in
      let (left, long, same) = refusal_from-front most total after last next more blocks follow later small (omega (arith, shorter)) in (
        left,
        long,
        refusal_from-at most total history (rest ++ more) (block_text block ++ (next ++ more)) (without_empty_lines-block empty block (next ++ more) (rest ++ more) is from)
            ∙ refusal_at-block history after (block_text block ++ (next ++ more)) (next ++ more) block is refl told most total (IsSmall-before_blocks format after blocks last later small)
            ∙ same,
      )

  -- ---- and back

  -- the rest is blocks that make a small history, with a revision, of this one
  record Continues (history : HistoryOfBytes) (rest : List ℕ) : Type 0 where
    last : HistoryOfBytes
    blocks : List Block
    follows : AreBlocks rest blocks
    tells : fold (told_by format) (Some history) blocks ≡ Some last
    some_revision : last ≢ []
    small : IsSmall last

  -- a block against which nothing is told
  module _ (history : HistoryOfBytes) (small : IsSmall history) (rest bytes : List ℕ) (at : without_empty_lines rest ≡ bytes) where
    block_parts : block_refusal format history bytes ≡ None → (first_holding (front_refusals bytes) ≡ None) × (first_holding (content_refusals history (content_of format (block_at bytes))) ≡ None)
    unfolding block_refusal
    block_parts none = none_holds-append (front_refusals bytes) (content_refusals history (content_of format (block_at bytes))) none

    skipped : (empty : ℕ) × (rest ≡ replicate empty 10 ++ bytes)
    skipped =
        let front = without_empty_lines-front rest in
        (front.0, front.1 ∙ ap (λ all. replicate front.0 10 ++ all) at)

    with_first_block :
        (most total : ℕ) → is_not_empty bytes ≡ true → block_refusal format history bytes ≡ None → later_refusal most total history bytes ≡ None →
        ((after : HistoryOfBytes) (next : List ℕ) → IsSmall after → length next < length rest → refusal_from format most total after next ≡ None → Continues after next) →
        Continues history rest
    with_first_block most total some none later onward =
        let parts = block_parts none in
        let (is, whole) = block-front bytes some (sym (ap begins_with_newline at) ∙ without_empty_lines-other rest) parts.0 in
        let (after, told, few) = refusal_none history (content_of format (block_at bytes)) small parts.1 in
        let front = replicate skipped.0 10 in
        let from : rest ≡ front ++ block_text (block_at bytes) ++ after_block bytes =
        skipped.1 ∙ ap (λ all. front ++ all) whole ∙ sym (append_assoc front (block_text (block_at bytes)) (after_block bytes)) in
        let more = onward after (after_block bytes) few (length-block front (block_at bytes) (after_block bytes) rest from)
        (sym (ap (option_and_then (λ next. refusal_from format most total next (after_block bytes))) told) ∙ later) in
        record {
          last = more.last;
          blocks = block_at bytes ∷ more.blocks;
          follows = (skipped.0, after_block bytes, is, from, more.follows);
          tells = ap (λ o. fold (told_by format) o more.blocks) told ∙ more.tells;
          some_revision = more.some_revision;
          small = more.small;
        }

    with_no_block : (total : ℕ) → bytes ≡ [] → end_refusal total history ≡ None → Continues history rest
    with_no_block total nothing none = record {
      last = history;
      blocks = [];
      follows = (skipped.0, skipped.1 ∙ ap (λ all. replicate skipped.0 10 ++ all) nothing ∙ append-nil (replicate skipped.0 10));
      tells = refl;
      some_revision = none-end_refusal total history none;
      small = small;
    }

  by_front :
      (most total : ℕ) (history : HistoryOfBytes) (rest bytes : List ℕ) → IsSmall history → without_empty_lines rest ≡ bytes → refusal_at most total history bytes ≡ None →
      ((after : HistoryOfBytes) (next : List ℕ) → IsSmall after → length next < length rest → refusal_from format most total after next ≡ None → Continues after next) →
      Continues history rest
  by_front most total history rest [] small at none onward = with_no_block history small rest [] at total refl none
  by_front most total history rest (byte ∷ bytes) small at none onward =
      let parts = neither (block_refusal format history (byte ∷ bytes)) _ (later_refusal most total history (byte ∷ bytes)) none in
      with_first_block history small rest (byte ∷ bytes) at most total refl parts.0 parts.1 onward

  Continues-refusal_from : (most total : ℕ) (history : HistoryOfBytes) (rest : List ℕ) → IsSmall history → length rest < most → refusal_from format most total history rest ≡ None → Continues history rest
  Continues-refusal_from zero total history rest small enough none = absurd (omega arith)
  Continues-refusal_from (suc most) total history rest small enough none =
      by_front most total history rest (without_empty_lines rest) small refl (sym (refusal_from-at most total history rest (without_empty_lines rest) refl) ∙ none)
      (λ after next few shorter later. Continues-refusal_from most total after next few (omega arith) later)

-- ---- the blocks of bytes

not_both : (bytes rest : List ℕ) (block : Block) → IsBlock block → bytes ≡ block_text block ++ rest → bytes ≡ [] → ⊥
not_both bytes rest block is whole nothing = both_ways _ (ap is_not_empty nothing) (ap is_not_empty whole ∙ (block_first block rest is).0)

same_front :
    (bytes : List ℕ) (x y : Block) (after_x after_y : List ℕ) → IsBlock x → IsBlock y →
    bytes ≡ block_text x ++ after_x → bytes ≡ block_text y ++ after_y → (x ≡ y) × (after_x ≡ after_y)
same_front bytes x y after_x after_y is_x is_y from_x from_y =
    let found_x = front-block bytes after_x x is_x from_x in
    let found_y = front-block bytes after_y y is_y from_y in
    (sym found_x.1 ∙ found_y.1, sym found_x.2 ∙ found_y.2)

-- bytes are blocks in one way
AreBlocks-same : (bytes : List ℕ) (xs ys : List Block) → AreBlocks bytes xs → AreBlocks bytes ys → xs ≡ ys
AreBlocks-same bytes [] [] are_x are_y = refl
AreBlocks-same bytes [] (y ∷ ys) are_x are_y =
    let (empty, rest, is, whole, more) = are_y in
    absurd (not_both (without_empty_lines bytes) rest y is (without_empty_lines-block empty y rest bytes is whole) (without_empty_lines-end are_x.0 bytes are_x.1))
AreBlocks-same bytes (x ∷ xs) [] are_x are_y =
    let (empty, rest, is, whole, more) = are_x in
    absurd (not_both (without_empty_lines bytes) rest x is (without_empty_lines-block empty x rest bytes is whole) (without_empty_lines-end are_y.0 bytes are_y.1))
AreBlocks-same bytes (x ∷ xs) (y ∷ ys) are_x are_y =
    let (empty_x, rest_x, is_x, whole_x, more_x) = are_x in
    let (empty_y, rest_y, is_y, whole_y, more_y) = are_y in
    let same = same_front (without_empty_lines bytes) x y rest_x rest_y is_x is_y
    (without_empty_lines-block empty_x x rest_x bytes is_x whole_x) (without_empty_lines-block empty_y y rest_y bytes is_y whole_y) in
    ap₂ (λ first others. first ∷ others) same.0 (AreBlocks-same rest_x xs ys more_x (subst (λ rest. AreBlocks rest ys) (sym same.1) more_y))

-- ---- the first line

pub first_line_taken : (format : Format) (rest : List ℕ) → first_holding (line_refusals (first_line format ++ rest)) ≡ None
unfolding first_holding
first_line_taken Two rest = refl
first_line_taken Three rest = refl

pub after_first_line : (format : Format) (rest : List ℕ) → after_first is_newline (first_line format ++ rest) ≡ rest
after_first_line Two rest = refl
after_first_line Three rest = refl

pub format_of-line : (format : Format) (rest : List ℕ) → format_of (first_line format ++ rest) ≡ Some format
format_of-line Two rest = refl
format_of-line Three rest = refl

-- a version is that of its format
format_of_version-Some : (value : List ℕ) (format : Format) → format_of_version value ≡ Some format → value ≡ version format
format_of_version-Some value format told =
    elim (cases_Bool (bytes_eq value (codes "2"))) [
      | inl two ↦
          subst (λ each. value ≡ version each) (same_Some Two format (sym (cond-true _ _ _ two) ∙ told)) ((bytes_eq-Decides value (codes "2")).0 two)
      | inr other ↦ by_three format (sym (cond-false _ _ _ other) ∙ told)
    ]
  where
    by_three : (each : Format) → cond (bytes_eq value (codes "3")) (Some Three) None ≡ Some each → value ≡ version each
    by_three each said =
        elim (cases_Bool (bytes_eq value (codes "3"))) [
          | inl three ↦
              subst (λ one. value ≡ version one) (same_Some Three each (sym (cond-true _ _ _ three) ∙ said)) ((bytes_eq-Decides value (codes "3")).0 three)
          | inr neither ↦ absurd (none-some each (sym (cond-false _ _ _ neither) ∙ said))
        ]

length-version : (format : Format) → length (version format) ≡ 1
length-version Two = refl
length-version Three = refl

-- some byte is a newline, so there is a first
first_newline : (bytes : List ℕ) → list_any is_newline bytes ≡ true → position_or_len is_newline bytes < length bytes
first_newline bytes some =
    ⊎_elim (λ within. within) (λ past. absurd (both_ways _ (list_any_none is_newline bytes (λ k d h. fails_before_first is_newline bytes k d (omega arith))) some))
    (cases_lt (position_or_len is_newline bytes) (length bytes))

-- a line that goes on behind n bytes has as many
long_enough : (line : List ℕ) (n : ℕ) (last : List ℕ) → length last ≡ 1 → drop n line ≡ last → n ≤ length line
long_enough line n last one e = omega (arith, length-drop n line, ap length e)

some_format : (o : Option Format) → is_none o ≡ false → (format : Format) × (o ≡ Some format)
some_format None none = absurd (cc)
some_format (Some format) none = (format, refl)

-- bytes against whose first line nothing is told begin with that of a format
first_line_there : (bytes : List ℕ) → first_holding (line_refusals bytes) ≡ None → (format : Format) × (format_of bytes ≡ Some format) × (bytes ≡ first_line format ++ after_first is_newline bytes)
first_line_there bytes none = (
  found.0,
  found.1,
  whole ∙ ap (λ front. front ++ 10 ∷ after_first is_newline bytes) spelled
      ∙ append_assoc magic (version found.0) (10 ∷ after_first is_newline bytes) ∙ ap (λ all. magic ++ all) (sym (append_assoc (version found.0) (10 ∷ []) (after_first is_newline bytes))),
)
  where
    parts : (not (starts_with nat_eq bytes magic) ≡ false) × ((list_any is_newline bytes && is_none (format_of bytes)) ≡ false) × (not (list_any is_newline bytes) ≡ false)
    parts = three_none Magic Version Truncated _ _ _ none

    line : List ℕ
    line = before_first is_newline bytes

    within : position_or_len is_newline bytes < length bytes
    within = first_newline bytes (not-false _ parts.2)

    whole : bytes ≡ line ++ 10 ∷ after_first is_newline bytes
    whole =
        split_at_first is_newline bytes 0 within
        ∙ ap (λ byte. line ++ byte ∷ after_first is_newline bytes) (eqb-true _ 10 (passes_at_first is_newline bytes 0 within))

    found : (format : Format) × (format_of bytes ≡ Some format)
    found = some_format (format_of bytes) (and_true _ _ (not-false _ parts.2) parts.1)

    value : drop (length magic) line ≡ version found.0
    value = format_of_version-Some (drop (length magic) line) found.0 found.1

    named : take (length magic) line ≡ magic
    named =
        sym (ap (take (length magic)) whole ∙ take-append-le (length magic) line (10 ∷ after_first is_newline bytes) (long_enough line (length magic) (version found.0) (length-version found.0) value))
        ∙ sym ((slice_eq-Decides (λ a b. (eqb-true a b, eq-eqb a b)) magic (take (length magic) bytes) (starts_with nat_eq bytes magic) refl).0 (not-false _ parts.0))

    spelled : line ≡ magic ++ version found.0
    spelled = sym (take-append-drop (length magic) line) ∙ ap₂ (λ front last. front ++ last) named value

-- ---- whole dumps

pub small_nothing : IsSmall []
small_nothing = record { names = omega arith; records = omega arith; revisions = omega arith; values = omega arith }

pub length-after_line : (format : Format) (bytes rest : List ℕ) → bytes ≡ first_line format ++ rest → length rest < length bytes
length-after_line format bytes rest begins = omega (arith, ap length begins, append_length format)
  where
    append_length : (each : Format) → length (first_line each ++ rest) ≡ 30 + length rest
    append_length Two = length-append (first_line Two) rest
    append_length Three = length-append (first_line Three) rest

-- what stands against bytes that begin so
pub first_refusal-line : (format : Format) (bytes rest : List ℕ) → bytes ≡ first_line format ++ rest → first_refusal bytes ≡ refusal_from format (length bytes) (length bytes) [] rest
unfolding first_refusal
first_refusal-line format bytes rest begins =
    no_first (first_holding (line_refusals bytes)) 0 _ (ap (λ all. first_holding (line_refusals all)) begins ∙ first_line_taken format rest)
    ∙ ap (option_and_then (λ each. refusal_from each (length bytes) (length bytes) [] (after_first is_newline bytes))) (ap format_of begins ∙ format_of-line format rest)
    ∙ ap (refusal_from format (length bytes) (length bytes) []) (ap (after_first is_newline) begins ∙ after_first_line format rest)

-- nothing is told against a dump
first_refusal-dump : (bytes : List ℕ) (history : HistoryOfBytes) → IsDumpText bytes history → first_refusal bytes ≡ None
first_refusal-dump bytes history is =
    first_refusal-line is.format bytes is.rest is.begins
    ∙ refusal_from-blocks is.format (length bytes) (length bytes) [] history is.rest is.blocks is.follows is.tells is.some_revision is.small (length-after_line is.format bytes is.rest is.begins)

dump_there : (format : Format) (bytes : List ℕ) → bytes ≡ first_line format ++ after_first is_newline bytes → Continues format [] (after_first is_newline bytes) → (history : HistoryOfBytes) × IsDumpText bytes history
dump_there format bytes begins more = (
  more.last,
  record {
    format = format;
    rest = after_first is_newline bytes;
    blocks = more.blocks;
    begins = begins;
    follows = more.follows;
    tells = more.tells;
    some_revision = more.some_revision;
    small = more.small;
  },
)

dump-first_refusal : (bytes : List ℕ) → first_refusal bytes ≡ None → (history : HistoryOfBytes) × IsDumpText bytes history
unfolding first_refusal
dump-first_refusal bytes none =
    let later = option_and_then (λ format. refusal_from format (length bytes) (length bytes) [] (after_first is_newline bytes)) (format_of bytes) in
    let parts = neither (first_holding (line_refusals bytes)) 0 later none in
    let (format, given, begins) = first_line_there bytes parts.0 in
    dump_there format bytes begins
    (Continues-refusal_from format (length bytes) (length bytes) [] (after_first is_newline bytes) small_nothing (length-after_line format bytes (after_first is_newline bytes) begins)
    (sym (ap (option_and_then (λ each. refusal_from each (length bytes) (length bytes) [] (after_first is_newline bytes))) given) ∙ parts.1))

pub exactly : (bytes : List ℕ) → (first_refusal bytes ≡ None) ↔ ((history : HistoryOfBytes) × IsDumpText bytes history)
exactly bytes = (dump-first_refusal bytes, λ dump. first_refusal-dump bytes dump.0 dump.1)

-- bytes are a dump of one format
format-same : (bytes : List ℕ) (a b : HistoryOfBytes) (is_a : IsDumpText bytes a) (is_b : IsDumpText bytes b) → is_a.format ≡ is_b.format
format-same bytes a b is_a is_b =
    same_Some is_a.format is_b.format
    (sym (ap format_of is_a.begins ∙ format_of-line is_a.format is_a.rest) ∙ ap format_of is_b.begins ∙ format_of-line is_b.format is_b.rest)

-- a dump tells one history
pub one_history : (bytes : List ℕ) (a b : HistoryOfBytes) → IsDumpText bytes a → IsDumpText bytes b → a ≡ b
one_history bytes a b is_a is_b =
    let rest : is_b.rest ≡ is_a.rest =
    sym (ap (after_first is_newline) is_b.begins ∙ after_first_line is_b.format is_b.rest) ∙ ap (after_first is_newline) is_a.begins ∙ after_first_line is_a.format is_a.rest in
    let blocks = AreBlocks-same is_a.rest is_a.blocks is_b.blocks is_a.follows (subst (λ all. AreBlocks all is_b.blocks) rest is_b.follows) in
    same_Some a b (sym is_a.tells ∙ ap₂ history_of (format-same bytes a b is_a is_b) blocks ∙ is_b.tells)
