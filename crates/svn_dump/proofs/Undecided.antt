-- Bytes that decide no refusal: inputs that begin with them are refused for different reasons, or one of them for none.
use Rattle.svn_dump.proofs.Common.{◌≡◌, ◌≢◌, ℕ, zero, suc, pred, ◌<◌, ◌≤◌, Bool, true, false, ◌||◌, List, [], ◌∷◌, ◌++◌, length, drop, replicate, take, inl, inr, refl, sym, ap, subst, ◌∙◌, append_assoc, append-nil, take-append-drop, length-append, arith, Option, Some, None, flat_map, option_and_then, list_all, list_any, option_or, All-nil, and_parts, cases_Bool, cases_lt, cond-false, cond-true, leb-true, or_right, length-replicate, list_any-append, none-some, same_Some, is_newline, line_text, IsHeader, body_length, IsUndecided, dump_of, DumpValue, history_in_bytes, IsFirstAt, first_line, RefusalAt, after_block, block_at, block_refusal, end_refusal, first_refusal, front_refusals, has_twice, header_lines, is_no_header, line_refusals, magic, refusal_from, refusal_or, fields_of, version, body_length_from_headers, BlockContent, Node, NodeAction, node_block, other_block, revision_block, uuid_block, AreHeaderLines, IsHeaderFront, IsPartialLine, BeginsBlock, HasReadAll, IsIn, IsInBody, IsInHeader, IsReadAs, HistoryOfBytes, content_of, with_block, with_content, Reason, first_holding, grows_large, later_refusals, node_refusals, number_of_refusal, refusals_by, content_refusals, Format, Two, Three, PartialBody, PartialLine, Reader, Refusal, Header, Length, Revision, Truncated}
use Rattle.std.proofs.Common.{nat_le}
use Rattle.svn_dump.specs.declared.pieces.partial_line.PartialLine.TheVariants as line
use Rattle.svn_dump.specs.declared.pieces.reader.Progress.{Progress}
use Rattle.svn_dump.specs.declared.pieces.reader.Progress.TheVariants as progress
use Rattle.svn_dump.proofs.Blocks.{header_holds, BeginsWithLines-append}
use Rattle.svn_dump.proofs.Fronts.{front-block, header_lines-line, header_lines-lines}
use Rattle.svn_dump.proofs.PartialHeaders.{BeginsWithLines-front, refused-front_cut, refused-front_length}
use Rattle.svn_dump.proofs.PartialLines.{refused-name_cut, refused-other, refused-other_cut, refused-short, refused-version_cut}
use Rattle.svn_dump.proofs.Readers.{IsRefusal-body}
use Rattle.svn_dump.proofs.Readings.{BeginsBlock-append, IsFirstAt-line, IsReadAs-line, first_refusal-block, first_refusal-end, first_refusal-from}
use Rattle.svn_dump.proofs.Refusals.{first_holding-append}
use Rattle.svn_dump.proofs.WholeBlocks.{IsBlock-whole, block_refusal-front, whole_block, whole_text}

-- ---- two inputs

-- bytes are refused with one number
same_as : (bytes : List ℕ) (first second at other : ℕ) → IsFirstAt bytes first at → IsFirstAt bytes second other → first ≡ second
same_as bytes first second at other is also = is.numbered ∙ ap (λ (found : RefusalAt). number_of_refusal found.refusal) (same_Some _ _ (sym is.first ∙ also.first)) ∙ sym also.numbered

-- the bytes alone are refused with one number, and with more bytes with another
apart : (bytes more : List ℕ) (number other at there : ℕ) → IsFirstAt bytes number at → IsFirstAt (bytes ++ more) other there → number ≢ other → IsUndecided bytes
apart bytes more number other at there alone longer differ = λ decided place is.
    differ
    (sym (same_as bytes decided number place at (subst (λ all. IsFirstAt all decided place) (append-nil bytes) (is [])) alone)
    ∙ same_as (bytes ++ more) decided other place there (is more) longer)

-- ---- in the first line

ends_of_line : (format : Format) → IsFirstAt (first_line format) 8 30
ends_of_line Two = record { refusal = Revision; first = first_refusal-end Two (first_line Two) (dump_of [] [] [] []) (IsReadAs-line Two); numbered = refl }
ends_of_line Three = record { refusal = Revision; first = first_refusal-end Three (first_line Three) (dump_of [] [] [] []) (IsReadAs-line Three); numbered = refl }

undecided-line : (shown : PartialLine) (bytes : List ℕ) → IsPartialLine shown bytes → IsUndecided bytes
undecided-line (line.Front count) bytes is =
    let rest = drop count magic ++ (version Two ++ 10 ∷ []) in
    let whole : bytes ++ rest ≡ first_line Two =
    ap (λ all. all ++ rest) is.front ∙ sym (append_assoc (take count magic) (drop count magic) (version Two ++ 10 ∷ [])) ∙ ap (λ all. all ++ (version Two ++ 10 ∷ [])) (take-append-drop count magic) in
    let longer : IsFirstAt (bytes ++ rest) 8 30 = rw whole (ends_of_line Two) in
    elim (cases_lt count 28) [
      | inl few ↦ apart bytes rest 1 8 0 30 (IsFirstAt-line bytes _ (refused-short count bytes is few)) longer (λ same. omega (arith, same))
      | inr many ↦ apart bytes rest 5 8 0 30 (IsFirstAt-line bytes _ (refused-name_cut count bytes is many)) longer (λ same. omega (arith, same))
    ]
undecided-line (line.Version format) bytes is =
    let whole : bytes ++ 10 ∷ [] ≡ first_line format = ap (λ all. all ++ 10 ∷ []) is ∙ append_assoc magic (version format) (10 ∷ []) in
    let longer : IsFirstAt (bytes ++ 10 ∷ []) 8 30 = rw whole (ends_of_line format) in
    apart bytes (10 ∷ []) 5 8 0 30 (IsFirstAt-line bytes _ (refused-version_cut format bytes is)) longer (λ same. omega (arith, same))
undecided-line line.OtherVersion bytes is =
    let version = ap (λ all. first_holding (line_refusals all)) (sym (append-nil (bytes ++ 10 ∷ []))) ∙ refused-other bytes is 10 refl [] in
    apart bytes (10 ∷ []) 5 2 0 0 (IsFirstAt-line bytes _ (refused-other_cut bytes is)) (IsFirstAt-line (bytes ++ 10 ∷ []) _ version) (λ same. omega (arith, same))

-- ---- faulty lines

-- a line with an empty name
abbrev faulty_line : List ℕ
faulty_line = 58 ∷ 10 ∷ []

faulty_lines : header_lines faulty_line ≡ (58 ∷ []) ∷ header_lines []
faulty_lines = header_lines-line (58 ∷ []) [] refl refl

-- a faulty line after what has come of the last line
abbrev faulty_end : List ℕ → List ℕ
faulty_end [] = faulty_line
faulty_end (byte ∷ last) = 10 ∷ faulty_line

faulty_any : (last : List ℕ) → list_any is_newline last ≡ false → list_any is_no_header (header_lines (last ++ faulty_end last)) ≡ true
faulty_any [] none = ap (list_any is_no_header) faulty_lines
faulty_any (byte ∷ last) none =
    ap (list_any is_no_header) (header_lines-line (byte ∷ last) faulty_line refl none ∙ ap (λ all. (byte ∷ last) ∷ all) faulty_lines)
    ∙ or_right (is_no_header (byte ∷ last)) true refl

faulty_header : (header : List ℕ) (front : IsHeaderFront header) → first_holding (front_refusals (header ++ faulty_end front.last)) ≡ Some Header
faulty_header header front =
    let more = faulty_end front.last in
    let found = BeginsWithLines-append header _ front.last more (BeginsWithLines-front header front) in
    let lines : header_lines (header ++ more) ≡ front.lines ++ header_lines (front.last ++ more) =
    ap header_lines (ap (λ all. all ++ more) front.whole ∙ append_assoc (flat_map line_text front.lines) front.last more) ∙ header_lines-lines front.lines (front.last ++ more) front.all in
    let any : list_any is_no_header (header_lines (header ++ more)) ≡ true =
    ap (list_any is_no_header) lines ∙ list_any-append is_no_header front.lines (header_lines (front.last ++ more))
    ∙ or_right (list_any is_no_header front.lines) _ (faulty_any front.last front.no_line) in
    header_holds (header ++ more) _ (front.last ++ more) found (ap (λ holds. holds || has_twice (header_lines (header ++ more))) any)

abbrev no_header : IsHeaderFront []
no_header = record {
  lines = [];
  last = [];
  all = All-nil IsHeader;
  once = λ k d below. omega arith;
  whole = refl;
  no_line = refl;
}

-- ---- between blocks

no_end : (history : HistoryOfBytes) (total number at : ℕ) (refusal : Refusal) → end_refusal total history ≡ Some (record { refusal = refusal; at = at }) → number ≡ number_of_refusal refusal → number ≡ 8
no_end [] total number at refusal told numbered = numbered ∙ ap (λ (found : RefusalAt). number_of_refusal found.refusal) (sym (same_Some _ _ told))
no_end (records ∷ history) total number at refusal told numbered = absurd (none-some _ told)

module _ (format : Format) (front : List ℕ) (draft : DumpValue) (read : IsReadAs format front draft) where
  IsFirstAt-front : (block : List ℕ) (refusal : Refusal) → BeginsBlock block → first_holding (front_refusals block) ≡ Some refusal → IsFirstAt (front ++ block) (number_of_refusal refusal) (length front)
  IsFirstAt-front block refusal begins told = record {
    refusal = refusal;
    first = first_refusal-block format front draft read block refusal begins (block_refusal-front format (history_in_bytes draft) block refusal told);
    numbered = refl;
  }

  undecided-between : IsUndecided front
  undecided-between = λ decided place is.
      let alone = subst (λ all. IsFirstAt all decided place) (append-nil front) (is []) in
      let longer = is faulty_line in
      let first : decided ≡ 8 = no_end (history_in_bytes draft) (length front) decided place alone.refusal (sym (first_refusal-end format front draft read) ∙ alone.first) alone.numbered in
      let begins : BeginsBlock faulty_line = record { some = refl; not_empty_line = refl } in
      let second : decided ≡ 3 = same_as (front ++ faulty_line) decided 3 place (length front) longer (IsFirstAt-front faulty_line Header begins (faulty_header [] no_header)) in
      omega (arith, first, second)

-- ---- in a header

-- a header that ends is refused for its lengths, or since it ends
cut_header : (header : List ℕ) → IsHeaderFront header → (refusal : Refusal) × (first_holding (front_refusals header) ≡ Some refusal) × (number_of_refusal refusal ≢ 3)
cut_header header front = by_length (body_length_from_headers (fields_of front.lines)) refl
  where
    by_length : (told : Option ℕ) → body_length_from_headers (fields_of front.lines) ≡ told → (refusal : Refusal) × (first_holding (front_refusals header) ≡ Some refusal) × (number_of_refusal refusal ≢ 3)
    by_length None told = (Length, refused-front_length header front told, λ same. omega (arith, same))
    by_length (Some whole) told = (Truncated, refused-front_cut header front whole told, λ same. omega (arith, same))

undecided-header : (reader : Reader) (header bytes : List ℕ) → IsInHeader reader header bytes → IsUndecided bytes
undecided-header reader header bytes is =
    let to = is.read in
    let more = faulty_end is.front.last in
    let (refusal, told, other) = cut_header header is.front in
    let alone : IsFirstAt bytes (number_of_refusal refusal) (length to.front) =
    rw to.whole (IsFirstAt-front reader.format to.front reader.draft to.read header refusal is.some told) in
    let longer : IsFirstAt (bytes ++ more) 3 (length to.front) =
    rw (to.whole, append_assoc to.front header more)
    (IsFirstAt-front reader.format to.front reader.draft to.read (header ++ more) Header (BeginsBlock-append header more is.some) (faulty_header header is.front)) in
    apart bytes more (number_of_refusal refusal) 3 (length to.front) (length to.front) alone longer other

-- ---- in a body

-- the reasons against a whole block come after those against its form
first_holding-numbered : (against : List Reason) → list_all (λ each. nat_le 6 (number_of_refusal each.refusal)) against ≡ true → (refusal : Refusal) → first_holding against ≡ Some refusal → 6 ≤ number_of_refusal refusal
unfolding first_holding
first_holding-numbered [] later refusal told = absurd (none-some refusal told)
first_holding-numbered (each ∷ against) later refusal told =
    let (here, rest) = and_parts (nat_le 6 (number_of_refusal each.refusal)) (list_all (λ one. nat_le 6 (number_of_refusal one.refusal)) against) later in
    elim (cases_Bool each.holds) [
      | inl holds ↦
          let same : each.refusal ≡ refusal = same_Some _ _ (sym (cond-true _ _ _ holds) ∙ told) in
          subst (λ one. 6 ≤ number_of_refusal one) same (leb-true 6 _ here)
      | inr other ↦ first_holding-numbered against rest refusal (sym (cond-false _ _ _ other) ∙ told)
    ]

later_all : (rev : ℕ) (node : Node) (large : Bool) (action : Option NodeAction) → list_all (λ each. nat_le 6 (number_of_refusal each.refusal)) (later_refusals rev node large action) ≡ true
later_all rev node large None = refl
later_all rev node large (Some action) = refl

content_later : (history : HistoryOfBytes) (after : Option HistoryOfBytes) (content : BlockContent) → list_all (λ each. nat_le 6 (number_of_refusal each.refusal)) (refusals_by history after content) ≡ true
unfolding refusals_by node_refusals
content_later history after (revision_block number) = refl
content_later history after (node_block node) = later_all (pred (length history)) node (grows_large after) node.action
content_later history after uuid_block = refl
content_later history after other_block = refl

-- where nothing follows a block, what follows it is refused for want of a revision alone
nothing_later : (format : Format) (most total : ℕ) (after : Option HistoryOfBytes) (found : RefusalAt) → option_and_then (λ told. refusal_from format most total told []) after ≡ Some found → number_of_refusal found.refusal ≡ 8
unfolding refusal_from
nothing_later format most total None found told = absurd (none-some found told)
nothing_later format zero total (Some after) found told = absurd (none-some found told)
nothing_later format (suc most) total (Some []) found told = ap (λ (each : RefusalAt). number_of_refusal each.refusal) (sym (same_Some _ _ told))
nothing_later format (suc most) total (Some (records ∷ history)) found told = absurd (none-some found told)

-- an input that ends with a block is not refused for its form
whole_number :
    (format : Format) (front : List ℕ) (draft : DumpValue) → IsReadAs format front draft → (header come : List ℕ) → AreHeaderLines header → body_length (header_lines header) ≡ Some (length come) → BeginsBlock header →
    (found : RefusalAt) → first_refusal (front ++ (header ++ 10 ∷ come)) ≡ Some found → 6 ≤ number_of_refusal found.refusal
unfolding block_refusal
whole_number format front draft read header come lines long begins found told =
    let bytes = header ++ 10 ∷ come in
    let block = whole_block header come lines long begins in
    let history = history_in_bytes draft in
    let (most, same) = first_refusal-from format front draft read bytes (BeginsBlock-append header (10 ∷ come) begins) in
    let (form, at, rest) = front-block bytes [] block (IsBlock-whole header come lines long begins) (whole_text header come lines long begins) in
    let refused : block_refusal format history bytes ≡ first_holding (content_refusals history (content_of format (block_at bytes))) =
    first_holding-append (front_refusals bytes) (content_refusals history (content_of format (block_at bytes))) ∙ ap (λ first. option_or first (first_holding (content_refusals history (content_of format (block_at bytes))))) form in
    by_block most bytes (block_refusal format history bytes) (sym refused) rest (sym same ∙ told)
  where
    by_block :
        (most : ℕ) (bytes : List ℕ) (refused : Option Refusal) → first_holding (content_refusals (history_in_bytes draft) (content_of format (block_at bytes))) ≡ refused → after_block bytes ≡ [] →
        refusal_or refused (length front) (option_and_then (λ after. refusal_from format most (length (front ++ bytes)) after (after_block bytes)) (with_block format (history_in_bytes draft) (block_at bytes))) ≡ Some found →
        6 ≤ number_of_refusal found.refusal
    by_block most bytes (Some refusal) first rest is =
        subst (λ (each : RefusalAt). 6 ≤ number_of_refusal each.refusal) (same_Some _ _ is)
        (first_holding-numbered (content_refusals (history_in_bytes draft) (content_of format (block_at bytes))) (content_later (history_in_bytes draft) (with_content (history_in_bytes draft) (content_of format (block_at bytes))) (content_of format (block_at bytes))) refusal first)
    by_block most bytes None first rest is =
        let last = nothing_later format most (length (front ++ bytes)) (with_block format (history_in_bytes draft) (block_at bytes)) found
        (sym (ap (λ after_all. option_and_then (λ after. refusal_from format most (length (front ++ bytes)) after after_all) (with_block format (history_in_bytes draft) (block_at bytes))) rest) ∙ is) in
        omega (arith, last)

undecided-body : (reader : Reader) (header : List ℕ) (body : PartialBody) (bytes : List ℕ) → IsInBody reader header body bytes × (0 < body.left) → IsUndecided bytes
undecided-body reader header body bytes is =
    let to = is.0.read in
    let more : List ℕ = replicate body.left 0 in
    let come : List ℕ = is.0.come ++ more in
    let so_far = is.0.so_far in
    let long : length come ≡ so_far.whole = omega (arith, length-append is.0.come more, length-replicate {A = ℕ} body.left 0, so_far.so_far.left) in
    let whole : bytes ++ more ≡ to.front ++ (header ++ 10 ∷ come) =
    ap (λ all. all ++ more) to.whole ∙ append_assoc to.front (header ++ 10 ∷ is.0.come) more ∙ ap (λ all. to.front ++ all) (append_assoc header (10 ∷ is.0.come) more) in
    λ decided place refused.
    let five = same_as bytes decided 5 place reader.at (subst (λ all. IsFirstAt all decided place) (append-nil bytes) (refused [])) (IsRefusal-body reader header body bytes is) in
    let longer = refused more in
    let six = whole_number reader.format to.front reader.draft to.read header come so_far.lines (so_far.long ∙ ap (λ n. Some n) (sym long)) is.0.some _ (sym (ap first_refusal whole) ∙ longer.first) in
    omega (arith, five, longer.numbered, six)

-- ---- by the part in progress

undecided-in : (each : Progress) (reader : Reader) (bytes : List ℕ) → IsIn each reader bytes → IsUndecided bytes
undecided-in (progress.Line shown) reader bytes is = undecided-line shown bytes is.so_far
undecided-in progress.Blocks reader bytes is = undecided-between reader.format bytes reader.draft is
undecided-in (progress.Header header) reader bytes is = undecided-header reader header bytes is
undecided-in (progress.Body header body) reader bytes is = undecided-body reader header body bytes is

pub IsUndecided-read : (reader : Reader) (bytes : List ℕ) → HasReadAll reader bytes → IsUndecided bytes
IsUndecided-read reader bytes has = undecided-in reader.progress reader bytes has
