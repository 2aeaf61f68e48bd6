-- The header of a block as it comes, line by line.
use Rattle.svn_dump.proofs.Common.{◌≡◌, ℕ, ◌+◌, ◌<◌, true, List, [], ◌∷◌, ◌++◌, length, take, drop, map, get_or, ◌⊎◌, ⊎_elim, inl, inr, refl, sym, ap, ap₂, subst, ◌∙◌, append_assoc, append-nil, arith, length-append, length-take, Bor, Option, Some, None, IsFalse, IsTrue, bytes_eq, count_by, flat_map, list_any, position_or_len, drop-append-add, drop-append_seam, take-append_seam, or_from, flat_map-append, get_or_append_left, get_or_at, get_or-take, map-append, All-nil, All-push, list_any-append, fails_before_first, position_or_len_is, sum_by-cons, is_colon, is_not_empty, is_newline, line_text, IsHeader, header_name, header_value, is_header_named, listed_names, without_space, fields_of, after_lines, front_refusals, header_lines, BeginsWithHeaders, BeginsWithLines, IsUnfinished, AddsHeader, AreHeaders, AreOnce, RepeatsHeader, body_length_from_headers, AreHeaderLines, IsDecidedFront, IsDecidedFrontError, IsHeaderFront, IsPartialHeader, without_value, first_holding, ReadError, Refusal, Header, Length, Truncated}
use Rattle.std.specs.Prelude.{cond}
use Rattle.svn_dump.specs.declared.read_error.ReadError.TheVariants as read
use Rattle.svn_dump.proofs.Blocks.{BeginsWithLines-append, lines_are_found, refused-length, refused-length_of, refused-no_header, refused-twice, refused-unfinished}
use Rattle.svn_dump.proofs.Fronts.{after_lines-lines, header_lines-empty, header_lines-lines, header_lines-unfinished}

-- ---- a header without its value

name_first : (line : List ℕ) → position_or_len is_colon (header_name line ++ 58 ∷ []) ≡ length (header_name line)
name_first line =
    let name = header_name line in
    let most = length-take (position_or_len is_colon line) line in
    position_or_len_is is_colon (name ++ 58 ∷ []) (length name) 0 (omega (arith, length-append name (58 ∷ [])))
    (λ k below.
    let first : k < position_or_len is_colon line = omega (arith, below, most) in
    ap is_colon (get_or_append_left name (58 ∷ []) 0 k below ∙ get_or-take (position_or_len is_colon line) line k 0 first)
    ∙ fails_before_first is_colon line k 0 first)
    (λ _. ap is_colon (get_or_at name 58 [] 0 (length name) refl))

pub same_name : (line : List ℕ) → header_name (without_value line) ≡ header_name line
same_name line = ap (λ n. take n (without_value line)) (name_first line) ∙ take-append_seam (header_name line) (58 ∷ [])

pub no_value : (line : List ℕ) → header_value (without_value line) ≡ []
no_value line =
    ap (λ n. without_space (drop (n + 1) (without_value line))) (name_first line)
    ∙ ap without_space (drop-append-add (header_name line) (58 ∷ []) 1)

count_by-names : (name : List ℕ) (lines : List (List ℕ)) → count_by (is_header_named name) (map without_value lines) ≡ count_by (is_header_named name) lines
count_by-names name [] = refl
count_by-names name (line ∷ lines) =
    sum_by-cons (λ each. cond (is_header_named name each) 1 0) (without_value line) (map without_value lines)
    ∙ ap₂ (λ one all. cond (bytes_eq one name) 1 0 + all) (same_name line) (count_by-names name lines)
    ∙ sym (sum_by-cons (λ each. cond (is_header_named name each) 1 0) line lines)

AreOnce-lines : (lines : List (List ℕ)) → AreOnce (map without_value lines) → AreOnce lines
AreOnce-lines lines once = λ k d below. omega (arith, once k d below, count_by-names (get_or listed_names k d) lines)

AreOnce-names : (lines : List (List ℕ)) → AreOnce lines → AreOnce (map without_value lines)
AreOnce-names lines once = λ k d below. omega (arith, once k d below, count_by-names (get_or listed_names k d) lines)

-- ---- lines, and the front of one more

some_last : (front back : List ℕ) → (length front ≡ 0 → ⊥) ⊎ (length back ≡ 0 → ⊥) → is_not_empty (front ++ back) ≡ true
some_last [] [] some = absurd (⊎_elim (λ no. no refl) (λ no. no refl) some)
some_last [] (byte ∷ back) some = refl
some_last (byte ∷ front) back some = refl

pub one_line-append : (front back : List ℕ) → IsFalse (list_any is_newline front) → IsFalse (list_any is_newline back) → IsFalse (list_any is_newline (front ++ back))
one_line-append front back first last = list_any-append is_newline front back ∙ or_from _ _ first last

lines_text-push : (lines : List (List ℕ)) (line : List ℕ) → flat_map line_text (lines ++ line ∷ []) ≡ flat_map line_text lines ++ (line ++ 10 ∷ [])
lines_text-push lines line = flat_map-append line_text lines (line ∷ []) ∙ ap (λ text. flat_map line_text lines ++ text) (append-nil (line_text line))

module _ (bytes : List ℕ) (front : IsHeaderFront bytes) where
  pub header_lines-front : header_lines bytes ≡ front.lines
  header_lines-front =
      ap header_lines front.whole ∙ header_lines-lines front.lines front.last front.all
      ∙ ap (λ all. front.lines ++ all) (header_lines-unfinished front.last front.no_line) ∙ append-nil front.lines

  pub after_lines-front : after_lines bytes ≡ front.last
  after_lines-front = ap after_lines front.whole ∙ after_lines-lines front.lines front.last (ap header_lines (sym front.whole) ∙ header_lines-front)

  pub after_lines-more : (more : List ℕ) → IsFalse (list_any is_newline more) → after_lines (bytes ++ more) ≡ after_lines bytes ++ more
  after_lines-more more none =
      let last = front.last ++ more in
      let whole = ap (λ all. all ++ more) front.whole ∙ append_assoc (flat_map line_text front.lines) front.last more in
      ap after_lines whole
      ∙ after_lines-lines front.lines last (header_lines-lines front.lines last front.all ∙ ap (λ all. front.lines ++ all) (header_lines-unfinished last (one_line-append front.last more front.no_line none)) ∙ append-nil front.lines)
      ∙ ap (λ all. all ++ more) (sym after_lines-front)

  abbrev pub BeginsWithLines-front : BeginsWithLines bytes (fields_of front.lines) front.last
  BeginsWithLines-front = record {
    lines = front.lines;
    all = front.all;
    fields = record { fields = refl; once = front.once };
    whole = front.whole;
  }

  -- more of the last line
  abbrev pub IsHeaderFront-more : (more : List ℕ) → IsFalse (list_any is_newline more) → IsHeaderFront (bytes ++ more)
  IsHeaderFront-more more none = record {
    lines = front.lines;
    last = front.last ++ more;
    all = front.all;
    once = front.once;
    whole = ap (λ all. all ++ more) front.whole ∙ append_assoc (flat_map line_text front.lines) front.last more;
    no_line = one_line-append front.last more front.no_line none;
  }

  -- why bytes that end here are no block
  IsUnfinished-front : IsUnfinished bytes (fields_of front.lines)
  IsUnfinished-front = record { rest = front.last; lines = BeginsWithLines-front; no_line = front.no_line }

  pub refused-front_length : body_length_from_headers (fields_of front.lines) ≡ None → first_holding (front_refusals bytes) ≡ Some Length
  refused-front_length none = refused-length_of bytes (fields_of front.lines) None IsUnfinished-front none

  pub refused-front_cut : (whole : ℕ) → body_length_from_headers (fields_of front.lines) ≡ Some whole → first_holding (front_refusals bytes) ≡ Some Truncated
  refused-front_cut whole said = refused-unfinished bytes (fields_of front.lines) whole IsUnfinished-front said

-- nothing has come
pub IsPartialHeader-none : (names : List (Option (List ℕ))) → AreHeaders names [] → IsPartialHeader [] 0 names
IsPartialHeader-none names named = record {
  front = record {
    lines = [];
    last = [];
    all = All-nil IsHeader;
    once = named.once;
    whole = refl;
    no_line = refl;
  };
  named = named;
  starts = refl;
}

module _ (bytes : List ℕ) (start : ℕ) (names : List (Option (List ℕ))) (is : IsPartialHeader bytes start names) where
  pub last-from : drop start bytes ≡ is.front.last
  last-from = ap₂ drop is.starts is.front.whole ∙ drop-append_seam (flat_map line_text is.front.lines) is.front.last

  pub IsPartialHeader-more : (more : List ℕ) → IsFalse (list_any is_newline more) → IsPartialHeader (bytes ++ more) start names
  IsPartialHeader-more more none = record { front = IsHeaderFront-more bytes is.front more none; named = is.named; starts = is.starts }

  -- the last line has a byte, unless it starts at the end
  pub some-last : (more : List ℕ) → (length more ≡ 0 → ⊥) ⊎ (start ≡ length bytes → ⊥) → IsTrue (is_not_empty (after_lines bytes ++ more))
  some-last more some =
      let long : length bytes ≡ start + length is.front.last = omega (arith, is.starts, ap length is.front.whole, length-append (flat_map line_text is.front.lines) is.front.last) in
      subst (λ last. IsTrue (is_not_empty (last ++ more))) (sym (after_lines-front bytes is.front))
      (some_last is.front.last more (elim some [
        | inl bytes_more ↦ inr bytes_more
        | inr apart ↦ inl (λ none. apart (omega (arith, long, none)))
      ]))

  -- ---- the last line ends

  module _ (line : List ℕ) (last : line ≡ is.front.last) (some : IsTrue (is_not_empty (after_lines bytes))) where
    some_line : is_not_empty line ≡ true
    some_line = ap is_not_empty (last ∙ sym (after_lines-front bytes is.front)) ∙ some

    one_line : IsFalse (list_any is_newline line)
    one_line = ap (list_any is_newline) last ∙ is.front.no_line

    module _ (more : List ℕ) where
      abbrev all_bytes : List ℕ
      all_bytes = (bytes ++ 10 ∷ []) ++ more

      abbrev found : BeginsWithLines (bytes ++ 10 ∷ more) (fields_of is.front.lines) (is.front.last ++ 10 ∷ more)
      found = BeginsWithLines-append bytes (fields_of is.front.lines) is.front.last (10 ∷ more) (BeginsWithLines-front bytes is.front)

      from_found : (refusal : Refusal) → first_holding (front_refusals (bytes ++ 10 ∷ more)) ≡ Some refusal → first_holding (front_refusals all_bytes) ≡ Some refusal
      from_found refusal told = ap (λ all. first_holding (front_refusals all)) (append_assoc bytes (10 ∷ []) more) ∙ told

      cut : is.front.last ++ 10 ∷ more ≡ line ++ 10 ∷ more
      cut = ap (λ all. all ++ 10 ∷ more) (sym last)

    pub refused-no_header_line : (IsHeader line → ⊥) → IsDecidedFront (bytes ++ 10 ∷ []) Header
    refused-no_header_line other = λ more.
        from_found more Header (refused-no_header (bytes ++ 10 ∷ more) (fields_of is.front.lines) (is.front.last ++ 10 ∷ more) (found more) line more some_line one_line (cut more) other)

    pub refused-name_twice : (name : List ℕ) → name ≡ header_name line → RepeatsHeader names name → IsDecidedFront (bytes ++ 10 ∷ []) Header
    refused-name_twice name named again = λ more.
        from_found more Header
        (refused-twice (bytes ++ 10 ∷ more) (fields_of is.front.lines) (is.front.last ++ 10 ∷ more) (found more) line more some_line one_line (cut more)
        (λ once. again (map without_value is.front.lines) (without_value line) (same_name line ∙ sym named) is.named
        (subst AreOnce (map-append without_value is.front.lines (line ∷ [])) (AreOnce-names (is.front.lines ++ line ∷ []) once))))

    pub IsPartialHeader-line : (name : List ℕ) (new : List (Option (List ℕ))) → name ≡ header_name line → IsHeader line → AddsHeader names new name [] → IsPartialHeader (bytes ++ 10 ∷ []) (length bytes + 1) new
    IsPartialHeader-line name new named header adds =
        let lines = is.front.lines ++ line ∷ [] in
        let named_all : AreHeaders new (map without_value lines) =
        subst (AreHeaders new) (sym (map-append without_value is.front.lines (line ∷ []))) (adds (map without_value is.front.lines) (without_value line) (same_name line ∙ sym named) (no_value line) is.named) in
        let whole : bytes ++ 10 ∷ [] ≡ flat_map line_text lines =
        ap (λ all. all ++ 10 ∷ []) (is.front.whole ∙ ap (λ all. flat_map line_text is.front.lines ++ all) (sym last))
        ∙ append_assoc (flat_map line_text is.front.lines) line (10 ∷ []) ∙ sym (lines_text-push is.front.lines line) in record {
          front = record {
            lines = lines;
            last = [];
            all = All-push IsHeader is.front.lines line is.front.all header;
            once = AreOnce-lines lines named_all.once;
            whole = whole ∙ sym (append-nil (flat_map line_text lines));
            no_line = refl;
          };
          named = named_all;
          starts = omega (arith, ap length whole, length-append bytes (10 ∷ []));
        }

-- ---- a piece

-- what is decided at a line of the piece
pub IsDecidedFrontError-piece :
    (old so_far done end more piece rest : List ℕ) (e : ReadError) → piece ≡ done ++ rest → so_far ≡ old ++ done → rest ≡ end ++ 10 ∷ more → IsDecidedFrontError (so_far ++ (end ++ 10 ∷ [])) e → IsDecidedFrontError (old ++ piece) e
IsDecidedFrontError-piece old so_far done end more piece rest (read.Refused refusal) whole kept cut decided = λ after.
    let all_of : old ++ piece ≡ so_far ++ rest = ap (λ all. old ++ all) whole ∙ sym (append_assoc old done rest) ∙ ap (λ all. all ++ rest) (sym kept) in
    ap (λ all. first_holding (front_refusals all))
    (ap (λ all. all ++ after) (all_of ∙ ap (λ all. so_far ++ all) (cut ∙ sym (append_assoc end (10 ∷ []) more)) ∙ sym (append_assoc so_far (end ++ 10 ∷ []) more))
    ∙ append_assoc (so_far ++ (end ++ 10 ∷ [])) more after)
    ∙ decided (more ++ after)
IsDecidedFrontError-piece old so_far done end more piece rest read.Memory whole kept cut decided = tt

-- ---- whole header lines

-- the values that are read of them
pub values-lines : (bytes : List ℕ) (values : List (Option (List ℕ))) (rest : Option (Bor (List ℕ))) → BeginsWithHeaders bytes values rest → values ≡ fields_of (header_lines bytes)
values-lines bytes values None found =
    found.lines.fields.fields ∙ ap fields_of (sym (lines_are_found bytes values found.rest found.lines (header_lines-unfinished found.rest found.no_line)))
values-lines bytes values (Some rest) found =
    found.fields.fields ∙ ap fields_of (sym (lines_are_found bytes values (10 ∷ rest.now) found (header_lines-empty rest.now)))

-- the values that are read where the front of one more line has come
pub values-front :
    (bytes read : List ℕ) (front : IsHeaderFront bytes) (values : List (Option (List ℕ))) (rest : Option (Bor (List ℕ))) → read ≡ bytes → BeginsWithHeaders read values rest → values ≡ fields_of front.lines
values-front bytes read front values rest same found = values-lines read values rest found ∙ ap fields_of (ap header_lines same ∙ header_lines-front bytes front)

module _ (bytes : List ℕ) (are : AreHeaderLines bytes) where
  abbrev IsHeaderFront-lines : IsHeaderFront bytes
  IsHeaderFront-lines = record {
    lines = are.lines;
    last = [];
    all = are.all;
    once = are.once;
    whole = are.whole ∙ sym (append-nil (flat_map line_text are.lines));
    no_line = refl;
  }

  pub header_lines-all : header_lines bytes ≡ are.lines
  header_lines-all = header_lines-front bytes IsHeaderFront-lines

  pub BeginsWithLines-all : (more : List ℕ) → BeginsWithLines (bytes ++ 10 ∷ more) (fields_of (header_lines bytes)) (10 ∷ more)
  BeginsWithLines-all more = record {
    lines = are.lines;
    all = are.all;
    fields = record { fields = ap fields_of header_lines-all; once = are.once };
    whole = ap (λ all. all ++ 10 ∷ more) are.whole;
  }

  -- lengths that are told against
  pub refused-lines_length : body_length_from_headers (fields_of (header_lines bytes)) ≡ None → IsDecidedFront (bytes ++ 10 ∷ []) Length
  refused-lines_length none = λ more.
      ap (λ all. first_holding (front_refusals all)) (append_assoc bytes (10 ∷ []) more)
      ∙ refused-length (bytes ++ 10 ∷ more) (fields_of (header_lines bytes)) (10 ∷ more) (BeginsWithLines-all more) (header_lines-empty more) none
