-- Blocks at the front of the bytes, and what stands against them.
use Rattle.svn_dump.proofs.Common.{◌≡◌, ℕ, ◌+◌, ◌<◌, ◌≤◌, Bool, true, false, List, [], ◌∷◌, ◌++◌, length, take, drop, refl, sym, ap, ap₂, ◌∙◌, inl, inr, append_assoc, append-nil, arith, lt-ltb, Bor, Option, Some, None, IsFalse, count_by, flat_map, is_none, nat_lt, unwrap_or, ◌==◌, MatchOption, list_any, both_ways, cases_Bool, cond-true, cond-false, or_parts, or_right, flat_map-append, length-take-le, All-push, list_any-append, sum_by-append, is_colon, is_not_empty, IsHeader, body_length, header_name, is_header_named, length_or_zero, listed_names, properties_length, is_newline, line_text, fields_of, after_lines, begins_with_newline, body_length_at, front_refusals, has_twice, header_lines, is_cut, is_no_header, BeginsWithLines, BeginsWithBlock, IsUnfinished, AreHeaders, AreOnce, first_holding, body_length_from_headers, field_value, PropertiesLength, Header, Length, Truncated}
use Rattle.std.specs.Prelude.{not, ◌||◌}
use Rattle.std.proofs.lemmas.List.{take-append-drop}
use Rattle.svn_dump.proofs.Fronts.{after_lines-lines, has_twice-once, header_lines-empty, header_lines-line, header_lines-lines, header_lines-unfinished, list_any-no_header, once-has_twice}

-- one more header line
pub BeginsWithLines-push : (bytes line more rest : List ℕ) (old new : List (Option (List ℕ))) → IsHeader line → rest ≡ line ++ 10 ∷ more → ((lines : List (List ℕ)) → AreHeaders old lines → AreHeaders new (lines ++ line ∷ [])) → BeginsWithLines bytes old rest → BeginsWithLines bytes new more
BeginsWithLines-push bytes line more rest old new header cut added before = record {
  lines = before.lines ++ line ∷ [];
  all = All-push IsHeader before.lines line before.all header;
  fields = added before.lines before.fields;
  whole =
      let front = flat_map line_text before.lines in
      before.whole ∙ ap (λ from. front ++ from) cut
      ∙ sym (ap (λ text. text ++ more) (flat_map-append line_text before.lines (line ∷ []) ∙ ap (λ text. front ++ text) (append-nil (line_text line)))
      ∙ append_assoc front (line_text line) more ∙ ap (λ text. front ++ text) (append_assoc line (10 ∷ []) more));
}

-- bytes that go on begin with the same header lines
abbrev pub BeginsWithLines-append : (bytes : List ℕ) (values : List (Option (List ℕ))) (rest more : List ℕ) → BeginsWithLines bytes values rest → BeginsWithLines (bytes ++ more) values (rest ++ more)
BeginsWithLines-append bytes values rest more found = record {
  lines = found.lines;
  all = found.all;
  fields = found.fields;
  whole = ap (λ all. all ++ more) found.whole ∙ append_assoc (flat_map line_text found.lines) rest more;
}

pub body_length-from_headers : (lines : List (List ℕ)) → body_length lines ≡ body_length_from_headers (fields_of lines)
unfolding body_length
body_length-from_headers lines = refl

-- bytes that begin with no newline begin with a line
some_lines : (from rest : List ℕ) (lines : List (List ℕ)) → from ≡ flat_map line_text lines ++ 10 ∷ rest → IsFalse (begins_with_newline from) → length lines ≡ 0 → ⊥
some_lines from rest [] whole other none = both_ways _ other (ap begins_with_newline whole)
some_lines from rest (line ∷ lines) whole other none = absurd (omega arith)

properties_length-from_headers : (lines : List (List ℕ)) → properties_length lines ≡ length_or_zero (field_value (fields_of lines) PropertiesLength)
properties_length-from_headers lines = refl

-- a block, by its lines and the lengths of its body and of its property section
pub BeginsWithBlock-body :
    (bytes : List ℕ) (values : List (Option (List ℕ))) (rest : List ℕ) (section whole : ℕ) →
    IsFalse (begins_with_newline bytes) → BeginsWithLines bytes values (10 ∷ rest) →
    body_length_from_headers values ≡ Some whole → length_or_zero (field_value values PropertiesLength) ≡ Some section → section ≤ whole → whole ≤ length rest →
    BeginsWithBlock bytes values (take section (take whole rest)) (drop whole rest)
BeginsWithBlock-body bytes values rest section n other found said in_front inside within = record {
  block = record { lines = found.lines; body = take n rest };
  is_block = record {
    some_line = some_lines bytes rest found.lines found.whole other;
    headers = found.all;
    once = found.fields.once;
    whole = body_length-from_headers found.lines ∙ ap body_length_from_headers (sym found.fields.fields) ∙ said ∙ ap Some (sym (length-take-le n rest within));
  };
  fields = found.fields.fields;
  section =
      properties_length-from_headers found.lines ∙ ap (λ all. length_or_zero (field_value all PropertiesLength)) (sym found.fields.fields) ∙ in_front ∙ ap Some (sym long);
  front = ap (λ k. take k (take n rest)) (sym long);
  whole =
      let lines = flat_map line_text found.lines in
      found.whole ∙ sym (append_assoc lines (10 ∷ take n rest) (drop n rest) ∙ ap (λ body. lines ++ 10 ∷ body) (take-append-drop n rest));
}
  where
    long : length (take section (take n rest)) ≡ section
    long = length-take-le section (take n rest) (omega (arith, length-take-le n rest within))

-- ---- what stands against the form

no_newline : (rest : List ℕ) → IsFalse (list_any is_newline rest) → begins_with_newline rest ≡ false
no_newline [] none = refl
no_newline (byte ∷ rest) none = (or_parts (byte == 10) (list_any is_newline rest) none).0

-- lines that are headers, each listed name once, and then something else
module _ (bytes : List ℕ) (values : List (Option (List ℕ))) (rest : List ℕ) (found : BeginsWithLines bytes values rest) where
  header_lines-found : header_lines bytes ≡ found.lines ++ header_lines rest
  header_lines-found = ap header_lines found.whole ∙ header_lines-lines found.lines rest found.all

  -- a line that is no header
  no_header : (line : List ℕ) → IsFalse (list_any is_newline line) → (IsHeader line → ⊥) → is_no_header line ≡ true
  no_header line whole not_header = by_colon (list_any is_colon line) refl (is_not_empty (header_name line)) refl
    where
      by_colon : (colon : Bool) → list_any is_colon line ≡ colon → (named : Bool) → is_not_empty (header_name line) ≡ named → is_no_header line ≡ true
      by_colon true has true is = absurd (not_header (record { one_line = whole; colon = has; named = is }))
      by_colon true has false is = ap₂ (λ a b. not a || not b) has is
      by_colon false has named is = ap (λ a. not a || not (is_not_empty (header_name line))) has

  pub header_holds : (list_any is_no_header (header_lines bytes) || has_twice (header_lines bytes)) ≡ true → first_holding (front_refusals bytes) ≡ Some Header
  unfolding first_holding
  header_holds holds = cond-true _ _ _ holds

  module _ (line more : List ℕ) (some : is_not_empty line ≡ true) (one_line : IsFalse (list_any is_newline line)) (cut : rest ≡ line ++ 10 ∷ more) where
    lines_are : header_lines bytes ≡ found.lines ++ line ∷ header_lines more
    lines_are = header_lines-found ∙ ap (λ all. found.lines ++ all) (ap header_lines cut ∙ header_lines-line line more some one_line)

    -- it is told against
    pub refused-no_header : (IsHeader line → ⊥) → first_holding (front_refusals bytes) ≡ Some Header
    refused-no_header not_header = header_holds (ap (λ any. any || has_twice (header_lines bytes)) any)
      where
        any : list_any is_no_header (header_lines bytes) ≡ true
        any = ap (list_any is_no_header) lines_are ∙ list_any-append is_no_header found.lines (line ∷ header_lines more)
            ∙ ap₂ (λ a b. a || (b || list_any is_no_header (header_lines more))) (list_any-no_header found.lines found.all) (no_header line one_line not_header)

    counted : (name : List ℕ) → count_by (is_header_named name) (header_lines bytes) ≡ count_by (is_header_named name) (found.lines ++ line ∷ []) + count_by (is_header_named name) (header_lines more)
    counted name =
        ap (count_by (is_header_named name)) (lines_are ∙ sym (append_assoc found.lines (line ∷ []) (header_lines more)))
        ∙ sum_by-append _ (found.lines ++ line ∷ []) (header_lines more)

    -- and so is a listed name that stands again
    pub refused-twice : (AreOnce (found.lines ++ line ∷ []) → ⊥) → first_holding (front_refusals bytes) ≡ Some Header
    refused-twice again =
        elim (cases_Bool (has_twice (header_lines bytes))) [
          | inl twice ↦ header_holds (or_right (list_any is_no_header (header_lines bytes)) (has_twice (header_lines bytes)) twice)
          | inr once ↦ absurd (again (λ k d h. omega (arith, counted (Rattle.std.specs.List.slice_index_or listed_names k d), once-has_twice (header_lines bytes) once k d h)))
        ]

  -- no line follows
  module _ (last : header_lines rest ≡ []) where
    pub lines_are_found : header_lines bytes ≡ found.lines
    lines_are_found = header_lines-found ∙ ap (λ all. found.lines ++ all) last ∙ append-nil found.lines

    length_is : body_length (header_lines bytes) ≡ body_length_from_headers values
    length_is = ap body_length lines_are_found ∙ body_length-from_headers found.lines ∙ ap body_length_from_headers (sym found.fields.fields)

    no_header_holds : (list_any is_no_header (header_lines bytes) || has_twice (header_lines bytes)) ≡ false
    no_header_holds =
        ap₂ (λ a b. a || b) (ap (list_any is_no_header) lines_are_found ∙ list_any-no_header found.lines found.all)
        (ap has_twice lines_are_found ∙ has_twice-once found.lines found.fields.once)

    -- the lengths are told against
    pub refused-length : body_length_from_headers values ≡ None → first_holding (front_refusals bytes) ≡ Some Length
    unfolding first_holding
    refused-length none = cond-false _ _ _ no_header_holds ∙ cond-true _ _ _ (ap is_none (length_is ∙ none))

    -- the bytes end too early
    pub refused-cut : (whole : ℕ) → body_length_from_headers values ≡ Some whole → is_cut bytes ≡ true → first_holding (front_refusals bytes) ≡ Some Truncated
    unfolding first_holding
    refused-cut whole said cut = cond-false _ _ _ no_header_holds ∙ cond-false _ _ _ (ap is_none (length_is ∙ said)) ∙ cond-true _ _ _ cut

    rest_is : after_lines bytes ≡ rest
    rest_is = ap after_lines found.whole ∙ after_lines-lines found.lines rest (ap header_lines (sym found.whole) ∙ lines_are_found)

    -- before the empty line
    pub is_cut-unfinished : IsFalse (list_any is_newline rest) → is_cut bytes ≡ true
    is_cut-unfinished none =
        ap (λ begins. not begins || nat_lt (length (drop 1 (after_lines bytes))) (body_length_at bytes))
        (ap begins_with_newline rest_is ∙ no_newline rest none)

    -- or in the body
    pub is_cut-body : (body : List ℕ) (whole : ℕ) → rest ≡ 10 ∷ body → body_length_from_headers values ≡ Some whole → length body < whole → is_cut bytes ≡ true
    is_cut-body body whole same said short =
        ap (λ after. not (begins_with_newline after) || nat_lt (length (drop 1 after)) (body_length_at bytes)) (rest_is ∙ same)
        ∙ ap (λ told. nat_lt (length body) (unwrap_or told 0)) (length_is ∙ said) ∙ lt-ltb (length body) whole short

-- ---- the same of what follows the headers

module _ (bytes : List ℕ) (values : List (Option (List ℕ))) where
  -- the bytes end before the empty line
  pub refused-unfinished : (whole : ℕ) → IsUnfinished bytes values → body_length_from_headers values ≡ Some whole → first_holding (front_refusals bytes) ≡ Some Truncated
  refused-unfinished whole found said =
      let last = header_lines-unfinished found.rest found.no_line in
      refused-cut bytes values found.rest found.lines last whole said (is_cut-unfinished bytes values found.rest found.lines last found.no_line)

  -- the bytes end in the body
  pub refused-body : (rest : List ℕ) (whole : ℕ) → BeginsWithLines bytes values (10 ∷ rest) → body_length_from_headers values ≡ Some whole → length rest < whole → first_holding (front_refusals bytes) ≡ Some Truncated
  refused-body rest whole found said short =
      let last = header_lines-empty rest in
      refused-cut bytes values (10 ∷ rest) found last whole said (is_cut-body bytes values (10 ∷ rest) found last rest whole refl said short)

  -- the lengths are told against, in both cases
  pub refused-length_of : (rest : Option (Bor (List ℕ))) → MatchOption rest (IsUnfinished bytes values) (λ after. BeginsWithLines bytes values (10 ∷ after.now)) → body_length_from_headers values ≡ None → first_holding (front_refusals bytes) ≡ Some Length
  refused-length_of None found none = refused-length bytes values found.rest found.lines (header_lines-unfinished found.rest found.no_line) none
  refused-length_of (Some rest) found none = refused-length bytes values (10 ∷ rest.now) found (header_lines-empty rest.now) none

-- a line with a byte isn't empty
pub not_empty : (line : List ℕ) → (length line == 0) ≡ false → is_not_empty line ≡ true
not_empty [] some = absurd (cc)
not_empty (byte ∷ line) some = refl
