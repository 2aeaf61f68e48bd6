-- The first line as it comes, byte by byte.
use Rattle.svn_dump.proofs.Common.{◌≡◌, ◌≢◌, ℕ, ◌+◌, ◌-◌, ◌<◌, ◌≤◌, false, List, [], ◌∷◌, ◌++◌, length, take, drop, get_or, refl, sym, ap, ap₂, subst, ◌∙◌, append_assoc, arith, length-append, Some, None, Result, Ok, Err, IfErr, IfOk, bytes_eq, codes, list_any, cond-false, false_from_ne_true, ne_eqb, or_from, get_or_append_left, get_or_at, length-take-le, take_more, take_rest, list_any-append, bytes_eq-Decides, is_newline, line_refusals, magic, format_of_version, version, HasOtherVersion, IsDecidedLine, IsFrontOfLine, IsPartialLine, first_holding, Format, Two, Three, PartialLine, Refusal, Magic, Truncated, Version}
use Rattle.svn_dump.proofs.FirstLines.{refused_cut, refused_magic, refused_version}

-- bytes that are not other ones
bytes_eq-apart : (bytes other : List ℕ) → bytes ≢ other → bytes_eq bytes other ≡ false
bytes_eq-apart bytes other apart = false_from_ne_true _ (λ same. apart ((bytes_eq-Decides bytes other).0 same))

-- a value that is the version of no format
no_version : (value : List ℕ) → value ≢ codes "2" → value ≢ codes "3" → format_of_version value ≡ None
no_version value not_two not_three = cond-false _ _ _ (bytes_eq-apart value (codes "2") not_two) ∙ cond-false _ _ _ (bytes_eq-apart value (codes "3") not_three)

-- a byte, and what follows it
push : (bytes more : List ℕ) (byte : ℕ) → (bytes ++ byte ∷ []) ++ more ≡ bytes ++ byte ∷ more
push bytes more byte = append_assoc bytes (byte ∷ []) more

-- a value of more than a byte is the version of no format
pub long_version : (first byte : ℕ) (more : List ℕ) → format_of_version (first ∷ (more ++ byte ∷ [])) ≡ None
long_version first byte more = no_version (first ∷ (more ++ byte ∷ [])) (λ same. long (ap length same)) (λ same. long (ap length same))
  where
    long : length (first ∷ (more ++ byte ∷ [])) ≡ 1 → ⊥
    long one = omega (arith, one, length-append more (byte ∷ []))

module _ (count : ℕ) (bytes : List ℕ) (is : IsFrontOfLine count bytes) where
  long_front : length bytes ≡ count
  long_front = ap length is.front ∙ length-take-le count magic is.within

  -- the next byte
  pub front-next : (byte : ℕ) → count < 28 → byte ≡ get_or magic count 0 → IsFrontOfLine (count + 1) (bytes ++ byte ∷ [])
  front-next byte before same = record {
    within = omega (arith, before);
    front = ap₂ (λ front next. front ++ next ∷ []) is.front same ∙ sym (take_more magic count 0 before);
  }

  -- another byte
  pub refused-name : (byte : ℕ) → count < 28 → byte ≢ get_or magic count 0 → IsDecidedLine (bytes ++ byte ∷ []) Magic
  refused-name byte before other = λ more. refused_magic _ (λ rest same.
      let here : get_or (bytes ++ byte ∷ more) count 0 ≡ byte = get_or_at bytes byte more 0 count long_front in
      other (sym here ∙ ap (λ all. get_or all count 0) (sym (push bytes more byte) ∙ same) ∙ get_or_append_left magic rest 0 count before))

  -- the bytes are too few
  pub refused-short : count < 28 → first_holding (line_refusals bytes) ≡ Some Magic
  refused-short before = refused_magic bytes (λ rest same.
      let few : length bytes ≡ 28 + length rest = ap length same ∙ length-append magic rest in
      omega (arith, few, long_front))

  -- the bytes are all of them
  pub all_of_front : 28 ≤ count → bytes ≡ magic
  all_of_front from = is.front ∙ ap (λ n. take n magic) (let all : count ≡ 28 = omega (arith, is.within) in all)

  -- and end there
  pub refused-name_cut : 28 ≤ count → first_holding (line_refusals bytes) ≡ Some Truncated
  refused-name_cut from = refused_cut bytes [] (all_of_front from) refl

-- what a byte makes of all of them
module _ (count byte : ℕ) (from : 28 ≤ count) where
  pub IfOk-front : (result : Result PartialLine Refusal) → IfOk result (λ next. IsPartialLine next (magic ++ byte ∷ [])) → IfOk result (λ next. (bytes : List ℕ) → IsFrontOfLine count bytes → IsPartialLine next (bytes ++ byte ∷ []))
  IfOk-front (Ok next) is = λ bytes front. subst (λ all. IsPartialLine next (all ++ byte ∷ [])) (sym (all_of_front count bytes front from)) is
  IfOk-front (Err refusal) is = tt

  pub IfErr-front : (result : Result PartialLine Refusal) → IfErr result (IsDecidedLine (magic ++ byte ∷ [])) → IfErr result (λ refusal. (bytes : List ℕ) → IsFrontOfLine count bytes → IsDecidedLine (bytes ++ byte ∷ []) refusal)
  IfErr-front (Ok next) is = tt
  IfErr-front (Err refusal) is = λ bytes front. subst (λ all. IsDecidedLine (all ++ byte ∷ []) refusal) (sym (all_of_front count bytes front from)) is

-- a line that ends without a version
pub refused-none : IsDecidedLine (magic ++ 10 ∷ []) Version
refused-none = λ more. refused_version _ (10 ∷ more) refl [] more refl refl refl

-- a byte that is the version of no format
pub other-version : (byte : ℕ) → byte ≢ 50 → byte ≢ 51 → byte ≢ 10 → HasOtherVersion (magic ++ byte ∷ [])
other-version byte not_two not_three same_line = record {
  value = byte ∷ [];
  begins = refl;
  one_line = or_from (is_newline byte) false (ne_eqb byte 10 same_line) refl;
  some = λ none. cc;
  other = no_version (byte ∷ []) (λ same. not_two (cc)) (λ same. not_three (cc));
}

-- a byte after the version of a format
pub version-more : (format : Format) (byte : ℕ) → byte ≢ 10 → HasOtherVersion (magic ++ (version format ++ byte ∷ []))
version-more format byte same_line = record {
  value = version format ++ byte ∷ [];
  begins = refl;
  one_line = one_line format;
  some = λ none. omega (arith, ap length none, length-append (version format) (byte ∷ []));
  other = other format;
}
  where
    one_line : (each : Format) → list_any is_newline (version each ++ byte ∷ []) ≡ false
    one_line Two = or_from (is_newline byte) false (ne_eqb byte 10 same_line) refl
    one_line Three = or_from (is_newline byte) false (ne_eqb byte 10 same_line) refl

    other : (each : Format) → format_of_version (version each ++ byte ∷ []) ≡ None
    other Two = long_version 50 byte []
    other Three = long_version 51 byte []

-- the bytes end after it
pub refused-version_cut : (format : Format) (bytes : List ℕ) → bytes ≡ magic ++ version format → first_holding (line_refusals bytes) ≡ Some Truncated
refused-version_cut Two bytes is = refused_cut bytes (version Two) is refl
refused-version_cut Three bytes is = refused_cut bytes (version Three) is refl

module _ (bytes : List ℕ) (is : HasOtherVersion bytes) where
  -- the line ends
  pub refused-other : (byte : ℕ) → byte ≡ 10 → IsDecidedLine (bytes ++ byte ∷ []) Version
  refused-other byte newline = λ more.
      refused_version _ (is.value ++ 10 ∷ more) (push bytes more byte ∙ ap₂ (λ front each. front ++ each ∷ more) is.begins newline ∙ append_assoc magic is.value (10 ∷ more))
      is.value more refl is.one_line is.other

  -- it goes on
  pub other-more : (byte : ℕ) → byte ≢ 10 → HasOtherVersion (bytes ++ byte ∷ [])
  other-more byte same_line = record {
    value = is.value ++ byte ∷ [];
    begins = ap (λ front. front ++ byte ∷ []) is.begins ∙ append_assoc magic is.value (byte ∷ []);
    one_line = list_any-append is_newline is.value (byte ∷ []) ∙ or_from (list_any is_newline is.value) _ is.one_line (or_from (is_newline byte) false (ne_eqb byte 10 same_line) refl);
    some = λ none. omega (arith, ap length none, length-append is.value (byte ∷ []));
    other = longer is.value is.some;
  }
    where
      longer : (value : List ℕ) → value ≢ [] → format_of_version (value ++ byte ∷ []) ≡ None
      longer [] some = absurd (some refl)
      longer (first ∷ value) some = long_version first byte value

  -- the bytes end in it
  pub refused-other_cut : first_holding (line_refusals bytes) ≡ Some Truncated
  refused-other_cut = refused_cut bytes is.value is.begins is.one_line

-- ---- a byte of a piece, and what follows it

abbrev behind : List ℕ → List ℕ
behind rest = take (length rest - 1) (drop 1 rest)

first_byte : (rest : List ℕ) → 1 ≤ length rest → rest ≡ get_or rest 0 0 ∷ behind rest
first_byte [] some = absurd (omega arith)
first_byte (byte ∷ rest) some = ap (λ all. byte ∷ all) (sym (take_rest (byte ∷ rest) 1))

-- what is decided at a byte of the piece
pub IsDecidedLine-piece :
    (bytes done rest piece : List ℕ) → piece ≡ done ++ rest → 1 ≤ length rest → (refusal : Refusal) → IsDecidedLine ((bytes ++ done) ++ get_or rest 0 0 ∷ []) refusal → IsDecidedLine (bytes ++ piece) refusal
IsDecidedLine-piece bytes done rest piece whole some refusal decided = λ more.
    let front = (bytes ++ done) ++ get_or rest 0 0 ∷ [] in
    let up_to : bytes ++ piece ≡ front ++ behind rest =
    ap (λ all. bytes ++ all) (whole ∙ ap (λ all. done ++ all) (first_byte rest some)) ∙ sym (append_assoc bytes done (get_or rest 0 0 ∷ behind rest))
    ∙ sym (push (bytes ++ done) (behind rest) (get_or rest 0 0)) in
    ap (λ all. first_holding (line_refusals all)) (ap (λ all. all ++ more) up_to ∙ append_assoc front (behind rest) more) ∙ decided (behind rest ++ more)
