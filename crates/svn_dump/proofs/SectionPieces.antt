-- The pieces of a property section: a letter, the length of a text, and the text.
use Rattle.svn_dump.proofs.Common.{◌≡◌, ◌≢◌, ℕ, ◌+◌, ◌<◌, ◌≤◌, Bool, true, false, inl, inr, List, [], ◌∷◌, ◌++◌, length, get_or, take, drop, refl, sym, ap, ap₂, subst, ◌∙◌, arith, length-append, append_assoc, ◌==◌, nat_eq, nat_le, nat_lt, Option, Some, None, option_and_then, list_all, list_any, position_or_len, before_first, after_first, starts_with, take-append_seam, drop-append_seam, cases_Bool, cases_lt, and_from, and_left, and_right, and_parts, or_parts, or_right, both_ways, cond-true, cond-false, eqb-true, ne_eqb, le-ltb, lt-leb, ltb-true, drop_more, length-take-le, list_any-append, none-some, some_pair_parts, is_newline, is_digit, number_of, number_up_to, text_of_length, piece_of}
use Rattle.std.specs.Prelude.{◌&&◌, ◌||◌, if◌then◌else◌}
use Rattle.std.proofs.lemmas.Bool.{eq-eqb, lt-ltb, le-leb}
use Rattle.std.proofs.lemmas.List.{take-append-drop}

-- what a test lets through
some_when : {X : Type 0} (b : Bool) (o : Option X) (x : X) → (if b then o else None) ≡ Some x → (b ≡ true) × (o ≡ Some x)
some_when true o x e = (refl, e)
some_when false o x e = absurd (none-some x e)

-- ---- lines

get_or-seam : (text rest : List ℕ) → get_or (text ++ 10 ∷ rest) (length text) 0 ≡ 10
get_or-seam [] rest = refl
get_or-seam (byte ∷ text) rest = get_or-seam text rest

behind-seam : (text rest : List ℕ) → drop (length text + 1) (text ++ 10 ∷ rest) ≡ rest
behind-seam text rest =
    ap₂ drop (sym (length-append text (10 ∷ []))) (sym (append_assoc text (10 ∷ []) rest)) ∙ drop-append_seam (text ++ 10 ∷ []) rest

position-front : (line rest : List ℕ) → list_any is_newline line ≡ false → position_or_len is_newline (line ++ 10 ∷ rest) ≡ length line
position-front [] rest none = refl
position-front (byte ∷ line) rest none =
    let parts = or_parts (byte == 10) (list_any is_newline line) none in
    let here : (byte == 10) ≡ false = parts.0 in
    let there = position-front line rest parts.1 in
    rw (here, there) (omega arith)

before_first-front : (line rest : List ℕ) → list_any is_newline line ≡ false → before_first is_newline (line ++ 10 ∷ rest) ≡ line
before_first-front line rest none = ap (λ n. take n (line ++ 10 ∷ rest)) (position-front line rest none) ∙ take-append_seam line (10 ∷ rest)

after_first-front : (line rest : List ℕ) → list_any is_newline line ≡ false → after_first is_newline (line ++ 10 ∷ rest) ≡ rest
after_first-front line rest none =
    ap (λ n. drop (n + 1) (line ++ 10 ∷ rest)) (position-front line rest none) ∙ behind-seam line rest

-- bytes with a newline begin with a line
pub first_line_of : (bytes : List ℕ) → list_any is_newline bytes ≡ true → (line rest : List ℕ) × (list_any is_newline line ≡ false) × (bytes ≡ line ++ 10 ∷ rest)
first_line_of [] there = absurd (cc)
first_line_of (byte ∷ bytes) there =
    elim (cases_Bool (byte == 10)) [
      | inl here ↦ ([], bytes, refl, ap (λ b. b ∷ bytes) (eqb-true byte 10 here))
      | inr other ↦
          let further : list_any is_newline bytes ≡ true = sym (ap (λ b. b || list_any is_newline bytes) other) ∙ there in
          let more = first_line_of bytes further in
          (byte ∷ more.0, more.1, ap₂ (λ a b. a || b) other more.2, ap (λ rest. byte ∷ rest) more.3)
    ]

-- digits are no newlines
digits-plain : (digits : List ℕ) → list_all is_digit digits ≡ true → list_any is_newline digits ≡ false
digits-plain [] all = refl
digits-plain (byte ∷ digits) all =
    let parts = and_parts (is_digit byte) (list_all is_digit digits) all in
    elim (cases_Bool (byte == 10)) [
      | inl here ↦ let ten = eqb-true byte 10 here in absurd (both_ways (is_digit 10) refl (sym (ap is_digit ten) ∙ parts.0))
      | inr other ↦ ap₂ (λ a b. a || b) other (digits-plain digits parts.1)
    ]

pub number_of-plain : (digits : List ℕ) (n : ℕ) → number_of digits ≡ Some n → list_any is_newline digits ≡ false
number_of-plain digits n e =
    let tests = some_when _ _ n e in
    digits-plain digits (and_parts _ _ tests.0).1

-- ---- so many bytes and a newline

pub text_of_length-front : (text rest : List ℕ) → text_of_length (text ++ 10 ∷ rest) (length text) ≡ Some (text, rest)
text_of_length-front text rest =
    let bytes = text ++ 10 ∷ rest in
    let long : length bytes ≡ length text + (1 + length rest) = length-append text (10 ∷ rest) ∙ omega arith in
    let within : nat_lt (length text) (length bytes) ≡ true = lt-ltb _ _ (omega arith) in
    let newline : get_or bytes (length text) 0 ≡ 10 = get_or-seam text rest in
    cond-true _ _ _ (and_from _ _ within (eq-eqb _ _ newline))
    ∙ ap₂ (λ front more. Some (front, more)) (take-append_seam text (10 ∷ rest)) (behind-seam text rest)

pub text_of_length-Some : (bytes : List ℕ) (n : ℕ) (text rest : List ℕ) → text_of_length bytes n ≡ Some (text, rest) → (n ≡ length text) × (bytes ≡ text ++ 10 ∷ rest)
text_of_length-Some bytes n text rest e =
    let tests = some_when _ _ _ e in
    let inside = and_parts (nat_lt n (length bytes)) (get_or bytes n 0 == 10) tests.0 in
    let within = ltb-true n (length bytes) inside.0 in
    let parts = some_pair_parts _ _ _ _ tests.1 in (
      sym (length-take-le n bytes (omega arith)) ∙ ap length parts.0,
      sym (take-append-drop n bytes) ∙ ap (λ more. take n bytes ++ more) (drop_more bytes n 0 within ∙ ap (λ b. b ∷ drop (n + 1) bytes) (eqb-true _ _ inside.1))
          ∙ ap₂ (λ front more. front ++ 10 ∷ more) parts.0 parts.1,
    )

text_of_length-beyond : (bytes : List ℕ) (n : ℕ) → length bytes ≤ n → text_of_length bytes n ≡ None
text_of_length-beyond bytes n past = cond-false _ _ _ (and_left (nat_lt n (length bytes)) _ (le-ltb n (length bytes) past))

-- a number past the bytes may be refused before they are looked at
pub text_of_length-up_to : (bytes digits : List ℕ) (most : ℕ) → length bytes ≤ most → option_and_then (text_of_length bytes) (number_up_to most digits) ≡ option_and_then (text_of_length bytes) (number_of digits)
text_of_length-up_to bytes digits most long = by_number (number_of digits)
  where
    by_number : (o : Option ℕ) → option_and_then (text_of_length bytes) (option_and_then (λ value. if nat_le value most then Some value else None) o) ≡ option_and_then (text_of_length bytes) o
    by_number None = refl
    by_number (Some value) =
        elim (cases_lt most value) [
          | inl past ↦ ap (option_and_then (text_of_length bytes)) (cond-false _ _ _ (lt-leb value most past)) ∙ sym (text_of_length-beyond bytes value (omega arith))
          | inr within ↦ ap (option_and_then (text_of_length bytes)) (cond-true _ _ _ (le-leb value most within))
        ]

-- ---- pieces

-- a piece is read by its line
pub piece_of-front : (letter : ℕ) (line rest : List ℕ) → letter ≢ 10 → list_any is_newline line ≡ false → piece_of letter (letter ∷ 32 ∷ (line ++ 10 ∷ rest)) ≡ option_and_then (text_of_length rest) (number_of line)
piece_of-front letter line rest other none =
    let whole : List ℕ = letter ∷ 32 ∷ line in
    let plain : list_any is_newline whole ≡ false = ap₂ (λ a b. a || b) (ne_eqb letter 10 other) none in
    let starts : starts_with nat_eq (whole ++ 10 ∷ rest) (letter ∷ 32 ∷ []) ≡ true = rw (eq-eqb letter letter refl) refl in
    let has_newline : list_any is_newline (whole ++ 10 ∷ rest) ≡ true = list_any-append is_newline whole (10 ∷ rest) ∙ or_right _ _ refl in
    cond-true _ _ _ (and_from _ _ starts has_newline)
    ∙ ap₂ (λ front more. option_and_then (text_of_length more) (number_of (drop 2 front))) (before_first-front whole rest plain) (after_first-front whole rest plain)

-- a piece that was read, and what follows it
pub record IsPieceRead (letter : ℕ) (bytes text rest : List ℕ) : Type 0 where
  pub digits : List ℕ
  pub number : number_of digits ≡ Some (length text)
  pub whole : bytes ≡ letter ∷ 32 ∷ (digits ++ 10 ∷ (text ++ 10 ∷ rest))

pub piece_of-read : (letter : ℕ) (bytes text rest : List ℕ) → letter ≢ 10 → IsPieceRead letter bytes text rest → piece_of letter bytes ≡ Some (text, rest)
piece_of-read letter bytes text rest other read =
    ap (piece_of letter) read.whole
    ∙ piece_of-front letter read.digits (text ++ 10 ∷ rest) other (number_of-plain read.digits (length text) read.number)
    ∙ ap (option_and_then (text_of_length (text ++ 10 ∷ rest))) read.number ∙ text_of_length-front text rest

read_by_line : (letter : ℕ) (line more text rest : List ℕ) (o : Option ℕ) → number_of line ≡ o → option_and_then (text_of_length more) o ≡ Some (text, rest) → IsPieceRead letter (letter ∷ 32 ∷ (line ++ 10 ∷ more)) text rest
read_by_line letter line more text rest None number e = absurd (none-some _ e)
read_by_line letter line more text rest (Some n) number e =
    let parts = text_of_length-Some more n text rest e in
    record { digits = line; number = number ∙ ap Some parts.0; whole = ap (λ bytes. letter ∷ 32 ∷ (line ++ 10 ∷ bytes)) parts.1 }

pub IsPieceRead-Some : (letter : ℕ) (bytes text rest : List ℕ) → letter ≢ 10 → piece_of letter bytes ≡ Some (text, rest) → IsPieceRead letter bytes text rest
IsPieceRead-Some letter [] text rest other e = absurd (none-some _ e)
IsPieceRead-Some letter (a ∷ []) text rest other e =
    let tests = and_parts _ _ (some_when _ _ _ e).0 in
    let none : starts_with nat_eq (a ∷ []) (letter ∷ 32 ∷ []) ≡ false = and_right (nat_eq letter a) false refl in
    absurd (both_ways _ none tests.0)
IsPieceRead-Some letter (a ∷ b ∷ bytes) text rest other e =
    let tests = and_parts _ _ (some_when _ _ _ e).0 in
    let starts = and_parts (nat_eq letter a) (nat_eq 32 b && true) tests.0 in
    let first : letter ≡ a = eqb-true letter a starts.0 in
    let space : 32 ≡ b = eqb-true 32 b (and_parts (nat_eq 32 b) true starts.1).0 in
    let same : a ∷ b ∷ bytes ≡ letter ∷ 32 ∷ bytes = ap₂ (λ x y. x ∷ y ∷ bytes) (sym first) (sym space) in
    let plain : ((letter == 10) || ((32 == 10) || list_any is_newline bytes)) ≡ list_any is_newline bytes = ap (λ b. b || list_any is_newline bytes) (ne_eqb letter 10 other) in
    let there : list_any is_newline bytes ≡ true = sym plain ∙ sym (ap (list_any is_newline) same) ∙ tests.1 in
    let line = first_line_of bytes there in
    let whole : a ∷ b ∷ bytes ≡ letter ∷ 32 ∷ (line.0 ++ 10 ∷ line.1) = same ∙ ap (λ more. letter ∷ 32 ∷ more) line.3 in
    let read = sym (piece_of-front letter line.0 line.1 other line.2) ∙ sym (ap (piece_of letter) whole) ∙ e in
    subst (λ all. IsPieceRead letter all text rest) (sym whole) (read_by_line letter line.0 line.1 text rest (number_of line.0) refl read)

-- it takes bytes
pub length-piece : (letter : ℕ) (bytes text rest : List ℕ) → IsPieceRead letter bytes text rest → length rest < length bytes
length-piece letter bytes text rest read =
    omega (arith, ap length read.whole, length-append read.digits (10 ∷ (text ++ 10 ∷ rest)), length-append text (10 ∷ rest))

-- a piece, by the cuts that a reader makes
pub piece_of-cut : (letter : ℕ) (bytes more digits rest : List ℕ) (o : Option ℕ) (most : ℕ) → letter ≢ 10 → bytes ≡ letter ∷ 32 ∷ more → list_any is_newline digits ≡ false → more ≡ digits ++ 10 ∷ rest → length rest ≤ most → o ≡ number_up_to most digits → option_and_then (text_of_length rest) o ≡ piece_of letter bytes
piece_of-cut letter bytes more digits rest o most other front plain line long number =
    ap (option_and_then (text_of_length rest)) number ∙ text_of_length-up_to rest digits most long
    ∙ sym (ap (piece_of letter) (front ∙ ap (λ all. letter ∷ 32 ∷ all) line) ∙ piece_of-front letter digits rest other plain)
