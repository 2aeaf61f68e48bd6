-- Bytes that are read ahead of an input, and the lines that they begin with.
use Rattle.live_history.proofs.Common.{◌≡◌, ℕ, ◌+◌, ◌-◌, ◌≤◌, ◌==◌, false, true, inl, inr, List, [], ◌∷◌, ◌++◌, None, Option, Some, length, get_or, take, drop, sym, ap, subst, ◌∙◌, refl, append_assoc, arith, length-append, length-drop, take-append-drop, take_all, Consumes, Keeps, prepend_known, Bool, if◌then◌else◌, Consumes-kept, Consumes-trans, drop-take, length-take-le, take-append-le, take-take, All-append, All-drop, All-get_or, All-nil, IsCutAt, Lacks, line_text, most_bytes, AreNear, HasLine}
use Rattle.std.proofs.lemmas.Bool.{cases_lt}
use Rattle.std.proofs.Math.ListN.{get_or-append}
use Rattle.std.proofs.Math.Seq.{get_or-append_seam, take-append_seam}
use Rattle.svn_text.proofs.Cuts.{CutsFirst, CutsFirst-IsCutAt, slice_split-cut}

-- ---- what is to come

-- bytes that were read ahead are the first ones to come
pub Consumes-unread : (unread : List ℕ) (left : Option (List ℕ)) → Consumes (prepend_known unread left) left unread
Consumes-unread unread None = tt
Consumes-unread unread (Some bytes) = refl

pub Consumes-unread-kept : (unread : List ℕ) (left after : Option (List ℕ)) → Keeps left after → Consumes (prepend_known unread left) after unread
Consumes-unread-kept unread left after kept = Consumes-kept (prepend_known unread left) left after unread (Consumes-unread unread left) kept

pub Consumes-unread-more : (unread given : List ℕ) (left after : Option (List ℕ)) → Consumes left after given → Consumes (prepend_known unread left) after (unread ++ given)
Consumes-unread-more unread given left after more = Consumes-trans (prepend_known unread left) left after unread given (Consumes-unread unread left) more

-- bytes that are read come to them
pub Consumes-ahead : (unread given : List ℕ) (left after : Option (List ℕ)) → Consumes left after given → Consumes (prepend_known unread left) (prepend_known (unread ++ given) after) []
Consumes-ahead unread given None after is = tt
Consumes-ahead unread given (Some bytes) None is = absurd is
Consumes-ahead unread given (Some bytes) (Some rest) is = ap (λ more. unread ++ more) is ∙ sym (append_assoc unread given rest)

-- some of them are taken
pub Consumes-taken : (unread taken rest : List ℕ) (left : Option (List ℕ)) → unread ≡ taken ++ rest → Consumes (prepend_known unread left) (prepend_known rest left) taken
Consumes-taken unread taken rest None whole = tt
Consumes-taken unread taken rest (Some bytes) whole = ap (λ front. front ++ bytes) whole ∙ append_assoc taken rest bytes

-- a call is counted once
pub one_at_most : (is : Bool) → (if is then 1 else 0) ≤ 1
one_at_most true = omega arith
one_at_most false = omega arith

-- ---- lines

-- all bytes from a place on
pub drop-whole : (searched : ℕ) (bytes : List ℕ) → take (length bytes - searched) (drop searched bytes) ≡ drop searched bytes
drop-whole searched bytes = take_all (length bytes - searched) (drop searched bytes) (omega (arith, length-drop searched bytes))

-- what is known of the first bytes is known of those that are left of them
pub Lacks-left : (bytes : List ℕ) (searched count : ℕ) → Lacks 10 (take searched bytes) → Lacks 10 (take (searched - count) (drop count bytes))
Lacks-left bytes searched count none = elim (cases_lt count searched) [
  | inl less ↦
      let whole : count + (searched - count) ≡ searched = omega (arith, less) in
      subst (Lacks 10) (drop-take count (searched - count) bytes)
      (All-drop (λ each. (each == 10) ≡ false) count (take (count + (searched - count)) bytes) (subst (λ n. Lacks 10 (take n bytes)) (sym whole) none))
  | inr all ↦
      let nothing : searched - count ≡ 0 = omega (arith, all) in
      subst (λ n. Lacks 10 (take n (drop count bytes))) (sym nothing) (All-nil (λ each. (each == 10) ≡ false))
]

-- first bytes that were searched, and the others
pub Lacks-both : (bytes : List ℕ) (searched : ℕ) → Lacks 10 (take searched bytes) → Lacks 10 (drop searched bytes) → Lacks 10 bytes
Lacks-both bytes searched front back =
    subst (Lacks 10) (take-append-drop searched bytes) (All-append (λ each. (each == 10) ≡ false) (take searched bytes) (drop searched bytes) front back)

pub HasLine-found : (bytes : List ℕ) (searched : ℕ) (front back : List ℕ) → searched ≤ length bytes → Lacks 10 (take searched bytes) → IsCutAt 10 (drop searched bytes) front back → HasLine bytes (searched + length front)
HasLine-found bytes searched front back within none found =
    let cut = CutsFirst-IsCutAt 10 (drop searched bytes) front back found in
    let before = take searched bytes in
    record {
      line = before ++ front;
      rest = back;
      whole = sym (take-append-drop searched bytes) ∙ ap (λ more. before ++ more) cut.whole ∙ sym (append_assoc before front (10 ∷ back)) ∙ sym (append_assoc (before ++ front) (10 ∷ []) back);
      first = All-append (λ each. (each == 10) ≡ false) before front none cut.first;
      len_is = omega (arith, length-append before front, length-take-le searched bytes within);
    }

-- bytes without a newline end before the first one
Lacks-before : (front back line rest : List ℕ) → Lacks 10 front → front ++ back ≡ line_text line ++ rest → length front ≤ length line
Lacks-before front back line rest none same = elim (cases_lt (length line) (length front)) [
  | inl less ↦
      let at : get_or front (length line) 0 ≡ 10 =
      sym (get_or-append front back 0 (length line) less)
      ∙ ap (λ bytes. get_or bytes (length line) 0) (same ∙ append_assoc line (10 ∷ []) rest)
      ∙ get_or-append_seam line 10 rest 0 in
      let never : true ≡ false = subst (λ each. (each == 10) ≡ false) at (All-get_or (λ each. (each == 10) ≡ false) front (length line) 0 less none) in
      cc
  | inr all ↦ all
]

-- what follows the first line is near
pub AreNear-line : (bytes line rest : List ℕ) → AreNear bytes → bytes ≡ line_text line ++ rest → Lacks 10 line → length rest ≤ most_bytes
AreNear-line bytes line rest near whole first =
    let before = Lacks-before near.front near.back line rest near.first (sym near.whole ∙ whole) in
    omega (arith, before, near.near, ap length near.whole, ap length whole, length-append near.front near.back, length-append (line_text line) rest, length-append line (10 ∷ []))

pub AreNear-searched : (bytes : List ℕ) (searched : ℕ) → searched ≤ length bytes → Lacks 10 (take searched bytes) → length bytes ≤ searched + most_bytes → AreNear bytes
AreNear-searched bytes searched within none near = record {
  front = take searched bytes;
  back = drop searched bytes;
  whole = sym (take-append-drop searched bytes);
  first = none;
  near = omega (arith, near, length-drop searched bytes);
}

-- the first line is one alone
pub first_line-one : (bytes line rest other more : List ℕ) → bytes ≡ line_text line ++ rest → Lacks 10 line → bytes ≡ line_text other ++ more → Lacks 10 other → line ≡ other
first_line-one bytes line rest other more one first two second =
    let cut : CutsFirst 10 bytes line rest = record { whole = one ∙ append_assoc line (10 ∷ []) rest; first = first } in
    let same : CutsFirst 10 bytes other more = record { whole = two ∙ append_assoc other (10 ∷ []) more; first = second } in
    ap (λ lines. get_or lines 0 []) (sym (slice_split-cut 10 bytes line rest cut) ∙ slice_split-cut 10 bytes other more same)

-- the bytes that were given stand at the front of a piece
pub Consumes-piece : (old new : Option (List ℕ)) (count len : ℕ) (given rest : List ℕ) → count ≤ length given → count ≤ len
    → Consumes old new (take count given) → Consumes old new (take count (take len (given ++ rest)))
Consumes-piece old new count len given rest within inside is =
    rw (take-take count len (given ++ rest) inside, take-append-le count given rest within) is

-- the line that bytes begin with
pub HasLine-take : (bytes : List ℕ) (len : ℕ) (has : HasLine bytes len) → take len bytes ≡ has.line
HasLine-take bytes len has =
    ap (λ n. take n bytes) (sym has.len_is) ∙ ap (take (length has.line)) (has.whole ∙ append_assoc has.line (10 ∷ []) has.rest) ∙ take-append_seam has.line (10 ∷ has.rest)

-- and with its newline
pub HasLine-taken : (bytes : List ℕ) (len : ℕ) (has : HasLine bytes len) → take (len + 1) bytes ≡ line_text has.line
HasLine-taken bytes len has =
    let long : len + 1 ≡ length (line_text has.line) = omega (arith, has.len_is, length-append has.line (10 ∷ [])) in
    ap (λ n. take n bytes) long ∙ ap (take (length (line_text has.line))) has.whole ∙ take-append_seam (line_text has.line) has.rest

-- what is left after it
pub near-left : (bytes left : List ℕ) (len : ℕ) → HasLine bytes len → AreNear bytes → left ≡ drop (len + 1) bytes → length left ≤ most_bytes
near-left bytes left len has near left_is =
    let whole = ap length has.whole in
    omega (arith, AreNear-line bytes has.line has.rest near has.whole has.first, ap length left_is, length-drop (len + 1) bytes, whole, has.len_is, length-append (line_text has.line) has.rest, length-append has.line (10 ∷ []))
