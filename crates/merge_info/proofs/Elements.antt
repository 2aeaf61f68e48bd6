-- The elements of a rangelist, from where their bytes were cut, and the blanks before them.
use Rattle.merge_info.proofs.Common.{◌≡◌, ℕ, ◌<◌, ◌≤◌, ◌==◌, nat_lt, unwrap_or, not, ◌&&◌, Bool, true, false, List, [], ◌∷◌, Option, Some, None, length, map, refl, sym, arith, option_map, position_or_len, prefix_len, slice_split, cond-false, eqb-true, false≢true, nat_tests, is_not_empty, IsCutAt, Lacks, list_any-Lacks, Run, element_of, revision_of, run_of, all_of, elements_of, is_blank, is_comma}
use Rattle.std.proofs.Common.{if◌then◌else◌}
use Rattle.std.proofs.lemmas.List.Sums.{prefix_len-le-length}

-- the run of one number
abbrev pub run_at : Bool → ℕ → Run
run_at inheritable number = record { lo = number; hi = number; inheritable = inheritable }

-- bytes without `-`
pub run_of-single : (inheritable : Bool) (bytes : List ℕ) → Lacks 45 bytes → run_of inheritable bytes ≡ option_map (run_at inheritable) (revision_of bytes)
run_of-single inheritable bytes lacks = cond-false _ _ _ (list_any-Lacks 45 bytes lacks)

-- bytes without `*`
pub element_of-no_star : (bytes : List ℕ) → Lacks 42 bytes → element_of bytes ≡ run_of true bytes
unfolding element_of
element_of-no_star bytes lacks = cond-false _ _ _ (list_any-Lacks 42 bytes lacks)

-- a length below 1
is_not_empty-none : (bytes : List ℕ) → length bytes < 1 → is_not_empty bytes ≡ false
is_not_empty-none [] none = refl
is_not_empty-none (byte ∷ bytes) none = absurd (omega arith)

-- a length of at least 1
pub is_not_empty-some : (bytes : List ℕ) → 1 ≤ length bytes → is_not_empty bytes ≡ true
is_not_empty-some [] some = absurd (omega arith)
is_not_empty-some (byte ∷ bytes) some = refl

-- `*` at the end
pub element_of-star : (bytes range rest : List ℕ) → IsCutAt 42 bytes range rest → length rest < 1 → element_of bytes ≡ run_of false range
unfolding element_of
element_of-star bytes range rest cut none =
    rw (cut.there, ← cut.after, is_not_empty-none rest none, ← cut.before) refl

-- `*` before the end
pub element_of-more : (bytes range rest : List ℕ) → IsCutAt 42 bytes range rest → 1 ≤ length rest → element_of bytes ≡ None
unfolding element_of
element_of-more bytes range rest cut some =
    rw (cut.there, ← cut.after, is_not_empty-some rest some) refl

-- ---- rangelists

-- an empty one
pub elements_of-none : (bytes : List ℕ) → true ≡ (length bytes == 0) → elements_of bytes ≡ Some []
unfolding elements_of
elements_of-none [] none = refl
elements_of-none (byte ∷ bytes) none = absurd (omega (arith, eqb-true (length (byte ∷ bytes)) 0 (sym none)))

-- any other is cut at the commas
pub elements_of-some : (bytes : List ℕ) → false ≡ (length bytes == 0) → elements_of bytes ≡ all_of (map element_of (slice_split is_comma bytes))
unfolding elements_of
elements_of-some [] some = absurd (false≢true some)
elements_of-some (byte ∷ bytes) some = refl

-- ---- blanks

-- what a search for the end of the blanks tests
abbrev pub is_no_blank : ℕ → Bool
is_no_blank byte = not (byte == 32) && not (byte == 9)

-- the first byte that is no blank
position_or_len-blanks : (bytes : List ℕ) → position_or_len is_no_blank bytes ≡ prefix_len is_blank bytes
position_or_len-blanks [] = refl
position_or_len-blanks (byte ∷ bytes) = let rest = position_or_len-blanks bytes in grind arith

-- what such a search finds, or else the end
pub prefix_len-found : (bytes : List ℕ) (found : Option ℕ) → found ≡ (if nat_lt (position_or_len is_no_blank bytes) (length bytes) then Some (position_or_len is_no_blank bytes) else None) → unwrap_or found (length bytes) ≡ prefix_len is_blank bytes
prefix_len-found bytes found at =
    let end : position_or_len is_no_blank bytes ≤ length bytes =
    prefix_len-le-length (λ byte. not (is_no_blank byte)) bytes in
    let same = position_or_len-blanks bytes in
    grind (arith, nat_tests)
