-- Printed rangelists, as they are read again.
use Rattle.merge_info.proofs.Common.{◌≡◌, ◌≢◌, ℕ, ◌<◌, ◌≤◌, ◌==◌, Bool, false, List, [], ◌∷◌, ◌++◌, length, get_or, map, All, decimal, inl, inr, refl, sym, ap, ◌∙◌, arith, cases_Bool, eqb-false, eqb-true, lt-ltb, ne_eqb, or_from, common_steps, append_assoc, All-head, All-map, list_any_none, Lacks, IsRun, Run, element_of, is_dash, run_of, elements_of, is_blank, without_blanks}
use Rattle.std.specs.Prelude.{Some}
use Rattle.std.proofs.lemmas.Fmt.{decimal_nonempty}
use Rattle.std.proofs.lemmas.List.{append-nil}
use Rattle.svn_text.specs.Number.{is_digit}
use Rattle.svn_text.specs.Number.{greatest_revision}
use Rattle.range_list.specs.Text.{range_text, rangelist_text, run_text}
use Rattle.merge_info.proofs.Decimals.{Lacks-decimal, revision_of-decimal}
use Rattle.merge_info.proofs.Elements.{element_of-no_star, elements_of-some}
use Rattle.merge_info.proofs.JoinedBytes.{Lacks-append, Lacks-cons, Lacks-join, Lacks-nil, after_first-whole, all_of-map}
use Rattle.merge_info.proofs.JoinedBytes.{before_first-whole, length-join, list_any-whole, slice_split-join}

-- ---- the bytes of a printed rangelist

-- the byte is no digit, no dash and no star
abbrev pub IsOther : ℕ → Type 0
IsOther byte = (is_digit byte ≡ false) × ((45 == byte) ≡ false) × ((42 == byte) ≡ false)

Lacks-range_text : (byte : ℕ) (run : Run) → is_digit byte ≡ false → (45 == byte) ≡ false → IsRun run
    → Lacks byte (range_text run)
Lacks-range_text byte run no_digit no_dash is_run =
    let lo = Lacks-decimal byte run.lo no_digit (omega (arith, is_run.ordered, is_run.last)) in
    let hi = Lacks-decimal byte run.hi no_digit (omega (arith, is_run.last)) in
    let lo_dash = Lacks-append byte (decimal run.lo) (45 ∷ []) lo (Lacks-cons byte 45 [] no_dash (Lacks-nil byte)) in
    elim (cases_Bool (run.lo == run.hi)) [
      | inl single ↦ rw single lo
      | inr more ↦ rw more (Lacks-append byte (decimal run.lo ++ 45 ∷ []) (decimal run.hi) lo_dash hi)
    ]

Lacks-run_text : (byte : ℕ) (run : Run) → IsOther byte → IsRun run → Lacks byte (run_text run)
Lacks-run_text byte run other is_run =
    let text = Lacks-range_text byte run other.0 other.1 is_run in
    elim (cases_Bool run.inheritable) [
      | inl inherits ↦ rw (inherits, append-nil) text
      | inr starred ↦
          rw starred
          (Lacks-append byte (range_text run) (42 ∷ []) text (Lacks-cons byte 42 [] other.2 (Lacks-nil byte)))
    ]

AllLack-runs : (byte : ℕ) (runs : List Run) → IsOther byte → All IsRun runs → All (Lacks byte) (map run_text runs)
AllLack-runs byte runs other are_runs =
    All-map (Lacks byte) run_text runs (λ k d below. Lacks-run_text byte (get_or runs k d) other (are_runs k d below))

-- a printed rangelist lacks every byte that is none of these and no comma
pub Lacks-rangelist_text : (byte : ℕ) (runs : List Run) → IsOther byte → (44 == byte) ≡ false → All IsRun runs
    → Lacks byte (rangelist_text runs)
Lacks-rangelist_text byte runs other no_comma are_runs =
    Lacks-join byte 44 (map run_text runs) no_comma (AllLack-runs byte runs other are_runs)

length-run_text : (run : Run) → IsRun run → 0 < length (run_text run)
length-run_text run is_run =
    let some = decimal_nonempty run.lo (omega (arith, is_run.ordered, is_run.last)) in
    grind (arith, common_steps)

-- ---- one run

-- one number
run_of-decimal : (inheritable : Bool) (n : ℕ) → 1 ≤ n → n ≤ greatest_revision
    → run_of inheritable (decimal n) ≡ Some (record { lo = n; hi = n; inheritable = inheritable })
run_of-decimal inheritable n first last =
    rw (
      list_any_none is_dash (decimal n) (Lacks-decimal 45 n refl (omega arith)),
      revision_of-decimal n first last,
    ) refl

-- two numbers round a dash
run_of-range : (inheritable : Bool) (lo hi : ℕ) → 1 ≤ lo → lo < hi → hi ≤ greatest_revision
    → run_of inheritable (decimal lo ++ 45 ∷ [] ++ decimal hi)
    ≡ Some (record { lo = lo; hi = hi; inheritable = inheritable })
run_of-range inheritable lo hi first ordered last =
    let front = decimal lo in
    let back = decimal hi in
    let none = Lacks-decimal 45 lo refl (omega arith) in
    rw (
      append_assoc front (45 ∷ []) back,
      list_any-whole 45 front back,
      before_first-whole 45 front back none,
      after_first-whole 45 front back none,
      revision_of-decimal lo first (omega arith),
      revision_of-decimal hi (omega arith) last,
      lt-ltb lo hi ordered,
    ) refl

run_of-range_text : (run : Run) → IsRun run → run_of run.inheritable (range_text run) ≡ Some run
run_of-range_text run is_run = elim (cases_Bool (run.lo == run.hi)) [
  | inl single ↦
      rw single (run_of-decimal run.inheritable run.lo is_run.first (omega (arith, is_run.ordered, is_run.last)))
      ∙ ap (λ (hi : ℕ). let each : Run = record run { hi = hi } in Some each) (eqb-true run.lo run.hi single)
  | inr more ↦
      let differ = eqb-false run.lo run.hi more in
      rw more (run_of-range run.inheritable run.lo run.hi is_run.first (omega (arith, is_run.ordered)) is_run.last)
]

-- a star follows
element_of-append_star : (bytes : List ℕ) → Lacks 42 bytes → element_of (bytes ++ 42 ∷ []) ≡ run_of false bytes
unfolding element_of
element_of-append_star bytes none =
    rw (list_any-whole 42 bytes [], after_first-whole 42 bytes [] none, before_first-whole 42 bytes [] none) refl

-- a printed run is read as the run
element_of-run_text : (run : Run) → IsRun run → element_of (run_text run) ≡ Some run
element_of-run_text run is_run =
    let text = range_text run in
    let none = Lacks-range_text 42 run refl refl is_run in
    let read = run_of-range_text run is_run in
    let plain = element_of-no_star text none in
    let starred = element_of-append_star text none in
    grind (arith, common_steps)

-- ---- a rangelist

-- a printed rangelist is read as its runs
pub elements_of-rangelist_text : (runs : List Run) → runs ≢ [] → All IsRun runs
    → elements_of (rangelist_text runs) ≡ Some runs
elements_of-rangelist_text [] some are_runs = absurd (some refl)
elements_of-rangelist_text (run ∷ runs) some are_runs =
    let first = length-run_text run (All-head IsRun run runs are_runs) in
    let none = AllLack-runs 44 (run ∷ runs) (refl, refl, refl) are_runs in
    let some_bytes = length-join 44 (run_text run) (map run_text runs) first in
    rw (
      elements_of-some (rangelist_text (run ∷ runs)) (sym (ne_eqb _ 0 (λ empty. omega arith))),
      slice_split-join 44 (run_text run) (map run_text runs) none,
    )
    (all_of-map element_of run_text (run ∷ runs)
    (λ k d below. element_of-run_text (get_or (run ∷ runs) k d) (are_runs k d below)))

-- bytes without any blank begin with none
without_blanks-none : (bytes : List ℕ) → All (λ byte. is_blank byte ≡ false) bytes → without_blanks bytes ≡ bytes
without_blanks-none [] none = refl
without_blanks-none (byte ∷ bytes) none = rw (none 0 byte (omega arith)) refl

pub without_blanks-rangelist_text : (runs : List Run) → All IsRun runs
    → without_blanks (rangelist_text runs) ≡ rangelist_text runs
without_blanks-rangelist_text runs are_runs =
    let no_space = Lacks-rangelist_text 32 runs (refl, refl, refl) refl are_runs in
    let no_tab = Lacks-rangelist_text 9 runs (refl, refl, refl) refl are_runs in
    without_blanks-none (rangelist_text runs) (λ k d below. or_from _ _ (no_space k d below) (no_tab k d below))
