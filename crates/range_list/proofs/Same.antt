-- Lists of runs that have the same numbers.
use Rattle.std.proofs.Common.{◌≡◌, ℕ, ◌<◌, ◌≤◌, Bool, true, false, ◌&&◌, ◌||◌, List, ◌++◌, refl, sym, ap, ◌∙◌}
use Rattle.std.proofs.lemmas.Bool.{le-leb, lt-leb, and_left, and_right, and_from}
use Rattle.std.proofs.lemmas.List.Folds.{list_any-append}
use Rattle.std.proofs.lemmas.List.Sorted.{list_any-IsPermutation}
use Rattle.std.specs.List.Sorted.{IsPermutation}
use Rattle.range_list.specs.Rangelist.{covers, is_in, is_inheritable, HasSameNumbers}
use Rattle.range_list.specs.declared.run.Run.{Run}

abbrev pub covers_inheritably : ℕ → Run → Bool
covers_inheritably n run = run.inheritable && covers run n

-- ---- tests

-- what is left of a test where its first part holds, and where it fails
pub and_or : (b c d : Bool) → c ≡ true → d ≡ false → ((b && c) || d) ≡ b
and_or true c d holds fails = ap (λ x. x || d) holds
and_or false c d holds fails = fails

pub and_or_false : (b c d : Bool) → c ≡ false → ((b && c) || d) ≡ d
and_or_false true c d fails = ap (λ x. x || d) fails
and_or_false false c d fails = refl

-- ---- one run

pub covers-below : (run : Run) (n : ℕ) → n < run.lo → covers run n ≡ false
covers-below run n below = and_left _ _ (lt-leb run.lo n below)

pub covers-above : (run : Run) (n : ℕ) → run.hi < n → covers run n ≡ false
covers-above run n above = and_right _ _ (lt-leb n run.hi above)

pub covers-within : (run : Run) (n : ℕ) → run.lo ≤ n → n ≤ run.hi → covers run n ≡ true
covers-within run n from to = and_from _ _ (le-leb run.lo n from) (le-leb n run.hi to)

-- ---- lists

pub is_in-append : (a b : List Run) (n : ℕ) → is_in (a ++ b) n ≡ (is_in a n || is_in b n)
is_in-append a b n = list_any-append (λ run. covers run n) a b

pub is_inheritable-append : (a b : List Run) (n : ℕ) → is_inheritable (a ++ b) n ≡ (is_inheritable a n || is_inheritable b n)
is_inheritable-append a b n = list_any-append (covers_inheritably n) a b

-- ---- the same numbers

pub HasSameNumbers-refl : (a : List Run) → HasSameNumbers a a
HasSameNumbers-refl a n = (refl, refl)

pub HasSameNumbers-sym : (a b : List Run) → HasSameNumbers a b → HasSameNumbers b a
HasSameNumbers-sym a b same n = (sym (same n).0, sym (same n).1)

pub HasSameNumbers-trans : (a b c : List Run) → HasSameNumbers a b → HasSameNumbers b c → HasSameNumbers a c
HasSameNumbers-trans a b c first second n = ((first n).0 ∙ (second n).0, (first n).1 ∙ (second n).1)

pub HasSameNumbers-permutation : (a b : List Run) → IsPermutation a b → HasSameNumbers a b
HasSameNumbers-permutation a b moved n = (list_any-IsPermutation (λ run. covers run n) a b moved, list_any-IsPermutation (covers_inheritably n) a b moved)

pub HasSameNumbers-append : (a b c d : List Run) → HasSameNumbers a b → HasSameNumbers c d → HasSameNumbers (a ++ c) (b ++ d)
HasSameNumbers-append a b c d front back n = (
  is_in-append a c n ∙ ap (λ x. x || is_in c n) (front n).0 ∙ ap (λ y. is_in b n || y) (back n).0 ∙ sym (is_in-append b d n),
  is_inheritable-append a c n ∙ ap (λ x. x || is_inheritable c n) (front n).1 ∙ ap (λ y. is_inheritable b n || y) (back n).1 ∙ sym (is_inheritable-append b d n),
)
