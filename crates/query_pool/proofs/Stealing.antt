-- Each event keeps the rule of the deque.
use Rattle.query_pool.proofs.Common.{Bool, true, false, drop, get_or, ◌≡◌, ℕ, zero, suc, ◌+◌, ◌<◌, ◌==◌, All, List, [], ◌∷◌, ◌++◌, length, set, if◌then◌else◌, nat_lt, refl, sym, subst, ap, ◌∙◌, arith, nat_tests, length-append, set-set, All-cons, All-head, All-nil, All-push, All-set, All-tail, All-weaker, filter-append, most_workers, IsInformed, IsShared, LooksEmpty, Puts, Takes, after_split, joined, spent, split_off, tally, times, times_taken, Tally}
use mathlib.Core.Option.{some, some-ne-none, some-injective}
use lib.ListN.{get_elem?}
use Rattle.std.specs.List.{range_with_len, sum_by}
use Rattle.std.proofs.lemmas.List.Sums.{sum_by-cons, sum_by_push}
use Rattle.crossbeam_deque.specs.Tasks.{Finds, Forks, Merges, Pushes, Takes as MayTake}

-- ---- lists of passes

-- the sum after a change of one pass
sum_set : (f : Tally → ℕ) (passes : List Tally) (port : ℕ) (v w : Tally) → get_elem? passes port ≡ some v → sum_by f (set passes port w) + f v ≡ sum_by f passes + f w
sum_set f [] port v w at = absurd (some-ne-none v (sym at))
sum_set f (x ∷ xs) zero v w at =
    let same = some-injective x v at in
    omega (arith, sum_by-cons f x xs, sum_by-cons f w xs, ap f same)
sum_set f (x ∷ xs) (suc port) v w at =
    omega (arith, sum_by-cons f x xs, sum_by-cons f x (set xs port w), sum_set f xs port v w at)

pub All-at : (P : Tally → Type 0) (passes : List Tally) (port : ℕ) (v : Tally) → get_elem? passes port ≡ some v → All P passes → P v
All-at P [] port v at all = absurd (some-ne-none v (sym at))
All-at P (x ∷ xs) zero v at all = subst P (some-injective x v at) (All-head P x xs all)
All-at P (x ∷ xs) (suc port) v at all = All-at P xs port v at (All-tail P x xs all)

abbrev IsIdle : Tally → Type 0
IsIdle pass = (pass.parts ≡ 0) × (pass.taken ≡ [])

abbrev parts_of : List Tally → ℕ
parts_of passes = sum_by (λ pass. pass.parts) passes

no_parts : (puts : ℕ) (passes : List Tally) → parts_of passes ≡ 0 → All (IsInformed puts) passes → All IsIdle passes
no_parts puts [] none all = All-nil IsIdle
no_parts puts (x ∷ xs) none all =
    let sum = sum_by-cons (λ (pass : Tally). pass.parts) x xs in
    let zero : x.parts ≡ 0 = omega (arith, sum, none) in
    All-cons IsIdle x xs (zero, (All-head (IsInformed puts) x xs all).idle zero) (no_parts puts xs (omega (arith, sum, none)) (All-tail (IsInformed puts) x xs all))

-- where one pass has all parts, the others are idle
others_idle : (puts : ℕ) (passes : List Tally) (port : ℕ) (v : Tally) → get_elem? passes port ≡ some v → parts_of passes ≡ v.parts → All (IsInformed puts) passes → All IsIdle (set passes port spent)
others_idle puts passes port v at whole all =
    no_parts puts (set passes port spent) (omega (arith, sum_set (λ pass. pass.parts) passes port v spent at, whole))
    (All-set (IsInformed puts) passes port spent (record { idle = λ _. refl; knows = λ some. absurd (omega (arith, some)) }) all)

none_taken : (place : ℕ) (passes : List Tally) → All IsIdle passes → times_taken place passes ≡ 0
none_taken place [] all = refl
none_taken place (x ∷ xs) all =
    omega (arith, sum_by-cons (λ (pass : Tally). times place pass.taken) x xs, ap (times place) (All-head IsIdle x xs all).1, none_taken place xs (All-tail IsIdle x xs all))

-- ---- lists of places

pub times-append : (place : ℕ) (front back : List ℕ) → times place (front ++ back) ≡ times place front + times place back
times-append place front back = ap length (filter-append (λ (each : ℕ). each == place) front back) ∙ length-append _ _

pub times-one : (place each : ℕ) → times place (each ∷ []) ≡ (if each == place then 1 else 0)
times-one place each = by (each == place)
  where
    by : (here : Bool) → length (if here then each ∷ [] else []) ≡ (if here then 1 else 0)
    by true = refl
    by false = refl

range-more : (first len : ℕ) → range_with_len first len ++ (first + len) ∷ [] ≡ range_with_len first (len + 1)
range-more first zero = ap (λ (n : ℕ). n ∷ []) (omega arith)
range-more first (suc len) =
    ap (λ (n : ℕ). first ∷ range_with_len (first + 1) len ++ n ∷ []) (omega arith)
    ∙ ap (λ (rest : List ℕ). first ∷ rest) (range-more (first + 1) len)
    ∙ ap (range_with_len first) (number (len + 1) (suc len + 1) (omega arith))
  where
    number : (k n : ℕ) → suc k ≡ n → suc k ≡ n
    number k n same = same

-- ---- events

module _ (port : ℕ) (v : Tally) where
  pub puts : (place : ℕ) → v.parts ≡ most_workers → place ≡ v.puts → Pushes IsShared port v (place ∷ []) (Puts v (place ∷ []))
  puts place all next left passes rule at =
      let w = tally v.parts (v.puts + 1) v.taken in
      let mine = All-at (IsInformed (rule.first + length left)) passes port v at rule.informed in
      let known : v.puts ≡ rule.first + length left = mine.knows (omega (arith, all)) in
      let more = length-append left (place ∷ []) in
      let put : rule.first + length (left ++ place ∷ []) ≡ v.puts + 1 = omega (arith, more, known) in
      let others = others_idle (rule.first + length left) passes port v at (rule.parts ∙ sym all) rule.informed in
      let I = IsInformed (rule.first + length (left ++ place ∷ [])) in (
        w,
        record {
          first = rule.first;
          in_order = ap (λ (xs : List ℕ). xs ++ place ∷ []) rule.in_order
              ∙ ap (λ (n : ℕ). range_with_len rule.first (length left) ++ n ∷ []) (next ∙ known)
              ∙ range-more rule.first (length left)
              ∙ ap (range_with_len rule.first) (sym more);
          once_below = λ k. omega (arith, sum_set (λ pass. times k pass.taken) passes port v w at, rule.once_below k);
          parts = omega (arith, sum_set (λ pass. pass.parts) passes port v w at, rule.parts);
          informed = subst (All I) (set-set passes port spent w)
              (All-set I (set passes port spent) port w (record { idle = λ none. absurd (omega (arith, none, all)); knows = λ _. sym put })
              (All-weaker IsIdle I (λ pass idle. record { idle = λ _. idle.1; knows = λ some. absurd (omega (arith, idle.0, some)) }) (set passes port spent) others));
        },
        refl,
      )

  pub takes : 0 < v.parts → MayTake IsShared port v 1 (Takes v)
  takes part [] left passes more most rule at = absurd (omega (arith, more))
  takes part (place ∷ other ∷ rest) left passes more most rule at = absurd (omega (arith, most))
  takes part (place ∷ []) left passes more most rule at =
      let w = tally v.parts v.puts (v.taken ++ place ∷ []) in
      let mine = All-at (IsInformed (rule.first + length (place ∷ left))) passes port v at rule.informed in
      let known = mine.knows part in
      let front : place ≡ rule.first = ap (λ (xs : List ℕ). get_or xs 0 place) rule.in_order in
      let next : rule.first + length (place ∷ left) ≡ rule.first + 1 + length left = omega arith in (
        w,
        record {
          first = rule.first + 1;
          in_order = ap (λ (xs : List ℕ). drop 1 xs) rule.in_order;
          once_below = λ k.
              let changed = sum_set (λ pass. times k pass.taken) passes port v w at in
              let whole = times-append k v.taken (place ∷ []) in
              let one = times-one k place in
              let old = rule.once_below k in
              grind (arith, nat_tests, changed, whole, one, old, front);
          parts = omega (arith, sum_set (λ pass. pass.parts) passes port v w at, rule.parts);
          informed = All-set (IsInformed (rule.first + 1 + length left)) passes port w (record { idle = λ none. absurd (omega (arith, none, part)); knows = λ _. known ∙ next })
              (subst (λ n. All (IsInformed n) passes) next rule.informed);
        },
        record {
          were_put = All-cons (λ k. k < v.puts) place [] (omega (arith, front, known, next)) (All-nil (λ k. k < v.puts));
          after_is = refl;
        },
      )

  pub looks : Finds IsShared port v (LooksEmpty v)
  looks passes rule at all k =
      let mine = All-at (IsInformed (rule.first + 0)) passes port v at rule.informed in
      let known : v.puts ≡ rule.first + 0 = mine.knows (omega (arith, all)) in
      let others = others_idle (rule.first + 0) passes port v at (rule.parts ∙ sym all) rule.informed in
      let none = none_taken k (set passes port spent) others in
      let changed = sum_set (λ pass. times k pass.taken) passes port v spent at in
      let old = rule.once_below k in
      let first : rule.first ≡ v.puts = omega (arith, known) in
      subst (λ n. times k v.taken ≡ (if nat_lt k n then 1 else 0)) first (omega (arith, none, changed) ∙ old)

  pub splits : 1 < v.parts → Forks IsShared port v (after_split v) (split_off v)
  splits two left passes rule at =
      let w = after_split v in
      let n = rule.first + length left in
      let mine = All-at (IsInformed n) passes port v at rule.informed in
      let known = mine.knows (omega (arith, two)) in
      record {
        first = rule.first;
        in_order = rule.in_order;
        once_below = λ k.
            let f : Tally → ℕ = λ pass. times k pass.taken in
            omega (arith, sum_set f passes port v w at, sum_by_push f (set passes port w) (split_off v), rule.once_below k);
        parts =
            let f : Tally → ℕ = λ pass. pass.parts in
            omega (arith, sum_set f passes port v w at, sum_by_push f (set passes port w) (split_off v), rule.parts, two);
        informed = All-push (IsInformed n) (set passes port w) (split_off v)
            (All-set (IsInformed n) passes port w (record { idle = λ none. absurd (omega (arith, none, two)); knows = λ _. known }) rule.informed)
            (record { idle = λ _. refl; knows = λ _. known });
      }

  pub joins : (other : ℕ) (u : Tally) → 0 < v.parts → Merges IsShared port v other u (joined v u) spent
  joins other u part left passes rule at apart there =
      let w = joined v u in
      let n = rule.first + length left in
      let mine = All-at (IsInformed n) passes port v at rule.informed in
      let known = mine.knows part in
      record {
        first = rule.first;
        in_order = rule.in_order;
        once_below = λ k.
            let f : Tally → ℕ = λ pass. times k pass.taken in
            omega (arith, sum_set f passes port v w at, sum_set f (set passes port w) other u spent there, times-append k v.taken u.taken, rule.once_below k);
        parts =
            let f : Tally → ℕ = λ pass. pass.parts in
            omega (arith, sum_set f passes port v w at, sum_set f (set passes port w) other u spent there, rule.parts);
        informed = All-set (IsInformed n) (set passes port w) other spent (record { idle = λ _. refl; knows = λ more. absurd (omega (arith, more)) })
            (All-set (IsInformed n) passes port w (record { idle = λ none. absurd (omega (arith, none, part)); knows = λ _. known }) rule.informed);
      }

-- the rule holds where no place was put
pub begins : IsShared [] (tally most_workers 0 [] ∷ [])
begins = record {
  first = 0;
  in_order = refl;
  once_below = λ k. grind (arith, nat_tests);
  parts = refl;
  informed = All-cons (IsInformed 0) (tally most_workers 0 []) [] (record { idle = λ none. refl; knows = λ _. refl }) (All-nil (IsInformed 0));
}
