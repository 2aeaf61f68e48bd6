-- The lives of a path share no revision, and together are the revisions in which it is there.
use Rattle.std.proofs.Common.{◌≡◌, ◌∙◌, ℕ, zero, suc, ◌+◌, ◌-◌, ◌<◌, ◌≤◌, ◌==◌, ◌&&◌, ◌||◌, pred, Bool, true, false, inl, inr, All, AllPairs, IfSome, Option, None, Some, List, arith, ap, refl, sym, subst, bytes_eq, eqb-true, if◌then◌else◌, is_some, le-leb, nat_le}
use Rattle.std.proofs.Math.Bool.{or-true}
use Rattle.std.proofs.lemmas.Bool.{and_from, and_parts, both_ways, cases_Bool, cases_lt, leb-true, lt-leb}
use Rattle.std.proofs.lemmas.List.Elements.{All-cons, All-nil}
use Rattle.std.proofs.lemmas.List.Folds.{list_any_none}
use Rattle.std.proofs.lemmas.List.Kept.{AllPairs-cons}
use Rattle.std.specs.List.{cons_option, list_any}
use Rattle.svn_path.proofs.Belows.{same_path-is}
use Rattle.svn_path.specs.Below.{same_path}
use Rattle.svn_dump.proofs.Origins.{OriginsAreThere, OriginsAreThere-trees_of}
use Rattle.svn_dump.specs.Dump.{DumpValue, history_in_bytes}
use Rattle.svn_dump.specs.Location.{origin_of}
use Rattle.svn_dump.specs.Tree.{Entry, entry_at, is_there, tree_of}
use Rattle.path_index.specs.Operative.{came_from_itself}
use Rattle.query_answer.proofs.StandingsInBytes.{IsSame-bytes_eq}
use Rattle.query_answer.specs.Answer.{TreesOfBytes}
use Rattle.query_answer.specs.Repo.{trees_in_bytes}
unfoldable use Rattle.branch_answer.specs.Life.{last_from}
use Rattle.branch_answer.specs.Life.{Life, PathOfBytes, life_at, life_from, lives_of, lives_on}
use Rattle.branch_answer.specs.LivesLaw.{AreLives, HaveLives, has_revision}
use Rattle.branch_answer.proofs.Begun.{found_below, found_below-one, life_at-absent, life_at-begins, life_at-on, lives_of-found}
use Rattle.branch_answer.proofs.Revisions.{lives_on-absent}

-- ---- what is found below a bound

module _ {X : Type 0} (f : ℕ → Option X) where
  All-found_below : (P : X → Type 0) (bound : ℕ) → ((rev : ℕ) → rev < bound → IfSome (f rev) P) → All P (found_below f bound)
  All-found_below P zero each = All-nil P
  All-found_below P (suc bound) each = by (f bound) (each bound (omega arith)) (All-found_below P bound (λ rev below. each rev (omega (arith, below))))
    where
      by : (found : Option X) → IfSome found P → All P (found_below f bound) → All P (cons_option found (found_below f bound))
      by None here more = more
      by (Some x) here more = All-cons P x (found_below f bound) here more

  AllPairs-found_below : (R : X → X → Type 0) (bound : ℕ)
      → ((newer older : ℕ) → older < newer → IfSome (f newer) (λ x. IfSome (f older) (R x))) → AllPairs R (found_below f bound)
  AllPairs-found_below R zero each = λ i j d ordered within. absurd (omega (arith, within))
  AllPairs-found_below R (suc bound) each = by (f bound) refl (AllPairs-found_below R bound each)
    where
      by : (found : Option X) → f bound ≡ found → AllPairs R (found_below f bound) → AllPairs R (cons_option found (found_below f bound))
      by None is more = more
      by (Some x) is more =
          AllPairs-cons R x (found_below f bound)
          (All-found_below (R x) bound (λ rev below. subst (λ one. IfSome one (λ y. IfSome (f rev) (R y))) is (each bound rev below))) more

  list_any-found_below : (test : X → Bool) (rev n : ℕ) (x : X) → f rev ≡ Some x → test x ≡ true → list_any test (found_below f (suc (rev + n))) ≡ true
  list_any-found_below test rev zero x is passes =
      let same : suc (rev + 0) ≡ suc rev = omega arith in
      ap (λ bound. list_any test (found_below f bound)) same ∙ ap (list_any test) (found_below-one f rev x is)
      ∙ ap (λ b. b || list_any test (found_below f rev)) passes
  list_any-found_below test rev (suc n) x is passes =
      let same : rev + suc n ≡ suc (rev + n) = omega arith in
      ap (λ bound. list_any test (found_below f (suc bound))) same
      ∙ by (f (suc (rev + n))) (list_any-found_below test rev n x is passes)
    where
      by : (found : Option X) → list_any test (found_below f (suc (rev + n))) ≡ true → list_any test (cons_option found (found_below f (suc (rev + n)))) ≡ true
      by None more = more
      by (Some y) more = ap (λ b. test y || b) more ∙ or-true (test y)

module _ (trees : TreesOfBytes) (path : PathOfBytes) where
  abbrev there_in : ℕ → Bool
  there_in rev = is_there bytes_eq (tree_of trees rev) path

  -- ---- the last revision of a run

  last_from-on : (more rev each : ℕ) → rev < each → each ≤ last_from trees path more rev → lives_on trees path each ≡ true
  unfolding last_from
  last_from-on zero rev each after within = absurd (omega (arith, after, within))
  last_from-on (suc more) rev each after within = by (lives_on trees path (suc rev)) refl within (last_from-on more (suc rev) each)
    where
      by : (b : Bool) → lives_on trees path (suc rev) ≡ b → each ≤ (if b then last_from trees path more (suc rev) else rev)
          → (suc rev < each → each ≤ last_from trees path more (suc rev) → lives_on trees path each ≡ true) → lives_on trees path each ≡ true
      by false on within further = absurd (omega (arith, after, within))
      by true on within further = elim (cases_lt (suc rev) each) [
        | inl later ↦ further later within
        | inr early ↦ let same : suc rev ≡ each = omega (arith, early, after) in subst (λ one. lives_on trees path one ≡ true) same on
      ]

  last_from-reaches : (k more rev : ℕ) → k ≤ more → ((each : ℕ) → rev < each → each ≤ rev + k → lives_on trees path each ≡ true)
      → rev + k ≤ last_from trees path more rev
  unfolding last_from
  last_from-reaches zero zero rev within on = omega arith
  last_from-reaches zero (suc more) rev within on = by (lives_on trees path (suc rev)) (last_from-reaches zero more (suc rev) (omega arith) (λ each after below. absurd (omega (arith, after, below))))
    where
      by : (b : Bool) → suc rev + 0 ≤ last_from trees path more (suc rev) → rev + 0 ≤ (if b then last_from trees path more (suc rev) else rev)
      by true far = omega (arith, far)
      by false far = omega arith
  last_from-reaches (suc k) zero rev within on = absurd (omega (arith, within))
  last_from-reaches (suc k) (suc more) rev within on =
      let far : suc rev + k ≤ last_from trees path more (suc rev) =
      last_from-reaches k more (suc rev) (omega (arith, within)) (λ each after below. on each (omega (arith, after)) (omega (arith, below))) in
      subst (λ b. rev + suc k ≤ (if b then last_from trees path more (suc rev) else rev)) (sym (on (suc rev) (omega arith) (omega arith))) (omega (arith, far))

  last_from-within : (more rev : ℕ) → last_from trees path more rev ≤ rev + more
  unfolding last_from
  last_from-within zero rev = omega arith
  last_from-within (suc more) rev = by (lives_on trees path (suc rev)) (last_from-within more (suc rev))
    where
      by : (b : Bool) → last_from trees path more (suc rev) ≤ suc rev + more → (if b then last_from trees path more (suc rev) else rev) ≤ rev + suc more
      by true further = omega (arith, further)
      by false further = omega arith

  -- ---- the revisions of a life

  -- the life begins in this revision, and the path lives on in its others
  record IsRun (top rev : ℕ) (life : Life) : Type 0 where
    first : life.first ≡ rev
    there : there_in rev ≡ true
    begins : lives_on trees path rev ≡ false
    on : (each : ℕ) → rev < each → each ≤ life.last → lives_on trees path each ≡ true
    within : life.last ≤ rev + (top - rev)

  life_at-run : (top rev : ℕ) → IfSome (life_at trees path top rev) (IsRun top rev)
  life_at-run top rev = by (entry_at bytes_eq (tree_of trees rev) path) refl (lives_on trees path rev) refl
    where
      by : (found : Option (Entry (List ℕ) (List ℕ))) → entry_at bytes_eq (tree_of trees rev) path ≡ found
          → (b : Bool) → lives_on trees path rev ≡ b → IfSome (life_at trees path top rev) (IsRun top rev)
      by None is b on = subst (λ one. IfSome one (IsRun top rev)) (sym (life_at-absent trees path top rev (ap is_some is))) tt
      by (Some entry) is true on = subst (λ one. IfSome one (IsRun top rev)) (sym (life_at-on trees path top rev on)) tt
      by (Some entry) is false on = subst (λ one. IfSome one (IsRun top rev)) (sym (life_at-begins trees path top rev entry is on)) (record {
        first = refl;
        there = ap is_some is;
        begins = on;
        on = λ each after within. last_from-on (top - rev) rev each after within;
        within = last_from-within (top - rev) rev;
      })

  -- an older life ends before a newer one begins
  lives_apart : (top newer older : ℕ) → older < newer
      → IfSome (life_at trees path top newer) (λ one. IfSome (life_at trees path top older) (λ other. other.last < one.first))
  lives_apart top newer older ordered = by (life_at trees path top newer) (life_at trees path top older) (life_at-run top newer) (life_at-run top older)
    where
      by : (one other : Option Life) → IfSome one (IsRun top newer) → IfSome other (IsRun top older) → IfSome one (λ a. IfSome other (λ b. b.last < a.first))
      by None other of_one of_other = tt
      by (Some one) None of_one of_other = tt
      by (Some one) (Some other) of_one of_other = elim (cases_lt other.last newer) [
        | inl before ↦ omega (arith, before, of_one.first)
        | inr reaches ↦ absurd (both_ways (lives_on trees path newer) of_one.begins (of_other.on newer ordered reaches))
      ]

  -- a revision after the top is of no life
  none_above : (top rev first : ℕ) → top < rev → first ≤ top → IfSome (life_at trees path top first) (λ life. has_revision rev life ≡ false)
  none_above top rev first above within = by (life_at trees path top first) (life_at-run top first)
    where
      by : (one : Option Life) → IfSome one (IsRun top first) → IfSome one (λ life. has_revision rev life ≡ false)
      by None of = tt
      by (Some life) of = elim (cases_Bool (has_revision rev life)) [
        | inr not ↦ not
        | inl has ↦
            let reaches : rev ≤ life.last = leb-true rev life.last (and_parts (nat_le life.first rev) (nat_le rev life.last) has).1 in
            absurd (omega (arith, reaches, of.within, above, within))
      ]

  -- no life up to the top has a revision that none of them has
  no_life : (top rev : ℕ) → ((first : ℕ) → first < suc top → IfSome (life_at trees path top first) (λ life. has_revision rev life ≡ false))
      → list_any (has_revision rev) (lives_of trees path top) ≡ false
  no_life top rev none =
      ap (list_any (has_revision rev)) (lives_of-found trees path top)
      ∙ list_any_none (has_revision rev) (found_below (life_at trees path top) (suc top)) (All-found_below (life_at trees path top) _ (suc top) none)

  -- ---- where what lives on was there before

  module _ (before : (rev : ℕ) → lives_on trees path rev ≡ true → (0 < rev) × (there_in (pred rev) ≡ true)) where
    on_there : (rev : ℕ) → lives_on trees path rev ≡ true → there_in rev ≡ true
    on_there rev on = elim (cases_Bool (there_in rev)) [
      | inl there ↦ there
      | inr none ↦ absurd (both_ways (lives_on trees path rev) (lives_on-absent trees path rev none) on)
    ]

    -- a revision without the path is of no life
    of_none : (top rev first : ℕ) → there_in rev ≡ false → IfSome (life_at trees path top first) (λ life. has_revision rev life ≡ false)
    of_none top rev first none = by (life_at trees path top first) (life_at-run top first)
      where
        by : (one : Option Life) → IfSome one (IsRun top first) → IfSome one (λ life. has_revision rev life ≡ false)
        by None of = tt
        by (Some life) of = elim (cases_Bool (has_revision rev life)) [
          | inr not ↦ not
          | inl has ↦
              let (low, high) = and_parts _ _ has in
              let after : life.first ≤ rev = leb-true life.first rev low in
              let within : rev ≤ life.last = leb-true rev life.last high in
              elim (cases_lt first rev) [
                | inl later ↦ absurd (both_ways (there_in rev) none (on_there rev (of.on rev later within)))
                | inr early ↦
                    let same : first ≡ rev = omega (arith, early, after, of.first) in
                    absurd (both_ways (there_in rev) none (subst (λ one. there_in one ≡ true) same of.there))
              ]
        ]

    -- a life begins in this revision or before, and the path lives on up to it
    record IsLivingSince (rev first : ℕ) : Type 0 where
      within : first ≤ rev
      there : there_in first ≡ true
      begins : lives_on trees path first ≡ false
      on : (each : ℕ) → first < each → each ≤ rev → lives_on trees path each ≡ true

    since : (rev : ℕ) → there_in rev ≡ true → (first : ℕ) × IsLivingSince rev first
    since zero there = elim (cases_Bool (lives_on trees path 0)) [
      | inl on ↦ absurd (omega (arith, (before 0 on).0))
      | inr begins ↦ (0, record { within = omega arith; there = there; begins = begins; on = λ each after below. absurd (omega (arith, after, below)) })
    ]
    since (suc rev) there = elim (cases_Bool (lives_on trees path (suc rev))) [
      | inl on ↦
          let (first, is) = since rev (before (suc rev) on).1 in (
            first,
            record {
              within = omega (arith, is.within);
              there = is.there;
              begins = is.begins;
              on = λ each after below. elim (cases_lt rev each) [
                | inl later ↦ let same : suc rev ≡ each = omega (arith, later, below) in subst (λ one. lives_on trees path one ≡ true) same on
                | inr early ↦ is.on each after early
              ];
            },
          )
      | inr begins ↦ (suc rev, record { within = omega arith; there = there; begins = begins; on = λ each after below. absurd (omega (arith, after, below)) })
    ]

    -- so it is a revision of that life
    of_some : (top rev : ℕ) → rev ≤ top → there_in rev ≡ true → list_any (has_revision rev) (lives_of trees path top) ≡ true
    of_some top rev within there =
        let (first, is) = since rev there in
        ap (list_any (has_revision rev)) (lives_of-found trees path top) ∙ by first is (entry_at bytes_eq (tree_of trees first) path) refl is.there
      where
        by : (first : ℕ) → IsLivingSince rev first → (found : Option (Entry (List ℕ) (List ℕ))) → entry_at bytes_eq (tree_of trees first) path ≡ found → is_some found ≡ true
            → list_any (has_revision rev) (found_below (life_at trees path top) (suc top)) ≡ true
        by first is None found none = absurd (both_ways _ refl none)
        by first is (Some entry) found there =
            let number : first + (rev - first) ≡ rev = omega (arith, is.within) in
            let reached : first + (rev - first) ≤ last_from trees path (top - first) first =
            last_from-reaches (rev - first) (top - first) first (omega (arith, within)) (λ each after below. is.on each after (omega (arith, below, is.within))) in
            let bound : first + (top - first) ≡ top = omega (arith, is.within, within) in
            subst (λ n. list_any (has_revision rev) (found_below (life_at trees path top) (suc n)) ≡ true) bound
            (list_any-found_below (life_at trees path top) (has_revision rev) first (top - first) (life_from trees path top first entry)
            (life_at-begins trees path top first entry found is.begins)
            (and_from _ _ (le-leb first rev is.within) (le-leb rev (last_from trees path (top - first) first) (omega (arith, reached, number)))))

    up_to : (top rev : ℕ) → rev ≤ top → list_any (has_revision rev) (lives_of trees path top) ≡ there_in rev
    up_to top rev within = elim (cases_Bool (there_in rev)) [
      | inl there ↦ of_some top rev within there ∙ sym there
      | inr none ↦ no_life top rev (λ first below. of_none top rev first none) ∙ sym none
    ]

    AreLives-lives_of : (top : ℕ) → AreLives trees path top (lives_of trees path top)
    AreLives-lives_of top = record {
      apart = subst (AllPairs (λ newer older. older.last < newer.first)) (sym (lives_of-found trees path top))
          (AllPairs-found_below (life_at trees path top) _ (suc top) (lives_apart top));
      whole = λ rev. elim (cases_lt top rev) [
        | inl above ↦
            no_life top rev (λ first below. none_above top rev first above (omega (arith, below)))
            ∙ sym (ap (λ b. b && there_in rev) (lt-leb rev top above))
        | inr within ↦ up_to top rev within ∙ sym (ap (λ b. b && there_in rev) (le-leb rev top within))
      ];
    }

  -- ---- in a history each origin is there

  there_before : OriginsAreThere bytes_eq trees → (rev : ℕ) → lives_on trees path rev ≡ true → (0 < rev) × (there_in (pred rev) ≡ true)
  there_before origins rev on = by (origin_of bytes_eq trees path rev) refl on
    where
      by : (from : Option (PathOfBytes × ℕ)) → origin_of bytes_eq trees path rev ≡ from → came_from_itself bytes_eq path rev from ≡ true → (0 < rev) × (there_in (pred rev) ≡ true)
      by None is itself = absurd (both_ways _ refl itself)
      by (Some from) is itself =
          let (paths, next) = and_parts (same_path bytes_eq from.0 path) (from.1 + 1 == rev) itself in
          let number : from.1 + 1 ≡ rev = eqb-true (from.1 + 1) rev next in
          let same : from.1 ≡ pred rev = omega (arith, number) in (
            omega (arith, number),
            subst (λ each. there_in each ≡ true) same
                (subst (λ other. is_there bytes_eq (tree_of trees from.1) other ≡ true) ((same_path-is IsSame-bytes_eq from.0 path).0 paths)
                (origins.there path rev from.0 from.1 is)),
          )

-- so it is for each path of a dump
pub HaveLives-dump : (dump : DumpValue) → HaveLives (trees_in_bytes dump)
HaveLives-dump dump path top =
    AreLives-lives_of (trees_in_bytes dump) path
    (there_before (trees_in_bytes dump) path (OriginsAreThere-trees_of bytes_eq IsSame-bytes_eq (history_in_bytes dump))) top
