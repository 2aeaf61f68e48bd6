-- The revisions in which a path is there, between two of which nothing sets it.
use Rattle.std.proofs.Common.{◌≡◌, ℕ, zero, suc, ◌+◌, ◌-◌, ◌<◌, ◌≤◌, pred, true, false, inl, inr, None, Some, List, refl, sym, subst, arith, bytes_eq, eq-eqb, is_some}
use Rattle.std.proofs.lemmas.Bool.{both_ways, cases_Bool, cases_lt}
use Rattle.svn_path.proofs.Belows.{same_path-is}
use Rattle.svn_path.specs.Path.{components_of}
use Rattle.svn_path.specs.declared.names.NameId.{NameId}
use Rattle.svn_dump.specs.Dump.{DumpValue}
use Rattle.svn_dump.specs.Location.{origin_of}
use Rattle.svn_dump.specs.Tree.{entry_at, tree_of}
use Rattle.query_answer.specs.Answer.{TreesOfBytes}
use Rattle.query_answer.proofs.StandingsInBytes.{IsSame-bytes_eq}
use Rattle.query_answer.specs.OriginsInBytes.{KeepsPathIn}
use Rattle.query_answer.specs.Repo.{trees_in_bytes}
use Rattle.branch_answer.specs.Life.{PathOfBytes, lives_on}
use Rattle.branch_answer.specs.Presence.{IsGone, is_present, lives_on_in}

-- a path that came from itself in the revision before lives on
pub lives_on-itself : (trees : TreesOfBytes) (path : PathOfBytes) (rev : ℕ) → 0 < rev → origin_of bytes_eq trees path rev ≡ Some (path, pred rev) → lives_on trees path rev ≡ true
lives_on-itself trees path rev some came =
    let next : pred rev + 1 ≡ rev = omega (arith, some) in
    rw came (rw ((same_path-is IsSame-bytes_eq path path).1 refl, next) (eq-eqb rev rev refl))

-- one that is not there does not
pub lives_on-absent : (trees : TreesOfBytes) (path : PathOfBytes) (rev : ℕ) → is_some (entry_at bytes_eq (tree_of trees rev) path) ≡ false → lives_on trees path rev ≡ false
lives_on-absent trees path rev none = by (entry_at bytes_eq (tree_of trees rev) path) refl none
  where
    by : (found : _) → entry_at bytes_eq (tree_of trees rev) path ≡ found → is_some found ≡ false → lives_on trees path rev ≡ false
    by None is none = rw is refl
    by (Some entry) is none = absurd (both_ways _ none refl)

module _ (dump : DumpValue) (path : List NameId) (lo hi : ℕ) (keeps : KeepsPathIn dump path lo hi) where
  gone_after : (from : ℕ) → lo ≤ from → is_present dump path from ≡ false → (n : ℕ) → from + n ≤ hi → is_present dump path (from + n) ≡ false
  gone_after from low none zero below = let same : from + 0 ≡ from = omega arith in rw same none
  gone_after from low none (suc n) below = elim (cases_Bool (is_present dump path (from + suc n))) [
    | inl there ↦
        let before = (keeps (from + suc n) (omega (arith, low)) below there).0 in
        let same : pred (from + suc n) ≡ from + n = omega arith in
        absurd (both_ways (is_present dump path (from + n)) (gone_after from low none n (omega (arith, below))) (subst (λ each. is_present dump path each ≡ true) same before))
    | inr not ↦ not
  ]

  -- so it does not come back
  pub stays_gone : (from : ℕ) → lo ≤ from → is_present dump path from ≡ false → IsGone dump path from hi
  stays_gone from low none rev after below =
      let same : from + (rev - from) ≡ rev = omega (arith, after) in
      subst (λ each. is_present dump path each ≡ false) same (gone_after from low none (rev - from) (omega (arith, after, below)))

  there_from : (n from : ℕ) → lo ≤ from → from + n ≤ hi → is_present dump path (from + n) ≡ true → is_present dump path from ≡ true
  there_from zero from low below there = let same : from + 0 ≡ from = omega arith in rw same at there
  there_from (suc n) from low below there =
      let same : pred (from + suc n) ≡ from + n = omega arith in
      there_from n from low (omega (arith, below)) (subst (λ each. is_present dump path each ≡ true) same (keeps (from + suc n) (omega (arith, low)) below there).0)

  -- and it was there all the time before
  pub was_there : (rev from : ℕ) → rev ≤ hi → is_present dump path rev ≡ true → lo ≤ from → from ≤ rev → is_present dump path from ≡ true
  was_there rev from below there low ordered =
      let same : from + (rev - from) ≡ rev = omega (arith, ordered) in
      there_from (rev - from) from low (omega (arith, ordered, below)) (subst (λ each. is_present dump path each ≡ true) (sym same) there)

  -- living on
  pub was_living : (rev each : ℕ) → rev ≤ hi → is_present dump path rev ≡ true → lo < each → each ≤ rev → lives_on_in dump path each ≡ true
  was_living rev each below there low ordered =
      lives_on-itself (trees_in_bytes dump) (components_of dump.names path) each (omega (arith, low))
      (keeps each low (omega (arith, ordered, below)) (was_there rev each below there (omega (arith, low)) ordered)).1

-- the path is gone in both of two runs of revisions
pub gone_through : (dump : DumpValue) (path : List NameId) (from mid to : ℕ) → IsGone dump path from mid → IsGone dump path mid to → IsGone dump path from to
gone_through dump path from mid to first second rev after below = elim (cases_lt mid rev) [
  | inl later ↦ second rev later below
  | inr early ↦ first rev after early
]
