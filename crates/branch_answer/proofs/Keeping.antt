-- A path that nothing sets between two revisions, and one of two that lacks it.
use Rattle.std.proofs.Common.{◌≡◌, ℕ, ◌<◌, ◌≤◌, true, false, inl, inr, List, arith, subst}
use Rattle.std.proofs.lemmas.Bool.{both_ways, cases_lt}
use Rattle.svn_path.specs.declared.names.NameId.{NameId}
use Rattle.svn_dump.specs.Dump.{DumpValue}
use Rattle.query_answer.specs.OriginsInBytes.{KeepsPathIn}
use Rattle.branch_answer.specs.Presence.{is_present}

module _ (dump : DumpValue) (path : List NameId) where
  -- it is kept from a later revision on, too
  pub keeps_later : (from mid to : ℕ) → from ≤ mid → KeepsPathIn dump path from to → KeepsPathIn dump path mid to
  keeps_later from mid to ordered keeps later after below there = keeps later (omega (arith, ordered, after)) below there

  -- a revision with the path is not one without it
  pub before_without : (with without : ℕ) → with ≤ without → is_present dump path with ≡ true → is_present dump path without ≡ false → with < without
  before_without with without ordered there none = elim (cases_lt with without) [
    | inl less ↦ less
    | inr not_less ↦
        let same : with ≡ without = omega (arith, ordered, not_less) in
        absurd (both_ways (is_present dump path without) none (subst (λ rev. is_present dump path rev ≡ true) same there))
  ]
