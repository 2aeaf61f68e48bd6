-- How the search for the first revision of a life goes on.
use Rattle.std.proofs.Common.{◌≡◌, ◌∙◌, ℕ, ◌-◌, ◌<◌, ◌≤◌, pred, true, false, inl, inr, Option, None, Some, IfSome, List, arith, subst}
use Rattle.std.proofs.lemmas.Bool.{cases_lt}
use Rattle.svn_path.specs.Path.{IsPathOf, same_name}
use Rattle.svn_path.specs.declared.names.NameId.{NameId}
use Rattle.svn_dump.specs.Dump.{DumpValue, IsDump}
use Rattle.svn_dump.specs.declared.record.Origin.{Origin}
use Rattle.path_index.specs.Operative.{came_from_itself}
use Rattle.path_index.specs.RecordEffect.{origin_view}
use Rattle.query_answer.specs.OriginsInBytes.{KeepsPathIn, origin_in_bytes, origin_of_path}
use Rattle.query_answer.specs.Repo.{IsPathIn}
use Rattle.branch_answer.specs.Presence.{IsFirstOfLife, is_present, lives_on_in}
use Rattle.branch_answer.proofs.Halves.{IsLivingFrom}
use Rattle.branch_answer.proofs.Origins.{lives_on-origin, present-itself}
use Rattle.branch_answer.proofs.Revisions.{was_living, was_there}

module _ (dump : DumpValue) (path : List NameId) (last rev : ℕ) (so : IsLivingFrom dump path last rev)
    (set : ℕ) (keeps : KeepsPathIn dump path set rev) (within : set ≤ rev) where
  -- the path is there in the revision that set it last
  pub was_there_when_set : is_present dump path set ≡ true
  was_there_when_set = was_there dump path set rev keeps rev set (omega arith) so.there (omega arith) within

  -- and lives on from there
  lives_from_set : (each : ℕ) → set < each → each ≤ last → lives_on_in dump path each ≡ true
  lives_from_set each after below = elim (cases_lt rev each) [
    | inl later ↦ so.on each later below
    | inr early ↦ was_living dump path set rev keeps rev each (omega arith) so.there after early
  ]

  module _ (kept : IsDump dump) (origin : Option Origin) (is : origin_in_bytes dump origin ≡ origin_of_path dump path set)
      (there : IfSome origin (λ from. IsPathIn dump (record { path = from.path; rev = from.rev }))) where
    -- where it did not come from itself, its life begins there
    pub began : came_from_itself same_name path set (origin_view origin) ≡ false → IsFirstOfLife dump path last set origin
    began other = record {
      within = omega (arith, within, so.within);
      there = was_there_when_set;
      on = lives_from_set;
      begins = lives_on-origin dump kept path set origin is ∙ other;
      origin_is = is;
      of_names = by origin there;
    }
      where
        by : (from : Option Origin) → IfSome from (λ one. IsPathIn dump (record { path = one.path; rev = one.rev })) → IfSome from (λ one. IsPathOf dump.names one.path)
        by None is = tt
        by (Some one) is = is.of_names

    -- where it did, the search goes on in the revision before
    pub living_before : came_from_itself same_name path set (origin_view origin) ≡ true → IsLivingFrom dump path last (set - 1)
    living_before itself =
        let (some, before) = present-itself dump kept path set origin itself there in
        let number : pred set ≡ set - 1 = omega arith in
        record {
          within = omega (arith, within, so.within);
          there = subst (λ each. is_present dump path each ≡ true) number before;
          on = λ each after below. elim (cases_lt set each) [
            | inl later ↦ lives_from_set each later below
            | inr early ↦
                let same : set ≡ each = omega (arith, early, after, some) in
                subst (λ one. lives_on_in dump path one ≡ true) same (lives_on-origin dump kept path set origin is ∙ itself)
          ];
        }
