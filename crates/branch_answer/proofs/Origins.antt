-- Where a path came from, by numbers and by bytes.
use Rattle.std.proofs.Common.{◌≡◌, ℕ, ◌+◌, ◌<◌, ◌==◌, ◌&&◌, ◌∙◌, pred, true, Option, None, Some, IfSome, List, refl, sym, ap, subst, arith, bytes_eq, length}
use Rattle.std.proofs.lemmas.Bool.{and_parts, both_ways}
use Rattle.std.specs.Borrow.{Bor}
use Rattle.std.specs.Option.{option_copied}
use Rattle.std.proofs.Common.{eqb-true}
use Rattle.svn_path.proofs.Belows.{IsSame-same_name, same_path-is}
use Rattle.svn_path.specs.Below.{same_path}
use Rattle.svn_path.specs.Path.{IsPathOf, components_of, same_name}
use Rattle.svn_path.specs.declared.names.NameId.{NameId}
use Rattle.svn_dump.proofs.Renaming.Paths.{same_path-rename}
use Rattle.svn_dump.specs.Dump.{DumpValue, IsDump}
use Rattle.svn_dump.specs.declared.record.Origin.{Origin}
use Rattle.path_index.specs.Operative.{came_from_itself}
use Rattle.path_index.specs.RecordEffect.{origin_view}
use Rattle.query_answer.proofs.InBytes.{IsThere-there, alike, is_there-index, name, there-in_bytes}
use Rattle.query_answer.specs.OriginsInBytes.{origin_in_bytes, origin_of_path}
use Rattle.query_answer.specs.Repo.{IsPathIn}
use Rattle.query_answer.specs.declared.target.PathRev.{PathRev}
use Rattle.branch_answer.specs.KeptLife.{lent_origin}
use Rattle.branch_answer.specs.Presence.{is_present, lives_on_in}

module _ (dump : DumpValue) (kept : IsDump dump) where
  pub IsPathIn-present : (path : List NameId) (rev : ℕ) → IsPathOf dump.names path → rev < length dump.counts → is_present dump path rev ≡ true
      → IsPathIn dump (record { path = path; rev = rev })
  IsPathIn-present path rev of within there = record {
    kept = kept;
    of_names = of;
    within = within;
    there = IsThere-there dump kept path rev within (sym (there-in_bytes dump kept path rev) ∙ there);
  }

  pub present-IsPathIn : (at : PathRev) → IsPathIn dump at → is_present dump at.path at.rev ≡ true
  present-IsPathIn at is = there-in_bytes dump kept at.path at.rev ∙ sym (is_there-index dump kept at.rev is.within at.path) ∙ is.there

  came_from_itself-in_bytes : (path : List NameId) (rev : ℕ) (origin : Option Origin)
      → came_from_itself bytes_eq (components_of dump.names path) rev (origin_in_bytes dump origin) ≡ came_from_itself same_name path rev (origin_view origin)
  came_from_itself-in_bytes path rev None = refl
  came_from_itself-in_bytes path rev (Some from) =
      ap (λ same. same && from.rev + 1 == rev) (same_path-rename (name dump kept) same_name bytes_eq (alike dump kept) from.path path)

  -- by its origin a path lives on or not
  pub lives_on-origin : (path : List NameId) (rev : ℕ) (origin : Option Origin) → origin_in_bytes dump origin ≡ origin_of_path dump path rev
      → lives_on_in dump path rev ≡ came_from_itself same_name path rev (origin_view origin)
  lives_on-origin path rev origin is =
      ap (came_from_itself bytes_eq (components_of dump.names path) rev) (sym is) ∙ came_from_itself-in_bytes path rev origin

  -- where it does, it was there in the revision before
  pub present-itself : (path : List NameId) (rev : ℕ) (origin : Option Origin) → came_from_itself same_name path rev (origin_view origin) ≡ true
      → IfSome origin (λ from. IsPathIn dump (record { path = from.path; rev = from.rev })) → (0 < rev) × (is_present dump path (pred rev) ≡ true)
  present-itself path rev None itself is = absurd (both_ways _ refl itself)
  present-itself path rev (Some from) itself is =
      let (paths, next) = and_parts (same_path same_name from.path path) (from.rev + 1 == rev) itself in
      let number : from.rev + 1 ≡ rev = eqb-true (from.rev + 1) rev next in
      let same : from.rev ≡ pred rev = omega (arith, number) in (
        omega (arith, number),
        subst (λ each. is_present dump path each ≡ true) same
            (subst (λ other. is_present dump other from.rev ≡ true) ((same_path-is IsSame-same_name from.path path).0 paths)
            (present-IsPathIn (record { path = from.path; rev = from.rev }) is)),
      )

-- the test of an origin that is lent
pub tested : (path : List NameId) (rev : ℕ) (lent : Option (Bor Origin)) (origin : Option Origin) → option_copied lent ≡ origin
    → came_from_itself same_name path rev (origin_view origin) ≡ came_from_itself same_name path rev (lent_origin lent)
tested path rev None origin is = ap (λ one. came_from_itself same_name path rev (origin_view one)) (sym is)
tested path rev (Some from) origin is = ap (λ one. came_from_itself same_name path rev (origin_view one)) (sym is)
