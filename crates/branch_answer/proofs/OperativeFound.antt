-- The operative revisions of a path that were found, and those that are left.
use Rattle.std.proofs.Common.{◌≡◌, ◌∙◌, ℕ, suc, ◌+◌, ◌-◌, ◌<◌, ◌≤◌, ◌&&◌, ◌||◌, nat_lt, Bool, true, false, not, Option, None, Some, List, [], ◌∷◌, ◌++◌, if◌then◌else◌, ap, ap₂, append-nil, append_assoc, arith, filter, refl, sym}
use Rattle.std.proofs.Math.Bool.{or-false}
use Rattle.std.proofs.lemmas.Bool.{lt-ltb}
use Rattle.svn_path.specs.declared.names.NameId.{NameId}
use Rattle.svn_dump.specs.Dump.{DumpValue}
unfoldable use Rattle.path_index.specs.Operative.{is_operative}
use Rattle.path_index.specs.Operative.{down_from}
use Rattle.branch_answer.specs.Operative.{AddsFrom, StaysAfter, is_named_in, is_operative_in, operative_from_to}
use Rattle.branch_answer.specs.Presence.{IsKnownPath, IsNewest, IsThereIn, is_present, lives_on_in}
use Rattle.branch_answer.proofs.LivesFound.{bound_of}
use Rattle.branch_answer.proofs.Revisions.{was_living, was_there}
use Rattle.branch_answer.proofs.RevisionsDown.{passing_below, passing_below-none, passing_below-same, passing_below-skip, passing_below-split}

module _ (dump : DumpValue) (path : List NameId) where
  -- ---- one revision

  pub is_operative_in-zero : is_operative_in dump path 0 ≡ false
  unfolding is_operative
  is_operative_in-zero = refl

  pub is_operative_in-absent : (rev : ℕ) → is_present dump path rev ≡ false → is_operative_in dump path rev ≡ false
  unfolding is_operative
  is_operative_in-absent rev none = ap (λ there. nat_lt 0 rev && there && other) none ∙ by (nat_lt 0 rev)
    where
      other : Bool
      other = is_named_in dump path rev || not (lives_on_in dump path rev)

      by : (b : Bool) → (b && false && other) ≡ false
      by true = refl
      by false = refl

  pub is_operative_in-there : (rev : ℕ) → 0 < rev → is_present dump path rev ≡ true
      → is_operative_in dump path rev ≡ (is_named_in dump path rev || not (lives_on_in dump path rev))
  unfolding is_operative
  is_operative_in-there rev some there = (λ i. lt-ltb 0 rev some i && there i && (is_named_in dump path rev || not (lives_on_in dump path rev)))

  -- ---- a run of revisions

  abbrev operative_below : ℕ → ℕ → List ℕ
  operative_below lo bound = passing_below (is_operative_in dump path) lo bound

  pub operative_from_to-below : (lo hi : ℕ) → operative_from_to dump path lo hi ≡ operative_below lo (suc hi)
  operative_from_to-below lo hi = let same : hi + 1 - lo ≡ suc hi - lo = omega arith in ap (λ n. filter (is_operative_in dump path) (down_from n hi)) same

  -- where nothing set the path, those are operative whose records name it
  pub operative_from_to-named : (above last : ℕ) → StaysAfter dump path above last
      → filter (is_named_in dump path) (down_from (last - above) last) ≡ operative_from_to dump path (above + 1) last
  operative_from_to-named above last stays =
      let count : last - above ≡ suc last - (above + 1) = omega arith in
      ap (λ n. filter (is_named_in dump path) (down_from n last)) count
      ∙ passing_below-same (is_named_in dump path) (is_operative_in dump path) (above + 1) (suc last) (λ rev low below. sym (named rev (omega (arith, low)) (omega (arith, below))))
      ∙ sym (operative_from_to-below (above + 1) last)
    where
      named : (rev : ℕ) → above < rev → rev ≤ last → is_operative_in dump path rev ≡ is_named_in dump path rev
      named rev after below =
          is_operative_in-there rev (omega (arith, after)) (was_there dump path above last stays.keeps last rev (omega arith) stays.there.there (omega (arith, after)) below)
          ∙ ap (λ on. is_named_in dump path rev || not on) (was_living dump path above last stays.keeps last rev (omega arith) stays.there.there after below)
          ∙ or-false (is_named_in dump path rev)

  -- the first of a run comes last
  pub operative_from_to-first : (first last : ℕ) → first ≤ last
      → operative_from_to dump path first last
      ≡ operative_from_to dump path (first + 1) last ++ (if is_operative_in dump path first then first ∷ [] else [])
  operative_from_to-first first last within =
      let one : suc first - first ≡ 1 = omega arith in
      let next : suc first ≡ first + 1 = omega arith in
      operative_from_to-below first last
      ∙ passing_below-split (is_operative_in dump path) first (suc first) (suc last) (omega arith) (omega (arith, within))
      ∙ ap (λ front. front ++ operative_below first (suc first)) (sym (operative_from_to-below (suc first) last) ∙ ap (λ lo. operative_from_to dump path lo last) next)
      ∙ ap (λ n. operative_from_to dump path (first + 1) last ++ filter (is_operative_in dump path) (down_from n first)) one

  -- ---- a span, from the revision that set the path

  pub IsThereIn-set : (set last : ℕ) → StaysAfter dump path set last → set ≤ last → IsThereIn dump path set
  IsThereIn-set set last stays within = record {
    known = record { kept = stays.there.known.kept; of_names = stays.there.known.of_names; within = omega (arith, within, stays.there.known.within) };
    there = was_there dump path set last stays.keeps last set (omega arith) stays.there.there (omega arith) within;
  }

  -- after those of the span, that revision comes where it is operative
  pub AddsFrom-set : (lo set last : ℕ) (old span new : List ℕ) (operative : Bool) → lo ≤ set → set ≤ last
      → span ≡ old ++ operative_from_to dump path (set + 1) last → operative ≡ is_operative_in dump path set
      → new ≡ span ++ (if operative then set ∷ [] else []) → AddsFrom dump path lo last old new set
  AddsFrom-set lo set last old span new operative low within spanned is added = record {
    low = low;
    within = within;
    added = added
        ∙ ap₂ (λ front b. front ++ (if b then set ∷ [] else [])) spanned is
        ∙ append_assoc old (operative_from_to dump path (set + 1) last) (if is_operative_in dump path set then set ∷ [] else [])
        ∙ ap (λ more. old ++ more) (sym (operative_from_to-first set last within));
  }

  -- ---- those that were found

  module _ (lo hi : ℕ) where
    -- those below the bound are left
    pub record AreFound (revs : List ℕ) (from : Option ℕ) : Type 0 where
      pub known : IsKnownPath dump path hi
      pub within : bound_of from ≤ suc hi
      pub whole : operative_from_to dump path lo hi ≡ revs ++ operative_below lo (bound_of from)

    pub AreFound-start : IsKnownPath dump path hi → AreFound [] (Some hi)
    AreFound-start known = record { known = known; within = omega arith; whole = operative_from_to-below lo hi }

    pub AreFound-none : (revs : List ℕ) → AreFound revs None → revs ≡ operative_from_to dump path lo hi
    AreFound-none revs found =
        sym (found.whole ∙ ap (λ left. revs ++ left) (passing_below-none (is_operative_in dump path) lo 0 (λ rev low below. absurd (omega (arith, below)))) ∙ append-nil revs)

    module _ (revs : List ℕ) (rev : ℕ) (found : AreFound revs (Some rev)) where
      pub IsKnownPath-left : IsKnownPath dump path rev
      IsKnownPath-left = record { kept = found.known.kept; of_names = found.known.of_names; within = omega (arith, found.within, found.known.within) }

      pub IsThereIn-newest : (last : ℕ) → IsNewest dump path rev last → IsThereIn dump path last
      IsThereIn-newest last newest = record {
        known = record { kept = found.known.kept; of_names = found.known.of_names; within = omega (arith, newest.within, found.within, found.known.within) };
        there = newest.there;
      }

      -- the path is in no revision that is left
      pub AreFound-gone : ((each : ℕ) → lo ≤ each → each ≤ rev → is_present dump path each ≡ false) → revs ≡ operative_from_to dump path lo hi
      AreFound-gone gone =
          sym (found.whole
          ∙ ap (λ left. revs ++ left)
          (passing_below-none (is_operative_in dump path) lo (suc rev) (λ each low below. is_operative_in-absent each (gone each low (omega (arith, below)))))
          ∙ append-nil revs)

      -- those up to the newest revision that has the path come next
      pub AreFound-more : (last first : ℕ) (new : List ℕ) (from : Option ℕ) → IsNewest dump path rev last → AddsFrom dump path lo last revs new first
          → bound_of from ≡ first → AreFound new from
      AreFound-more last first new from newest adds bound = record {
        known = found.known;
        within = omega (arith, bound, adds.within, newest.within, found.within);
        whole = found.whole
            ∙ ap (λ left. revs ++ left)
            (passing_below-skip (is_operative_in dump path) lo (suc last) (suc rev) (omega (arith, adds.low, adds.within)) (omega (arith, newest.within))
            (λ each low below. is_operative_in-absent each (newest.gone each (omega (arith, low)) (omega (arith, below))))
            ∙ passing_below-split (is_operative_in dump path) lo first (suc last) adds.low (omega (arith, adds.within))
            ∙ ap (λ front. front ++ operative_below lo first) (sym (operative_from_to-below first last)))
            ∙ sym (append_assoc revs (operative_from_to dump path first last) (operative_below lo first))
            ∙ ap (λ front. front ++ operative_below lo first) (sym adds.added)
            ∙ ap (λ n. new ++ operative_below lo n) (sym bound);
      }
