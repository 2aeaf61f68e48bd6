-- The lives that were found, and those that are left.
use Rattle.std.proofs.Common.{◌≡◌, ◌∙◌, ℕ, suc, ◌+◌, ◌-◌, ◌≤◌, false, inl, inr, All, Option, None, Some, List, [], ◌∷◌, ◌++◌, arith, ap, sym, subst, append-nil, append_assoc}
use Rattle.std.proofs.lemmas.Bool.{cases_lt}
use Rattle.std.proofs.lemmas.List.{map-append}
use Rattle.std.proofs.lemmas.List.Elements.{All-append, All-cons, All-nil}
use Rattle.std.specs.Option.{SomeIff}
use Rattle.svn_path.specs.Path.{components_of}
use Rattle.svn_path.specs.declared.names.NameId.{NameId}
use Rattle.svn_dump.specs.Dump.{DumpValue}
use Rattle.query_answer.specs.Repo.{trees_in_bytes}
use Rattle.branch_answer.specs.KeptLife.{HasPathsOf, life_in_bytes, lives_in_bytes}
use Rattle.branch_answer.specs.Life.{PathOfBytes, life_at, lives_of}
use Rattle.branch_answer.specs.Life as life
use Rattle.branch_answer.specs.Presence.{IsKnownPath, IsLastOfLife, IsLifeIn, IsNewest, is_present, lives_on_in}
use Rattle.branch_answer.specs.declared.life.Life.{Life}
use Rattle.branch_answer.proofs.Begun.{found_below, found_below-one, found_below-skip, life_at-absent, life_at-on, lives_of-found}
use Rattle.branch_answer.proofs.Revisions.{lives_on-absent}

-- how many revisions are left
abbrev pub bound_of : Option ℕ → ℕ
bound_of None = 0
bound_of (Some rev) = suc rev

-- the revisions before one
pub bound-before : (first : ℕ) (from : Option ℕ) → SomeIff from (1 ≤ first) (first - 1) → bound_of from ≡ first
bound-before first None is = elim (cases_lt 0 first) [ inl some ↦ absurd (is (omega (arith, some))) | inr none ↦ omega (arith, none) ]
bound-before first (Some rev) is = omega (arith, is.0, is.1)

module _ (dump : DumpValue) (path : List NameId) (top : ℕ) where
  abbrev parts : PathOfBytes
  parts = components_of dump.names path

  abbrev begun : ℕ → Option life.Life
  begun = life_at (trees_in_bytes dump) parts top

  -- those that begin in the revisions below the bound follow, the last of which ends below it
  pub record AreFound (lives : List Life) (from : Option ℕ) : Type 0 where
    pub known : IsKnownPath dump path top
    pub within : bound_of from ≤ suc top
    pub of_names : All (HasPathsOf dump.names) lives
    pub whole : lives_of (trees_in_bytes dump) parts top ≡ lives_in_bytes dump.names lives ++ found_below begun (bound_of from)
    pub ends : bound_of from ≤ top → lives_on_in dump path (bound_of from) ≡ false

  pub AreFound-start : IsKnownPath dump path top → AreFound [] (Some top)
  AreFound-start known = record {
    known = known;
    within = omega arith;
    of_names = All-nil (HasPathsOf dump.names);
    whole = lives_of-found (trees_in_bytes dump) parts top;
    ends = λ below. absurd (omega (arith, below));
  }

  -- none is left
  pub AreFound-none : (lives : List Life) → AreFound lives None → lives_in_bytes dump.names lives ≡ lives_of (trees_in_bytes dump) parts top
  AreFound-none lives found = sym (found.whole ∙ append-nil (lives_in_bytes dump.names lives))

  -- the path is in no revision that is left
  pub AreFound-gone : (lives : List Life) (rev : ℕ) → AreFound lives (Some rev) → ((each : ℕ) → each ≤ rev → is_present dump path each ≡ false)
      → lives_in_bytes dump.names lives ≡ lives_of (trees_in_bytes dump) parts top
  AreFound-gone lives rev found gone =
      sym (found.whole
      ∙ ap (λ more. lives_in_bytes dump.names lives ++ more)
      (found_below-skip begun 0 (suc rev) (omega arith) (λ each low below. life_at-absent (trees_in_bytes dump) parts top each (gone each (omega (arith, below)))))
      ∙ append-nil (lives_in_bytes dump.names lives))

  module _ (lives : List Life) (rev : ℕ) (found : AreFound lives (Some rev)) (last : ℕ) (newest : IsNewest dump path rev last) where
    -- the newest revision that has the path is the last one of a life
    pub IsLastOfLife-newest : IsLastOfLife dump path last top
    IsLastOfLife-newest = record {
      known = found.known;
      within = omega (arith, newest.within, found.within);
      there = newest.there;
      ends = λ below. elim (cases_lt last rev) [
        | inl later ↦ lives_on-absent (trees_in_bytes dump) parts (last + 1) (newest.gone (last + 1) (omega arith) (omega (arith, later)))
        | inr same ↦
            let number : suc rev ≡ last + 1 = omega (arith, same, newest.within) in
            subst (λ each. lives_on_in dump path each ≡ false) number (found.ends (omega (arith, below, number)))
      ];
    }

    -- with that life
    pub AreFound-more : (one : Life) (from : Option ℕ) → IsLifeIn dump path last top one → bound_of from ≡ one.first → AreFound (lives ++ one ∷ []) from
    AreFound-more one from is bound =
        let trees = trees_in_bytes dump in
        let before = lives_in_bytes dump.names lives in
        let skipped : found_below begun (suc rev) ≡ found_below begun (suc one.first) =
        found_below-skip begun (suc one.first) (suc rev) (omega (arith, is.within, newest.within)) (λ each low below. elim (cases_lt last each) [
          | inl gone ↦ life_at-absent trees parts top each (newest.gone each gone (omega (arith, below)))
          | inr on ↦ life_at-on trees parts top each (is.on each (omega (arith, low)) on)
        ]) in
        let here : found_below begun (suc rev) ≡ life_in_bytes dump.names one ∷ found_below begun (bound_of from) =
        skipped ∙ found_below-one begun one.first (life_in_bytes dump.names one) is.is ∙ ap (λ n. life_in_bytes dump.names one ∷ found_below begun n) (sym bound) in
        record {
          known = found.known;
          within = omega (arith, bound, is.within, newest.within, found.within);
          of_names = All-append (HasPathsOf dump.names) lives (one ∷ []) found.of_names (All-cons (HasPathsOf dump.names) one [] is.of_names (All-nil (HasPathsOf dump.names)));
          whole = found.whole ∙ ap (λ more. before ++ more) here
              ∙ sym (append_assoc before (life_in_bytes dump.names one ∷ []) (found_below begun (bound_of from)))
              ∙ ap (λ all. all ++ found_below begun (bound_of from)) (sym (map-append (life_in_bytes dump.names) lives (one ∷ [])));
          ends = λ below. subst (λ each. lives_on_in dump path each ≡ false) (sym bound) is.begins;
        }
