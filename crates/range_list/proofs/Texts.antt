-- What is printed of runs, one after the other.
use Rattle.std.proofs.Common.{◌≡◌, ℕ, Bool, true, false, cond, List, [], ◌∷◌, ◌++◌, refl, sym, ap, ◌∙◌}
use Rattle.std.specs.Prelude.{flat_map}
use Rattle.std.proofs.lemmas.List.{append_assoc, append-nil}
use Rattle.std.proofs.lemmas.List.Concat.{flat_map-append}
use Rattle.std.proofs.lemmas.List.Elements.{filter-append}
use Rattle.range_list.specs.Rangelist.{inheritable_runs}
use Rattle.range_list.specs.Text.{run_text, rangelist_text}
use Rattle.range_list.specs.declared.run.Run.{Run}

-- a comma and the run
abbrev pub next_text : Run → List ℕ
next_text run = 44 ∷ run_text run

pub rangelist_text-cons : (run : Run) (runs : List Run) → rangelist_text (run ∷ runs) ≡ run_text run ++ flat_map next_text runs
rangelist_text-cons run [] = sym (append-nil (run_text run))
rangelist_text-cons run (next ∷ runs) = ap (λ rest. run_text run ++ 44 ∷ rest) (rangelist_text-cons next runs)

-- the first run, and then the others
pub rangelist_text-written : (old front out : List ℕ) (runs others : List Run) (first : Run) → runs ≡ first ∷ others → front ≡ old ++ run_text first → out ≡ front ++ flat_map next_text others → out ≡ old ++ rangelist_text runs
rangelist_text-written old front out runs others first is at_first at_others =
    at_others
    ∙ ap (λ bytes. bytes ++ flat_map next_text others) at_first
    ∙ append_assoc old (run_text first) (flat_map next_text others)
    ∙ ap (λ text. old ++ text) (sym (ap rangelist_text is ∙ rangelist_text-cons first others))

-- ---- the inheritable runs

abbrev pub is_some : List Run → Bool
is_some [] = false
is_some (run ∷ runs) = true

-- what stands before a run that comes after these
abbrev comma : Bool → List ℕ
comma follows = cond follows (44 ∷ []) []

rangelist_text-push : (runs : List Run) (run : Run)
    → rangelist_text (runs ++ run ∷ []) ≡ rangelist_text runs ++ comma (is_some runs) ++ run_text run
rangelist_text-push [] run = refl
rangelist_text-push (first ∷ runs) run =
    rangelist_text-cons first (runs ++ run ∷ [])
    ∙ ap (λ more. run_text first ++ more) (flat_map-append next_text runs (run ∷ []) ∙ ap (λ last. flat_map next_text runs ++ last) (append-nil (next_text run)))
    ∙ sym (append_assoc (run_text first) (flat_map next_text runs) (next_text run))
    ∙ ap (λ front. front ++ next_text run) (sym (rangelist_text-cons first runs))
    ∙ sym (append_assoc (rangelist_text (first ∷ runs)) (44 ∷ []) (run_text run))

-- of these runs the inheritable ones were written, and another one follows them or is the first
pub record AreWritten (old : List ℕ) (runs : List Run) (out : List ℕ) (follows : Bool) : Type 0 where
  pub text : out ≡ old ++ rangelist_text (inheritable_runs runs)
  pub some : follows ≡ is_some (inheritable_runs runs)

inheritable_runs-push : (runs : List Run) (run : Run)
    → inheritable_runs (runs ++ run ∷ []) ≡ inheritable_runs runs ++ cond run.inheritable (run ∷ []) []
inheritable_runs-push runs run = filter-append (λ (each : Run). each.inheritable) runs (run ∷ [])

module _ (old : List ℕ) (runs : List Run) (out : List ℕ) (follows : Bool) (written : AreWritten old runs out follows) (run : Run) where
  pub AreWritten-skip : run.inheritable ≡ false → AreWritten old (runs ++ run ∷ []) out follows
  AreWritten-skip skipped =
      let same : inheritable_runs (runs ++ run ∷ []) ≡ inheritable_runs runs =
      inheritable_runs-push runs run ∙ ap (λ b. inheritable_runs runs ++ cond b (run ∷ []) []) skipped ∙ append-nil (inheritable_runs runs) in
      record { text = written.text ∙ ap (λ kept. old ++ rangelist_text kept) (sym same); some = written.some ∙ ap is_some (sym same) }

  pub AreWritten-push : (new : List ℕ) → run.inheritable ≡ true → new ≡ out ++ comma follows ++ run_text run → AreWritten old (runs ++ run ∷ []) new true
  AreWritten-push new kept after =
      let same : inheritable_runs (runs ++ run ∷ []) ≡ inheritable_runs runs ++ run ∷ [] =
      inheritable_runs-push runs run ∙ ap (λ b. inheritable_runs runs ++ cond b (run ∷ []) []) kept in
      record {
        text = after
            ∙ ap (λ b. out ++ comma b ++ run_text run) written.some
            ∙ ap (λ bytes. bytes ++ comma (is_some (inheritable_runs runs)) ++ run_text run) written.text
            ∙ ap (λ front. front ++ run_text run) (append_assoc old (rangelist_text (inheritable_runs runs)) (comma (is_some (inheritable_runs runs))))
            ∙ append_assoc old (rangelist_text (inheritable_runs runs) ++ comma (is_some (inheritable_runs runs))) (run_text run)
            ∙ ap (λ text. old ++ text) (sym (ap rangelist_text same ∙ rangelist_text-push (inheritable_runs runs) run));
        some = sym (ap is_some same ∙ some (inheritable_runs runs));
      }
    where
      some : (kept : List Run) → is_some (kept ++ run ∷ []) ≡ true
      some [] = refl
      some (each ∷ kept) = refl
