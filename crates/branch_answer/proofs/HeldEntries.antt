-- What the entries of a value have, one after another.
use Rattle.std.proofs.Common.{◌≡◌, ◌∙◌, ℕ, zero, suc, pred, ◌+◌, ◌-◌, ◌<◌, ◌≤◌, ◌==◌, ◌&&◌, ◌||◌, nat_lt, not, Bool, true, false, inl, inr, Option, None, Some, List, [], ◌∷◌, ◌++◌, filter, refl, sym, ap, arith, bytes_eq, eq-eqb, eqb-true, if◌then◌else◌}
use Rattle.std.specs.List.{list_any}
use Rattle.std.proofs.lemmas.Bool.{and_parts, cases_Bool, cases_eq, leb-true, ne_eqb}
use Rattle.std.proofs.lemmas.Map.Views.{any-filter_same}
use Rattle.svn_path.specs.Components.{parts_of}
use Rattle.svn_dump.specs.Dump.{DumpValue, history_in_bytes}
use Rattle.svn_dump.specs.Location.{origin_of}
use Rattle.svn_dump.specs.Record.{HistoryOfBytes}
use Rattle.svn_dump.specs.Tree.{is_there, tree_of}
use Rattle.range_list.specs.Rangelist.{inheritability_of, is_in, is_inheritable}
use Rattle.merge_info.specs.Value.{Entry, MergeInfoValue}
use Rattle.path_index.specs.Operative.{came_from_itself, down_from, names_below, records_in}
unfoldable use Rattle.path_index.specs.Operative.{is_operative}
use Rattle.query_answer.specs.Answer.{TreesOfBytes}
use Rattle.query_answer.specs.Repo.{trees_in_bytes}
use Rattle.branch_answer.specs.Holding.{either_way, entry_has}
unfoldable use Rattle.branch_answer.specs.Holding.{value_holds}
use Rattle.branch_answer.specs.HeldRevisions.{entry_mark, value_mark}
use Rattle.branch_answer.specs.KeptHolding.{Overrides, holding_by, stronger}
use Rattle.branch_answer.specs.KeptHoldings.{is_in_part, mark_of}
use Rattle.branch_answer.specs.declared.holding.Holding.{Holding}
use Rattle.branch_answer.specs.declared.holding.Holding.TheVariants.{Not}
use Rattle.branch_answer.proofs.Strengths.{Not-stronger, stronger-Not, stronger-same}

-- ---- a value

either_way-None : (one : Option Bool) → either_way one None ≡ one
either_way-None None = refl
either_way-None (Some inheritable) = refl

either_way-either_way : (a b c : Option Bool) → either_way (either_way a b) c ≡ either_way a (either_way b c)
either_way-either_way None b c = refl
either_way-either_way (Some a) None c = refl
either_way-either_way (Some true) (Some b) None = refl
either_way-either_way (Some true) (Some true) (Some c) = refl
either_way-either_way (Some true) (Some false) (Some c) = refl
either_way-either_way (Some false) (Some b) None = refl
either_way-either_way (Some false) (Some true) (Some c) = refl
either_way-either_way (Some false) (Some false) (Some c) = refl

holding_by-either_way : (whole part : Holding) → Overrides whole part → (one other : Option Bool)
    → stronger (holding_by whole part one) (holding_by whole part other) ≡ holding_by whole part (either_way one other)
holding_by-either_way whole part so None other = Not-stronger (holding_by whole part other)
holding_by-either_way whole part so (Some true) None = stronger-Not whole
holding_by-either_way whole part so (Some false) None = stronger-Not part
holding_by-either_way whole part so (Some true) (Some true) = stronger-same whole
holding_by-either_way whole part so (Some true) (Some false) = so.before
holding_by-either_way whole part so (Some false) (Some true) = so.after
holding_by-either_way whole part so (Some false) (Some false) = stronger-same part

value_holds-push : (history : HistoryOfBytes) (trees : TreesOfBytes) (entries : MergeInfoValue) (entry : Entry) (rev : ℕ)
    → value_holds history trees (entries ++ entry ∷ []) rev ≡ either_way (value_holds history trees entries rev) (entry_has history trees entry rev)
unfolding value_holds
value_holds-push history trees [] entry rev = either_way-None (entry_has history trees entry rev)
value_holds-push history trees (first ∷ entries) entry rev =
    ap (either_way (entry_has history trees first rev)) (value_holds-push history trees entries entry rev)
    ∙ sym (either_way-either_way (entry_has history trees first rev) (value_holds history trees entries rev) (entry_has history trees entry rev))

module _ (dump : DumpValue) (whole part : Holding) where
  pub value_mark-nil : (rev : ℕ) → value_mark dump whole part [] rev ≡ Not
  unfolding value_holds
  value_mark-nil rev = refl

  -- with one entry more
  pub value_mark-push : Overrides whole part → (entries : MergeInfoValue) (entry : Entry) (rev : ℕ)
      → stronger (value_mark dump whole part entries rev) (entry_mark dump whole part entry rev) ≡ value_mark dump whole part (entries ++ entry ∷ []) rev
  value_mark-push so entries entry rev =
      let history = history_in_bytes dump in
      let trees = trees_in_bytes dump in
      holding_by-either_way whole part so (value_holds history trees entries rev) (entry_has history trees entry rev)
      ∙ ap (holding_by whole part) (sym (value_holds-push history trees entries entry rev))

-- ---- an entry

-- a path that is not there is not changed
pub is_operative-nowhere : (history : HistoryOfBytes) (trees : TreesOfBytes) (path : List (List ℕ)) (rev : ℕ)
    → is_there bytes_eq (tree_of trees rev) path ≡ false → is_operative bytes_eq history trees path rev ≡ false
unfolding is_operative
is_operative-nowhere history trees path rev none =
    ap (λ b. nat_lt 0 rev && b && (names_below bytes_eq path (records_in history rev) || not (came_from_itself bytes_eq path rev (origin_of bytes_eq trees path rev)))) none
    ∙ by (nat_lt 0 rev) (names_below bytes_eq path (records_in history rev) || not (came_from_itself bytes_eq path rev (origin_of bytes_eq trees path rev)))
  where
    by : (after changed : Bool) → (after && false && changed) ≡ false
    by true changed = refl
    by false changed = refl

-- each of the numbers is there
list_any-down_from : (n top each : ℕ) → each ≤ top → top < each + n → list_any (λ x. x == each) (down_from n top) ≡ true
list_any-down_from zero top each to from = absurd (omega (arith, to, from))
list_any-down_from (suc n) top each to from = elim (cases_eq top each) [
  | inl here ↦ ap (λ b. b || list_any (λ x. x == each) (down_from n (pred top))) (eq-eqb top each here)
  | inr other ↦
      ap (λ b. b || list_any (λ x. x == each) (down_from n (pred top))) (ne_eqb top each other)
      ∙ list_any-down_from n (pred top) each (omega (arith, to, other)) (omega (arith, to, from, other))
]

module _ (dump : DumpValue) (whole part : Holding) (entry : Entry) where
  abbrev operative : ℕ → Bool
  operative rev = is_operative bytes_eq (history_in_bytes dump) (trees_in_bytes dump) (parts_of entry.path) rev

  -- no mark where the path was not changed
  pub entry_mark-not : (rev : ℕ) → operative rev ≡ false → entry_mark dump whole part entry rev ≡ Not
  entry_mark-not rev not = ap (λ b. holding_by whole part (if b then inheritability_of entry.runs rev else None)) not

  lacks : (rev : ℕ) → is_in entry.runs rev ≡ false → inheritability_of entry.runs rev ≡ None
  lacks rev out = ap (λ b. if b then Some (is_inheritable entry.runs rev) else None) out

  -- or where the runs lack the revision
  pub entry_mark-out : (rev : ℕ) → is_in entry.runs rev ≡ false → entry_mark dump whole part entry rev ≡ Not
  entry_mark-out rev out = ap (λ has. holding_by whole part (if operative rev then has else None)) (lacks rev out) ∙ by (operative rev)
    where
      by : (b : Bool) → holding_by whole part (if b then None else None) ≡ Not
      by true = refl
      by false = refl

  -- otherwise it is that of the revisions that changed the path
  module _ (revs : List ℕ) (lo hi : ℕ) (are : revs ≡ filter operative (down_from (hi + 1 - lo) hi)) where
    abbrev listed : ℕ → Holding
    listed rev = mark_of revs (λ each. holding_by whole part (inheritability_of entry.runs each)) rev

    listed-within : (rev : ℕ) → lo ≤ rev → rev ≤ hi → listed rev ≡ entry_mark dump whole part entry rev
    listed-within rev from to =
        let here : list_any (λ x. x == rev) revs ≡ operative rev =
        ap (list_any (λ x. x == rev)) are
        ∙ any-filter_same (λ x. x == rev) operative (operative rev) (λ x same. ap operative (eqb-true x rev same)) (down_from (hi + 1 - lo) hi)
        ∙ ap (λ b. operative rev && b) (list_any-down_from (hi + 1 - lo) hi rev to (omega (arith, from, to))) ∙ and-true (operative rev) in
        ap (λ b. if b then holding_by whole part (inheritability_of entry.runs rev) else Not) here ∙ by (operative rev)
      where
        and-true : (b : Bool) → (b && true) ≡ b
        and-true true = refl
        and-true false = refl

        by : (b : Bool) → (if b then holding_by whole part (inheritability_of entry.runs rev) else Not) ≡ holding_by whole part (if b then inheritability_of entry.runs rev else None)
        by true = refl
        by false = refl

    listed-out : (rev : ℕ) → is_in entry.runs rev ≡ false → listed rev ≡ Not
    listed-out rev out =
        ap (λ has. if list_any (λ x. x == rev) revs then holding_by whole part has else Not) (lacks rev out) ∙ by (list_any (λ x. x == rev) revs)
      where
        by : (b : Bool) → (if b then Not else Not) ≡ Not
        by true = refl
        by false = refl

    pub listed-entry_mark : (rev : ℕ) → (is_in_part (Some (lo, hi)) rev ≡ false → is_in entry.runs rev ≡ false) → listed rev ≡ entry_mark dump whole part entry rev
    listed-entry_mark rev holds = elim (cases_Bool (is_in_part (Some (lo, hi)) rev)) [
      | inl within ↦ let parts = and_parts _ _ within in listed-within rev (leb-true lo rev parts.0) (leb-true rev hi parts.1)
      | inr outside ↦ listed-out rev (holds outside) ∙ sym (entry_mark-out rev (holds outside))
    ]
