-- Marks on neighbouring revisions.
use Rattle.std.proofs.Common.{◌≡◌, ◌≢◌, ◌∙◌, ℕ, zero, suc, ◌+◌, ◌<◌, ◌≤◌, ◌==◌, ◌||◌, Bool, true, false, List, [], ◌∷◌, ◌++◌, refl, sym, ap, ap₂, arith, eq-eqb, eqb-true, get_or, length, set, take, if◌then◌else◌}
use Rattle.std.specs.List.{list_any}
use Rattle.std.proofs.lemmas.Bool.{ne_eqb}
use Rattle.std.proofs.lemmas.List.{take_all, take_more}
use Rattle.std.proofs.lemmas.List.Folds.{list_any-append}
use Rattle.branch_answer.specs.KeptHolding.{stronger}
use Rattle.branch_answer.specs.KeptHoldings.{AreMarked, IsAmong, Mark, mark_of}
unfoldable use Rattle.branch_answer.specs.KeptHoldings.{marked}
use Rattle.branch_answer.specs.declared.holding.Holding.{Holding}
use Rattle.branch_answer.specs.declared.holding.Holding.TheVariants.{Not}
use Rattle.branch_answer.specs.declared.holdings.Holdings.{Holdings}
use Rattle.branch_answer.proofs.Strengths.{Not-stronger, stronger-Not, stronger-same, stronger-stronger}

-- ---- of cells

pub marked-same : (f g : Mark) (rev : ℕ) (how : List Holding) → ((each : ℕ) → rev ≤ each → each < rev + length how → f each ≡ g each) → marked f rev how ≡ marked g rev how
unfolding marked
marked-same f g rev [] same = refl
marked-same f g rev (one ∷ how) same =
    let first : stronger one (f rev) ≡ stronger one (g rev) = ap (stronger one) (same rev (omega arith) (omega arith)) in
    ap₂ (λ x xs. x ∷ xs) first (marked-same f g (suc rev) how (λ each from below. same each (omega (arith, from)) (omega (arith, below))))

pub marked-none : (rev : ℕ) (how : List Holding) → marked (λ _. Not) rev how ≡ how
unfolding marked
marked-none rev [] = refl
marked-none rev (one ∷ how) = ap₂ (λ x xs. x ∷ xs) (stronger-Not one) (marked-none (suc rev) how)

-- one mark after another
pub marked-marked : (f g : Mark) (rev : ℕ) (how : List Holding) → marked g rev (marked f rev how) ≡ marked (λ each. stronger (f each) (g each)) rev how
unfolding marked
marked-marked f g rev [] = refl
marked-marked f g rev (one ∷ how) = ap₂ (λ x xs. x ∷ xs) (stronger-stronger one (f rev) (g rev)) (marked-marked f g (suc rev) how)

pub length-marked : (f : Mark) (rev : ℕ) (how : List Holding) → length (marked f rev how) ≡ length how
unfolding marked
length-marked f rev [] = refl
length-marked f rev (one ∷ how) = ap suc (length-marked f (suc rev) how)

-- ---- of revisions in a list

-- another revision has no mark
pub mark_of-other : (rev each : ℕ) (mark : Mark) → rev ≢ each → mark_of (rev ∷ []) mark each ≡ Not
mark_of-other rev each mark other = ap (λ b. if b || false then mark each else Not) (ne_eqb rev each other)

pub mark_of-itself : (rev each : ℕ) (mark : Mark) → rev ≡ each → mark_of (rev ∷ []) mark each ≡ mark each
mark_of-itself rev each mark same = ap (λ b. if b || false then mark each else Not) (eq-eqb rev each same)

pub mark_of-push : (revs : List ℕ) (rev : ℕ) (mark : Mark) (one : Holding) (each : ℕ) → one ≡ mark rev
    → stronger (mark_of revs mark each) (mark_of (rev ∷ []) (λ _. one) each) ≡ mark_of (revs ++ rev ∷ []) mark each
mark_of-push revs rev mark one each is =
    by (list_any (λ x. x == each) revs) (rev == each) (eqb-true rev each)
    ∙ ap (λ b. if b then mark each else Not) (sym (list_any-append (λ x. x == each) revs (rev ∷ [])))
  where
    by : (before here : Bool) → (here ≡ true → rev ≡ each)
        → stronger (if before then mark each else Not) (if here || false then one else Not) ≡ (if before || (here || false) then mark each else Not)
    by true true same = ap (stronger (mark each)) (is ∙ ap mark (same refl)) ∙ stronger-same (mark each)
    by true false same = stronger-Not (mark each)
    by false true same = Not-stronger one ∙ is ∙ ap mark (same refl)
    by false false same = refl

-- one of the cells
pub marked-set : (how : List Holding) (first i rev : ℕ) (one d : Holding) → rev ≡ first + i → i < length how
    → marked (mark_of (rev ∷ []) (λ _. one)) first how ≡ set how i (stronger (get_or how i d) one)
unfolding marked
marked-set [] first i rev one d is within = absurd (omega (arith, within))
marked-set (h ∷ how) first zero rev one d is within =
    ap₂ (λ x xs. x ∷ xs) (ap (stronger h) (mark_of-itself rev first (λ _. one) (omega (arith, is))))
    (marked-same (mark_of (rev ∷ []) (λ _. one)) (λ _. Not) (suc first) how (λ each from below. mark_of-other rev each (λ _. one) (λ same. omega (arith, same, is, from))) ∙ marked-none (suc first) how)
marked-set (h ∷ how) first (suc i) rev one d is within =
    ap₂ (λ x xs. x ∷ xs) (ap (stronger h) (mark_of-other rev first (λ _. one) (λ same. omega (arith, same, is))) ∙ stronger-Not h)
    (marked-set how (suc first) i rev one d (omega (arith, is)) (omega (arith, within)))

-- none of them
pub marked-outside : (how : List Holding) (first rev : ℕ) (one : Holding) → ((first ≤ rev) → (rev < first + length how) → ⊥)
    → marked (mark_of (rev ∷ []) (λ _. one)) first how ≡ how
marked-outside how first rev one outside =
    marked-same (mark_of (rev ∷ []) (λ _. one)) (λ _. Not) first how
    (λ each from below. mark_of-other rev each (λ _. one) (λ same. outside (omega (arith, same, from)) (omega (arith, same, below)))) ∙ marked-none first how

-- ---- of holdings

pub AreMarked-none : (old : Holdings) → AreMarked old old (λ _. Not)
AreMarked-none old = record { first = refl; how = sym (marked-none old.first old.how.items) }

pub AreMarked-same : (old new : Holdings) (f g : Mark) → AreMarked old new f → ((each : ℕ) → IsAmong old each → f each ≡ g each) → AreMarked old new g
AreMarked-same old new f g are same = record {
  first = are.first;
  how = are.how ∙ marked-same f g old.first old.how.items (λ each from below. same each (record { from = from; below = below }));
}

pub AreMarked-then : (a b c : Holdings) (f g : Mark) → AreMarked a b f → AreMarked b c g → AreMarked a c (λ each. stronger (f each) (g each))
AreMarked-then a b c f g one other = record {
  first = other.first ∙ one.first;
  how = other.how ∙ (λ i. marked g (one.first i) (one.how i)) ∙ marked-marked f g a.first a.how.items;
}

-- one revision of a list after another
module _ (old : Holdings) (revs : List ℕ) (mark : Mark) where
  pub AreMarked-start : AreMarked old old (mark_of (take 0 revs) mark)
  AreMarked-start = AreMarked-none old

  pub AreMarked-next : (between new : Holdings) (i d : ℕ) (one : Holding) → i < length revs → one ≡ mark (get_or revs i d)
      → AreMarked old between (mark_of (take i revs) mark) → AreMarked between new (mark_of (get_or revs i d ∷ []) (λ _. one)) → AreMarked old new (mark_of (take (i + 1) revs) mark)
  AreMarked-next between new i d one within is before after =
      AreMarked-same old new (λ each. stronger (mark_of (take i revs) mark each) (mark_of (get_or revs i d ∷ []) (λ _. one) each)) (mark_of (take (i + 1) revs) mark)
      (AreMarked-then old between new (mark_of (take i revs) mark) (mark_of (get_or revs i d ∷ []) (λ _. one)) before after)
      (λ each among. mark_of-push (take i revs) (get_or revs i d) mark one each is ∙ ap (λ all. mark_of all mark each) (sym (take_more revs i d within)))

  pub AreMarked-all : (new : Holdings) (i : ℕ) → length revs ≤ i → AreMarked old new (mark_of (take i revs) mark) → AreMarked old new (mark_of revs mark)
  AreMarked-all new i past are = AreMarked-same old new (mark_of (take i revs) mark) (mark_of revs mark) are (λ each among. ap (λ all. mark_of all mark each) (take_all i revs past))
