-- The stronger of two holdings.
use Rattle.std.proofs.Common.{◌≡◌, ◌∙◌, ◌<◌, ◌≤◌, inl, inr, refl, sym, ap, arith, if◌then◌else◌}
use Rattle.std.proofs.lemmas.Bool.{cases_lt, le-ltb, lt-ltb}
use Rattle.branch_answer.specs.KeptHolding.{strength, stronger}
use Rattle.branch_answer.specs.declared.holding.Holding.{Holding}
use Rattle.branch_answer.specs.declared.holding.Holding.TheVariants.{Below, InHistory, InPart, Merged, Not}

-- one that is as strong stays
pub stronger-one : (one other : Holding) → strength other ≤ strength one → stronger one other ≡ one
stronger-one one other weaker = ap (λ b. if b then other else one) (le-ltb (strength one) (strength other) weaker)

pub stronger-other : (one other : Holding) → strength one < strength other → stronger one other ≡ other
stronger-other one other less = ap (λ b. if b then other else one) (lt-ltb (strength one) (strength other) less)

pub stronger-same : (one : Holding) → stronger one one ≡ one
stronger-same one = stronger-one one one (omega arith)

pub stronger-Not : (one : Holding) → stronger one Not ≡ one
stronger-Not one = stronger-one one Not (omega arith)

pub Not-stronger : (one : Holding) → stronger Not one ≡ one
Not-stronger Not = refl
Not-stronger (Below index) = refl
Not-stronger InPart = refl
Not-stronger Merged = refl
Not-stronger InHistory = refl

-- so one mark after another is one mark
pub stronger-stronger : (a b c : Holding) → stronger (stronger a b) c ≡ stronger a (stronger b c)
stronger-stronger a b c = elim (cases_lt (strength a) (strength b)) [
  | inl more ↦ ap (λ x. stronger x c) (stronger-other a b more) ∙ elim (cases_lt (strength b) (strength c)) [
    | inl most ↦ stronger-other b c most ∙ sym (ap (stronger a) (stronger-other b c most) ∙ stronger-other a c (omega (arith, more, most)))
    | inr less ↦ stronger-one b c less ∙ sym (ap (stronger a) (stronger-one b c less) ∙ stronger-other a b more)
  ]
  | inr stays ↦ ap (λ x. stronger x c) (stronger-one a b stays) ∙ elim (cases_lt (strength b) (strength c)) [
    | inl most ↦ ap (stronger a) (sym (stronger-other b c most))
    | inr less ↦ stronger-one a c (omega (arith, stays, less)) ∙ sym (ap (stronger a) (stronger-one b c less) ∙ stronger-one a b stays)
  ]
]
