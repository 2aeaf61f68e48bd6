-- The history up to a revision.
use Rattle.path_index.proofs.Common.{◌≡◌, ℕ, zero, suc, ◌+◌, ◌≤◌, List, [], ◌∷◌, inl, inr, length, refl, sym, ap, ◌∙◌, arith, cases_order, get_or_append_left, get_or_push, length_push, NodeRecord, history_to, records_of, records_in}

-- it has this revision and those before
pub length-history_to : (records : List NodeRecord) (rev : ℕ) → length (history_to records rev) ≡ rev + 1
unfolding history_to
length-history_to records zero = refl
length-history_to records (suc rev) = omega (arith, length_push (history_to records rev) (records_of records (suc rev)), length-history_to records rev)

-- and in each the records with its number
pub records_in-history_to : (records : List NodeRecord) (rev k : ℕ) → k ≤ rev → records_in (history_to records rev) k ≡ records_of records k
unfolding history_to
records_in-history_to records zero zero before = refl
records_in-history_to records zero (suc k) before = absurd (omega arith)
records_in-history_to records (suc rev) k before =
    elim (cases_order k (suc rev)) [
      | inl last ↦
          get_or_push (history_to records rev) (records_of records (suc rev)) [] k (omega (arith, length-history_to records rev))
          ∙ ap (records_of records) (sym last)
      | inr (inl earlier) ↦
          get_or_append_left (history_to records rev) (records_of records (suc rev) ∷ []) [] k (omega (arith, length-history_to records rev))
          ∙ records_in-history_to records rev k (omega arith)
      | inr (inr later) ↦ absurd (omega arith)
    ]
