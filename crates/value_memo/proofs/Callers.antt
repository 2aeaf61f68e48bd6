-- What a caller's proof cites of a worker that asks for each number with its text in one list.
use Rattle.std.proofs.Common.{◌≡◌, ℕ, zero, suc, List, [], ◌∷◌, Option, Some, None, slice_get, slice_set, refl, sym, ap, subst, ◌∙◌}
use Rattle.std.specs.Option.{option_flatten}
use Rattle.std.proofs.lemmas.Option.{none-some, same_Some}
use Rattle.value_memo.specs.SeenValue.{SeenValue, AsksOnly, IsAnswered, MayAsk, nothing_seen, text_at}

text_at-nothing_seen : (memo : List ℕ) (id : ℕ) → text_at (nothing_seen memo) id ≡ None
text_at-nothing_seen [] id = refl
text_at-nothing_seen (cell ∷ memo) zero = refl
text_at-nothing_seen (cell ∷ memo) (suc id) = text_at-nothing_seen memo id

-- nothing was asked of a new worker
pub AsksOnly-nothing_seen : (values : List (List ℕ)) (memo : List ℕ) → AsksOnly values (nothing_seen memo)
AsksOnly-nothing_seen values memo id before known = absurd (none-some before (sym (text_at-nothing_seen memo id) ∙ known))

pub MayAsk-nothing_seen : (memo : List ℕ) (id : ℕ) (text : List ℕ) → MayAsk (nothing_seen memo) id text
MayAsk-nothing_seen memo id text before known = absurd (none-some before (sym (text_at-nothing_seen memo id) ∙ known))

-- such a worker may ask for a number with its text
pub MayAsk-value : (values : List (List ℕ)) (seen : SeenValue) (id : ℕ) (text : List ℕ) → AsksOnly values seen → slice_get values id ≡ Some text → MayAsk seen id text
MayAsk-value values seen id text only of_id before known = same_Some before text (sym (only id before known) ∙ of_id)

texts-set : (P : ℕ → List ℕ → Type 0) (texts : List (Option (List ℕ))) (at : ℕ) (text : List ℕ) → P at text → ((id : ℕ) (t : List ℕ) → option_flatten (slice_get texts id) ≡ Some t → P id t) → (id : ℕ) (t : List ℕ) → option_flatten (slice_get (slice_set texts at (Some text)) id) ≡ Some t → P id t
texts-set P [] at text here others id t known = others id t known
texts-set P (first ∷ texts) zero text here others zero t known = subst (P zero) (same_Some text t known) here
texts-set P (first ∷ texts) zero text here others (suc id) t known = others (suc id) t known
texts-set P (first ∷ texts) (suc at) text here others zero t known = others zero t known
texts-set P (first ∷ texts) (suc at) text here others (suc id) t known = texts-set (λ n. P (suc n)) texts at text here (λ n. others (suc n)) id t known

-- it stays such a worker
pub AsksOnly-answered : (values : List (List ℕ)) (old : SeenValue) (id : ℕ) (text : List ℕ) (new : SeenValue) → AsksOnly values old → slice_get values id ≡ Some text → IsAnswered old id text new → AsksOnly values new
AsksOnly-answered values old id text new only of_id answered number before known =
    texts-set (λ n t. slice_get values n ≡ Some t) old.texts id text of_id only number before (ap (λ texts. option_flatten (slice_get texts number)) (sym answered.texts) ∙ known)
