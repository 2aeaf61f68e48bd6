use Rattle.block_map.proofs.Common.{◌≡◌, ℕ, List, [], ◌∷◌, None, refl, sym, ap, ◌∙◌, NameId, ValueId, at, at_with, from_beginning, found_view}
use Rattle.block_map.proofs.found.Found.from_beginning.Goals as goal

-- no mergeinfo is that of the root before the first record
same_without : (path : List NameId) (tick : ℕ) → from_beginning {M = ValueId} (at_with path tick None) ≡ from_beginning (at path tick)
same_without [] tick = refl
same_without (name ∷ path) tick = refl

pub returns-in-At : goal.returns-in-At
returns-in-At c =
    c.root_or_absent.ensures c.in-At.tick ∙ same_without c.in-At.path c.in-At.tick ∙ ap (λ each. from_beginning (found_view each)) (sym c.in-At.is)
