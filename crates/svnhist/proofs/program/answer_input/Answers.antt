use Rattle.std.proofs.Common.{ℕ, List, rules, subst}
use Rattle.svnhist.specs.Bundle.{BundleValue, IsBundle}
use Rattle.svnhist.proofs.program.answer_input.Goals as goal

pub returns-clause-ok : goal.returns-clause-ok
returns-clause-ok g c = record {
  bytes = c.in_ok-bytes.bytes.items;
  read = search rules;
  none = subst (λ (bytes : List ℕ). (value : BundleValue) → IsBundle bytes value → ⊥) c.as_slice.ensures.value c.in-None.ensures.none;
}
