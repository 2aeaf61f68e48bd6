use Rattle.std.proofs.Common.{map, sym, subst}
use Rattle.std.specs.Prelude.{string_bytes}
use Rattle.devices.specs.Arguments.{texts_of}
use Rattle.svnhist_live.specs.Arguments.{ArgumentsValue, IsArguments}
use Rattle.svnhist_live.specs.Asked.{IsMisused}
use Rattle.svnhist_live.proofs.program.talk_asked.Goals as goal

pub returns-in-Ok-clause-misused : goal.returns-in-Ok-clause-misused
returns-in-Ok-clause-misused g c = λ _.
    subst (λ arguments. IsMisused (texts_of arguments)) (sym c.in-Ok.is)
    (subst (λ all. (asked : ArgumentsValue) → IsArguments (map string_bytes all) asked → ⊥) c.as_slice.ensures.value c.in-None.ensures.none)
