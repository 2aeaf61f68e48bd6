use Rattle.std.proofs.Common.{map, sym, subst, rules}
use Rattle.std.specs.Prelude.{string_bytes}
use Rattle.svnhist.specs.Arguments.{ArgumentsValue, IsArguments}
use Rattle.devices.specs.Arguments.{texts_of}
use Rattle.svnhist.specs.Asked.{IsMisused}
use Rattle.svnhist.proofs.Misuses.{IsMisused-wrong, map-some}
use Rattle.svnhist.proofs.program.answer.Goals as goal

pub returns-in-Ok-2-clause-ok : goal.returns-in-Ok-2-clause-ok
returns-in-Ok-2-clause-ok g c =
    let texts = c.in-Ok.texts.items in
    let state = g.I.Pull.state c.args.input.now in
    subst (λ arguments. IsMisused (texts_of arguments) state state) (sym c.in-Ok.is)
    (IsMisused-wrong (map string_bytes texts) state state
    (map-some string_bytes texts (search (rules, c.is_empty.ensures, c.if-is_empty.false)))
    (subst (λ all. (asked : ArgumentsValue) → IsArguments (map string_bytes all) asked → ⊥) c.as_slice.ensures.value c.in-None.ensures.none))
