use Rattle.svn_dump.proofs.Common.{sym, ◌∙◌, Some, option_copied, map-set, field_index}
use Rattle.svn_dump.proofs.Fields.{AreHeaders-unlisted, AreHeaders-listed, AreHeaders-twice, copied_some, copied_none}
use Rattle.svn_dump.proofs.grammar.headers.Headers.add.Goals as goal

pub returns-then-is_some-clause-twice : goal.returns-then-is_some-clause-twice
returns-then-is_some-clause-twice c = λ lines line named before once.
    let value = copied_some c.get.result (sym c.is_some.ensures ∙ c.if-is_some.true) in
    AreHeaders-twice lines line c.args.name.now named c.args.self.now (field_index c.in-Some.field) value.0 c.in-Some.ensures (sym c.get.ensures ∙ value.1) before once

pub returns-else-is_some-clause-ok : goal.returns-else-is_some-clause-ok
returns-else-is_some-clause-ok c = λ lines line named valued before.
    let none = copied_none c.get.result (sym c.is_some.ensures ∙ c.if-is_some.false) in
    let after = AreHeaders-listed lines line c.args.name.now named c.args.self.now (field_index c.in-Some.field) c.in-Some.ensures (sym c.get.ensures ∙ none) before in
    rw (map-set option_copied c.self.inside.values c.index.result (Some c.args.value), c.index.ensures, c.self.view_is, ← valued) after

pub returns-in_default-clause-ok : goal.returns-in_default-clause-ok
returns-in_default-clause-ok c = λ lines line named valued before. AreHeaders-unlisted lines line c.args.name.now named c.args.self.now c.in_default.ensures before
