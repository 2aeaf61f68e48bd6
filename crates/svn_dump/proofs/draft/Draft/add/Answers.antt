use Rattle.svn_dump.proofs.Common.{sym, ap, ◌∙◌, history_in_bytes, with_content, first_holding, refusals_by, content_refusals}
use Rattle.svn_dump.proofs.Fields.{copied_some, copied_none}
use Rattle.svn_dump.proofs.Contents.{content_said-revision, content_said-node, content_said-uuid, content_said-other}
use Rattle.svn_dump.proofs.Growth.{GrowsTo_same}
use Rattle.svn_dump.proofs.draft.Draft.add.Goals as goal

pub returns-in-Some-clause-added : goal.returns-in-Some-clause-added
returns-in-Some-clause-added c =
    rw (content_said-revision c.args.found.now.format c.args.found.now.headers c.args.found.now.properties.now c.in-Some.number.now (sym c.in-Some.ensures)) c.add_revision.ensures.added

pub returns-in-Some-clause-refused : goal.returns-in-Some-clause-refused
returns-in-Some-clause-refused c =
    rw (content_said-revision c.args.found.now.format c.args.found.now.headers c.args.found.now.properties.now c.in-Some.number.now (sym c.in-Some.ensures)) c.add_revision.ensures.refused

pub returns-in-Some-get-clause-added : goal.returns-in-Some-get-clause-added
returns-in-Some-get-clause-added c =
    rw (content_said-node c.args.found.now.format c.args.found.now.headers c.args.found.now.properties.now c.in-Some-get.path.now (sym c.in_default.ensures) (sym c.in-Some-get.ensures)) c.add_record.ensures.added

pub returns-in-Some-get-clause-refused : goal.returns-in-Some-get-clause-refused
returns-in-Some-get-clause-refused c =
    rw (content_said-node c.args.found.now.format c.args.found.now.headers c.args.found.now.properties.now c.in-Some-get.path.now (sym c.in_default.ensures) (sym c.in-Some-get.ensures)) c.add_record.ensures.refused

pub returns-then-is_some-clause-added : goal.returns-then-is_some-clause-added
unfolding with_content
returns-then-is_some-clause-added c =
    let value = copied_some c.get-in_default-get.result (sym c.is_some.ensures ∙ c.if-is_some.true) in
    ap (with_content (history_in_bytes c.args.self.now)) (content_said-uuid c.args.found.now.format c.args.found.now.headers c.args.found.now.properties.now value.0 (sym c.in_default.ensures) (sym c.in_default-get.ensures)
    (sym c.get-in_default-get.ensures ∙ value.1))

pub returns-else-is_some-clause-refused : goal.returns-else-is_some-clause-refused
unfolding first_holding refusals_by
returns-else-is_some-clause-refused c = λ whole.
    let none = copied_none c.get-in_default-get.result (sym c.is_some.ensures ∙ c.if-is_some.false) in
    ap (λ content. first_holding (content_refusals (history_in_bytes c.args.self.now) content)) (content_said-other c.args.found.now.format c.args.found.now.headers c.args.found.now.properties.now (sym c.in_default.ensures) (sym c.in_default-get.ensures)
    (sym c.get-in_default-get.ensures ∙ none))

pub returns-then-is_some-clause-grows : goal.returns-then-is_some-clause-grows
returns-then-is_some-clause-grows c = GrowsTo_same c.args.self.now
