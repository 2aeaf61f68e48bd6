use Rattle.svn_dump.proofs.Common.{◌≡◌, length, sym, ap, ◌∙◌, arith, rules, Some, number_up_to, with_content}
use Rattle.svn_dump.proofs.Drafts.{not_same, IsDraft-with_revision, with_numbered-told, IsWholeHistory-with_revision, refused-number, refused-revision}
use Rattle.svn_dump.proofs.Growth.{GrowsTo-with_revision}
use Rattle.svn_dump.proofs.draft.Draft.add_revision.Goals as goal

pub invariant_of-self-2 : goal.invariant_of-self-2
invariant_of-self-2 c =
    let inside = c.self.inside in
    rw c.in_ok-push.ensures.items (IsDraft-with_revision inside.names inside.records.items inside.counts.items inside.texts c.self.invariant (omega arith))

pub returns-clause-added : goal.returns-clause-added
unfolding with_content
returns-clause-added c =
    let inside = c.self.inside in
    rw (c.in_ok-push.ensures.items, ← c.self.view_is) (with_numbered-told inside.names inside.records.items inside.counts.items inside.texts c.self.invariant c.args.number.now (search rules))

pub returns-clause-keeps : goal.returns-clause-keeps
returns-clause-keeps c =
    let inside = c.self.inside in
    rw (c.in_ok-push.ensures.items, ← c.self.view_is) (IsWholeHistory-with_revision inside.names inside.records.items inside.counts.items inside.texts c.self.invariant (omega arith))

pub returns-clause-grows : goal.returns-clause-grows
returns-clause-grows c = rw (c.in_ok-push.ensures.items, ← c.self.view_is) (GrowsTo-with_revision _)

pub returns-then-ne-clause-refused : goal.returns-then-ne-clause-refused
returns-then-ne-clause-refused c = λ whole.
    let inside = c.self.inside in
    let long : c.len-next.result ≡ length inside.counts.items = omega arith in
    rw (← c.self.view_is) (refused-number inside.names inside.records.items inside.counts.items inside.texts c.self.invariant c.args.number.now
    (λ same. not_same c.number_up_to.result c.len-next.result c.if-ne.ensures
    (c.number_up_to.ensures ∙ ap (λ n. number_up_to n c.args.number.now) long ∙ same ∙ ap Some (sym long))))

pub returns-then-next-ge-MOST_NUMBERED-clause-refused : goal.returns-then-next-ge-MOST_NUMBERED-clause-refused
returns-then-next-ge-MOST_NUMBERED-clause-refused c = λ whole.
    let inside = c.self.inside in
    rw (← c.self.view_is) (refused-revision inside.names inside.records.items inside.counts.items inside.texts c.self.invariant c.args.number.now (search rules) (omega arith))
