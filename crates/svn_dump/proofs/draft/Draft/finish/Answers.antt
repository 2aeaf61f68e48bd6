use Rattle.svn_dump.proofs.Common.{length, sym, ap, ◌∙◌, vec_len, eq-eqb, subst, both_ways, IsWholeHistory}
use Rattle.svn_dump.proofs.Drafts.{IsDump-whole}
use Rattle.svn_dump.proofs.draft.Draft.finish.Goals as goal

pub invariant_of-result : goal.invariant_of-result
invariant_of-result c =
    IsDump-whole _ c.self.invariant (subst IsWholeHistory (sym c.self.view_is) c.requires)
    (λ none. both_ways _ (sym c.if-is_empty.ensures) (eq-eqb (vec_len c.self.inside.counts) 0 (c.self.inside.counts.ok.0 ∙ ap length none)))

pub returns-clause-kept : goal.returns-clause-kept
returns-clause-kept c = invariant_of-result c
