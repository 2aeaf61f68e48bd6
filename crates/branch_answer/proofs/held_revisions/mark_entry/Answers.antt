use Rattle.std.proofs.Common.{◌≡◌, ◌∙◌, ◌+◌, ◌-◌, ap, bytes_eq, filter, sym}
use Rattle.svn_path.specs.Components.{parts_of}
use Rattle.svn_path.specs.Path.{components_of}
use Rattle.svn_dump.specs.Dump.{history_in_bytes}
use Rattle.range_list.specs.Rangelist.{inheritability_of}
use Rattle.merge_info.specs.Value.{entry_view}
use Rattle.path_index.specs.Operative.{down_from, is_operative}
use Rattle.query_answer.specs.Repo.{trees_in_bytes}
use Rattle.branch_answer.specs.HeldRevisions.{entry_mark}
use Rattle.branch_answer.specs.KeptHolding.{holding_by}
use Rattle.branch_answer.specs.KeptHoldings.{is_in_part, mark_of}
use Rattle.branch_answer.specs.declared.holding.Holding.TheVariants.{Not}
use Rattle.branch_answer.proofs.HeldEntries.{entry_mark-not, entry_mark-out, is_operative-nowhere, listed-entry_mark}
use Rattle.branch_answer.proofs.Marks.{AreMarked-none, AreMarked-same}
use Rattle.branch_answer.proofs.held_revisions.mark_entry.Goals as goal

-- no revision is among those of the runs
pub returns-in_default-clause-marked : goal.returns-in_default-clause-marked
returns-in_default-clause-marked c =
    let old = c.args.holdings.now in
    let entry = entry_view c.args.entry.now in
    AreMarked-same old old (λ _. Not) (entry_mark c.args.repo.now c.args.whole c.args.part entry) (AreMarked-none old)
    (λ each among. sym (entry_mark-out c.args.repo.now c.args.whole c.args.part entry each (c.part.ensures.whole each among (ap (λ part. is_in_part part each) c.in_default.is))))

-- the path is nowhere
pub returns-in_default-2-clause-marked : goal.returns-in_default-2-clause-marked
returns-in_default-2-clause-marked c =
    let dump = c.args.repo.now in
    let old = c.args.holdings.now in
    let entry = entry_view c.args.entry.now in
    let nowhere = c.in_ok-path.ensures.nowhere c.in_default-2.is in
    AreMarked-same old old (λ _. Not) (entry_mark dump c.args.whole c.args.part entry) (AreMarked-none old)
    (λ each among. sym (entry_mark-not dump c.args.whole c.args.part entry each
    (ap (λ path. is_operative bytes_eq (history_in_bytes dump) (trees_in_bytes dump) (parts_of path) each) (sym c.deref.ensures.value)
    ∙ is_operative-nowhere (history_in_bytes dump) (trees_in_bytes dump) (parts_of c.deref.result.now) each (nowhere each))))

pub returns-clause-marked : goal.returns-clause-marked
returns-clause-marked c =
    let dump = c.args.repo.now in
    let old = c.args.holdings.now in
    let entry = entry_view c.args.entry.now in
    let revs = c.on-revs.result.now in
    let lo = c.in-Some.lo in
    let hi = c.in-Some.hi in
    let named : components_of dump.names c.in-Some-2.path ≡ parts_of c.deref.result.now = rw c.in-Some-2.is at c.in_ok-path.ensures.spells in
    let are : revs ≡ filter (is_operative bytes_eq (history_in_bytes dump) (trees_in_bytes dump) (parts_of entry.path)) (down_from (hi + 1 - lo) hi) =
    c.on-revs.ensures dump c.in_ok-look_up.ensures.kept
    ∙ ap (λ path. filter (is_operative bytes_eq (history_in_bytes dump) (trees_in_bytes dump) path) (down_from (hi + 1 - lo) hi)) (named ∙ ap parts_of c.deref.ensures.value) in
    AreMarked-same old c.mark_merged.new.self (mark_of revs (λ each. holding_by c.args.whole c.args.part (inheritability_of entry.runs each))) (entry_mark dump c.args.whole c.args.part entry)
    c.mark_merged.ensures
    (λ each among. listed-entry_mark dump c.args.whole c.args.part entry revs lo hi are each (λ outside. c.part.ensures.whole each among (ap (λ part. is_in_part part each) c.in-Some.is ∙ outside)))
