use Rattle.std.proofs.Common.{◌≡◌, ◌∙◌, ◌+◌, ◌-◌, ap, arith, length, replicate}
use Rattle.svn_dump.proofs.Histories.{length-history_in_bytes}
use Rattle.svn_dump.specs.Dump.{history_in_bytes}
use Rattle.branch_answer.specs.HeldRevisions.{count_in, history_mark, value_mark}
use Rattle.branch_answer.specs.declared.holding.Holding.TheVariants.{InPart, Merged, Not}
use Rattle.branch_answer.proofs.HeldCells.{AreHeldBy-marked}
use Rattle.branch_answer.proofs.OperativesKept.{AreOfRange-marked, AreOfRange-new, AreOperativesFor-before, AreOperativesFor-marked, AreOperativesFor-range, AreOperativesIn-holdings}
use Rattle.branch_answer.proofs.held_revisions.holdings_of.Goals as goal

pub mark_value-requires-clause-operatives : goal.mark_value-requires-clause-operatives
mark_value-requires-clause-operatives c =
    let dump = c.args.repo.now in
    let range = c.args.range in
    let new = c.in_ok-holdings.holdings in
    let old = c.mark_history.new.holdings in
    let of = AreOfRange-marked dump range new old (history_mark dump c.args.at.now) c.in_ok-mark_history.ensures
    (AreOfRange-new dump range c.youngest.result c.min.result new c.youngest.ensures c.min.ensures c.in_ok-holdings.ensures.first c.in_ok-holdings.ensures.how) in
    AreOperativesFor-range dump range old c.args.operatives.now of c.requires.operatives

pub returns-in_err-mark_value-clause-operatives : goal.returns-in_err-mark_value-clause-operatives
returns-in_err-mark_value-clause-operatives c =
    let dump = c.args.repo.now in
    let range = c.args.range in
    let new = c.in_ok-holdings.holdings in
    let old = c.mark_history.new.holdings in
    let of = AreOfRange-marked dump range new old (history_mark dump c.args.at.now) c.in_ok-mark_history.ensures
    (AreOfRange-new dump range c.youngest.result c.min.result new c.youngest.ensures c.min.ensures c.in_ok-holdings.ensures.first c.in_ok-holdings.ensures.how) in
    AreOperativesIn-holdings dump range old c.mark_value.new.operatives of c.in_err-mark_value.ensures.operatives

pub mark_all_below-requires-clause-operatives : goal.mark_all_below-requires-clause-operatives
mark_all_below-requires-clause-operatives c =
    AreOperativesFor-marked c.args.repo.now c.mark_history.new.holdings c.mark_value.new.holdings (value_mark c.args.repo.now Merged InPart c.args.value.now)
    c.mark_value.new.operatives c.in_ok-mark_value.ensures.marked c.in_ok-mark_value.ensures.operatives

pub returns-in_err-mark_all_below-clause-operatives : goal.returns-in_err-mark_all_below-clause-operatives
returns-in_err-mark_all_below-clause-operatives c =
    let dump = c.args.repo.now in
    let range = c.args.range in
    let new = c.in_ok-holdings.holdings in
    let old = c.mark_history.new.holdings in
    let of = AreOfRange-marked dump range new old (history_mark dump c.args.at.now) c.in_ok-mark_history.ensures
    (AreOfRange-new dump range c.youngest.result c.min.result new c.youngest.ensures c.min.ensures c.in_ok-holdings.ensures.first c.in_ok-holdings.ensures.how) in
    AreOperativesIn-holdings dump range old c.mark_all_below.new.operatives of
    (AreOperativesFor-before dump old c.mark_value.new.holdings (value_mark dump Merged InPart c.args.value.now) c.mark_all_below.new.operatives
    c.in_ok-mark_value.ensures.marked c.in_err-mark_all_below.ensures.operatives)

pub returns-clause-operatives : goal.returns-clause-operatives
returns-clause-operatives c =
    let dump = c.args.repo.now in
    let range = c.args.range in
    let new = c.in_ok-holdings.holdings in
    let old = c.mark_history.new.holdings in
    let of = AreOfRange-marked dump range new old (history_mark dump c.args.at.now) c.in_ok-mark_history.ensures
    (AreOfRange-new dump range c.youngest.result c.min.result new c.youngest.ensures c.min.ensures c.in_ok-holdings.ensures.first c.in_ok-holdings.ensures.how) in
    AreOperativesIn-holdings dump range old c.mark_all_below.new.operatives of
    (AreOperativesFor-before dump old c.mark_value.new.holdings (value_mark dump Merged InPart c.args.value.now) c.mark_all_below.new.operatives
    c.in_ok-mark_value.ensures.marked c.in_ok-mark_all_below.ensures.operatives)

pub returns-clause-held : goal.returns-clause-held
returns-clause-held c =
    let dump = c.args.repo.now in
    let new = c.in_ok-holdings.holdings in
    let count = c.min.result + 1 - c.args.range.0 in
    let long : length (history_in_bytes dump) ≡ length dump.counts = length-history_in_bytes dump.names dump.records dump.counts dump.values in
    let same : count ≡ count_in dump c.args.range = omega (arith, c.min.ensures, c.youngest.ensures, long) in
    AreHeldBy-marked dump c.args.at.now c.args.value.now c.args.range c.args.below.now c.requires.below new c.mark_history.new.holdings c.mark_value.new.holdings c.mark_all_below.new.holdings
    c.in_ok-holdings.ensures.first (c.in_ok-holdings.ensures.how ∙ ap (λ n. replicate n Not) same)
    c.in_ok-mark_history.ensures c.in_ok-mark_value.ensures.marked c.in_ok-mark_all_below.ensures.marked
