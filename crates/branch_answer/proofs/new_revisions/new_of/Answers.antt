use Rattle.std.proofs.lemmas.Result.{err_from_is_err_and}
use Rattle.branch_answer.specs.HeldRevisions.{holding_in}
use Rattle.branch_answer.specs.KeptHoldings.{texts_of}
use Rattle.branch_answer.proofs.NewTold.{AreNewOf-kept, AreNumbers-held, IsComparisonRefused-one, IsComparisonRefused-other, IsComparisonRefused-rangelist}
use Rattle.branch_answer.proofs.new_revisions.new_of.Goals as goal

pub returns-in_err-uncounted-clause-refused : goal.returns-in_err-uncounted-clause-refused
returns-in_err-uncounted-clause-refused c =
    let told = err_from_is_err_and c.from_residual.result c.from_residual.ensures.1 in
    rw (told.1, told.2) (IsComparisonRefused-rangelist c.args.repo.now c.args.comparison.now c.in_err-uncounted.field-0.0 c.in_err-uncounted.ensures.refused)

pub returns-in_err-one-clause-refused : goal.returns-in_err-one-clause-refused
returns-in_err-one-clause-refused c =
    let told = err_from_is_err_and c.from_residual-in_err-one.result c.from_residual-in_err-one.ensures.1 in
    rw (told.1, told.2) (IsComparisonRefused-one c.args.repo.now c.args.comparison.now c.in_ok-uncounted.uncounted c.in_ok-uncounted.ensures.ranges c.in_err-one.field-0.0 c.in_err-one.ensures.refused)

pub returns-in_err-other-clause-refused : goal.returns-in_err-other-clause-refused
returns-in_err-other-clause-refused c =
    let told = err_from_is_err_and c.from_residual-in_err-other.result c.from_residual-in_err-other.ensures.1 in
    rw (told.1, told.2) (IsComparisonRefused-other c.args.repo.now c.args.comparison.now c.in_ok-uncounted.uncounted c.in_ok-uncounted.ensures.ranges
    c.range_or_all-range.result c.range_or_all-range.ensures c.in_ok-one.one c.in_ok-one.ensures.held c.in_err-other.field-0.0 c.in_err-other.ensures.refused)

pub keep_new-requires-clause-numbers : goal.keep_new-requires-clause-numbers
keep_new-requires-clause-numbers c =
    let dump = c.args.repo.now in
    let other = c.in_ok-other.other in
    let is = c.in_ok-other.ensures.held.is in
    AreNumbers-held dump is.kept c.range_or_all-range.result (holding_in dump other.at other.value) (texts_of dump.names other.below.items) other.holdings is.are.first is.are.how

pub returns-clause-new : goal.returns-clause-new
returns-clause-new c =
    AreNewOf-kept c.args.repo.now c.args.comparison.now c.in_ok-uncounted.uncounted c.in_ok-uncounted.ensures.ranges c.range_or_all-range.result c.range_or_all-range.ensures
    c.in_ok-one.one c.in_ok-one.ensures.held c.in_ok-other.other c.in_ok-other.ensures.held c.keep_new.new.self c.keep_new.ensures
