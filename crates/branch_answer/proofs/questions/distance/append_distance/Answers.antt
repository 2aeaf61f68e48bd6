use Rattle.std.proofs.Common.{◌≡◌, ◌∙◌, ◌+◌, ◌++◌, ap, length, subst, sym}
use Rattle.std.specs.List.{slice_split}
use Rattle.std.proofs.lemmas.Result.{err_from_is_err_and}
use Rattle.query_answer.specs.Query.{is_tab}
use Rattle.branch_answer.specs.KeptNew.{AreCounted, AreOfRangelist, IsHeldBy, holder_in_bytes}
use Rattle.branch_answer.specs.KeptOperatives.{AreOperativesIn}
use Rattle.branch_answer.specs.NewRevisions.{all_revisions}
use Rattle.query_answer.specs.Repo.{trees_in_bytes}
use Rattle.branch_answer.proofs.DistanceTold.{IsUntold-from, IsUntold-rangelist, distance_answer-lines, length-history, lines_by, targets_text-lines}
use Rattle.branch_answer.proofs.questions.distance.append_distance.Goals as goal

pub returns-in_err-uncounted-clause-none : goal.returns-in_err-uncounted-clause-none
returns-in_err-uncounted-clause-none c =
    let told = err_from_is_err_and c.from_residual.result c.from_residual.ensures.1 in
    rw (told.1, told.2) (IsUntold-rangelist c.args.repo.now c.args.from.now c.args.uncounted.now (slice_split is_tab c.args.to.now) c.in_err-uncounted.field-0.0 c.in_err-uncounted.ensures.refused)

pub returns-in_err-one-clause-none : goal.returns-in_err-one-clause-none
returns-in_err-one-clause-none c =
    let told = err_from_is_err_and c.from_residual-in_err-one.result c.from_residual-in_err-one.ensures.1 in
    rw (told.1, told.2) (IsUntold-from c.args.repo.now c.args.from.now c.args.uncounted.now (slice_split is_tab c.args.to.now)
    c.in_ok-uncounted.uncounted c.in_ok-uncounted.ensures.ranges c.in_err-one.field-0.0 c.in_err-one.ensures.refused)

pub append_targets-requires-clause-one : goal.append_targets-requires-clause-one
append_targets-requires-clause-one c =
    (subst (λ range. IsHeldBy c.args.repo.now c.args.from.now range c.in_ok-one.one) c.all_revisions-range.ensures c.in_ok-one.ensures.held).is

pub append_targets-requires-clause-operatives : goal.append_targets-requires-clause-operatives
append_targets-requires-clause-operatives c =
    subst (λ range. AreOperativesIn c.args.repo.now range c.find.new.operatives) c.all_revisions-range.ensures c.in_ok-one.ensures.operatives

pub append_targets-requires-clause-counted : goal.append_targets-requires-clause-counted
append_targets-requires-clause-counted c =
    let dump = c.args.repo.now in
    let all : c.youngest.result + 1 ≡ length dump.counts = c.youngest.ensures ∙ length-history dump c.in_ok-one.ensures.held.is.kept in
    subst (λ count. AreCounted count c.in_ok-counted.counted) all c.in_ok-counted.ensures.counts

pub returns-clause-lines : goal.returns-clause-lines
returns-clause-lines c =
    let dump = c.args.repo.now in
    let from = c.args.from.now in
    let bytes = c.args.uncounted.now in
    let to = slice_split is_tab c.args.to.now in
    let one = c.in_ok-one.one in
    let counted = c.in_ok-counted.counted in
    let are = subst (AreOfRangelist bytes) (sym c.in_ok-counted.ensures.uncounted) c.in_ok-uncounted.ensures.ranges in
    let held = subst (λ range. IsHeldBy dump from range one) c.all_revisions-range.ensures c.in_ok-one.ensures.held in
    record {
      lines = lines_by dump from bytes to counted.uncounted (holder_in_bytes dump one);
      is = distance_answer-lines dump from bytes to counted.uncounted are (all_revisions (trees_in_bytes dump)) one held;
      text = c.in_ok-append_targets.ensures.lines ∙ ap (λ text. c.args.out.now.items ++ text) (targets_text-lines dump from bytes to one counted);
    }
