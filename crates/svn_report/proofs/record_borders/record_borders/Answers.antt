use Rattle.svn_report.proofs.Common.{◌≡◌, ◌-◌, ◌<◌, All, length, map, sym, ap, subst, arith, ◌∙◌, IfOk-weaker, AreBorders, AreBlockEnds, AreBordersLeft, sum_at}
use Rattle.svn_report.proofs.RecordEnds.{AreBorders-read, ends-below, last_border-read, map-sum_at}
use Rattle.svn_report.proofs.record_borders.record_borders.Goals as goal
use Rattle.svn_report.proofs.record_borders.record_borders.Goals.{In_ok-borders, In_ok-ends}

-- the revisions at which the sums are read
ends_of : (c : In_ok-ends) → AreBorders 0 (length c.args.sums.now - 1) c.in_ok-ends.ends.items
ends_of c =
    let len : length c.counts.result.now ≡ length c.args.sums.now = omega (arith, ap length c.counts.ensures.value, c.requires.sums.len) in
    subst (λ n. AreBorders 0 (n - 1) c.in_ok-ends.ends.items) len c.in_ok-ends.ensures.borders

-- the sums that are read
sums_of : (c : In_ok-borders) → c.in_ok-borders.borders.items ≡ map (sum_at c.args.sums.now) c.in_ok-ends.ends.items
sums_of c = c.in_ok-borders.ensures ∙ ap (map (sum_at c.args.sums.now)) c.as_slice.ensures.value

pub sums_at-requires : goal.sums_at-requires
sums_at-requires c =
    let sums = c.args.sums.now in
    let ends = c.in_ok-ends.ends.items in
    let under = ends-below c.args.dump.now c.counts.ensures.kept sums c.requires.sums ends (ends_of (goal.at.sums_at-requires c).In_ok-ends) in
    subst (All (λ rev. rev < length sums)) (sym c.as_slice.ensures.value) under

pub share_out-requires-clause-borders : goal.share_out-requires-clause-borders
share_out-requires-clause-borders c =
    let at = goal.at.share_out-requires-clause-borders c in
    AreBorders-read c.args.dump.now c.counts.ensures.kept c.args.sums.now c.requires.sums c.in_ok-ends.ends.items (ends_of at.In_ok-ends) c.as_slice-2.result.now (c.as_slice-2.ensures.value ∙ sums_of at.In_ok-borders)

pub share_out-requires-clause-few_records : goal.share_out-requires-clause-few_records
share_out-requires-clause-few_records c =
    let at = goal.at.share_out-requires-clause-few_records c in
    let all = last_border-read c.args.dump.now c.counts.ensures.kept c.args.sums.now c.requires.sums c.in_ok-ends.ends.items (ends_of at.In_ok-ends) c.as_slice-2.result.now (c.as_slice-2.ensures.value ∙ sums_of at.In_ok-borders) in
    omega (arith, all, c.counts.ensures.kept.few_records)

pub returns-clause-exact : goal.returns-clause-exact
returns-clause-exact c =
    let dump = c.args.dump.now in
    let sums = c.args.sums.now in
    let ends = c.in_ok-ends.ends.items in
    let at = goal.at.returns-clause-exact c in
    let read = map-sum_at dump c.counts.ensures.kept sums c.requires.sums ends (ends_of at.In_ok-ends) in
    IfOk-weaker c.share_out.result _ _
    (λ kept left. record {
      ends = ends;
      are = subst (λ n. AreBlockEnds c.args.cuts.now (n - 1) ends) (ap length c.counts.ensures.value) c.in_ok-ends.ensures.exact;
      left = subst (λ l. AreBordersLeft c.args.workers.count l kept.items) (c.as_slice-2.ensures.value ∙ sums_of at.In_ok-borders ∙ read) left;
    })
    c.share_out.ensures.exact

pub returns-clause-rise : goal.returns-clause-rise
returns-clause-rise c =
    let at = goal.at.returns-clause-rise c in
    let all = last_border-read c.args.dump.now c.counts.ensures.kept c.args.sums.now c.requires.sums c.in_ok-ends.ends.items (ends_of at.In_ok-ends) c.as_slice-2.result.now (c.as_slice-2.ensures.value ∙ sums_of at.In_ok-borders) in
    IfOk-weaker c.share_out.result _ _ (λ kept rise. subst (λ last. AreBorders 0 last kept.items) all rise) c.share_out.ensures.borders
