use Rattle.query_answer.proofs.Common.{◌≡◌, ap, ap₂, map, ◌∙◌, location_in, held_ranges_in, held_value, eligible_line, ok_answer, AreHitsIn, TellsLocations, eligible_by_hits, has_in, lent_ranges}
use Rattle.query_answer.proofs.PathSegments.{TellsLocations-AreSegmentsIn}
use Rattle.query_answer.proofs.SourceRevisions.{eligible_by_hits-in_range, has_in-held}
use Rattle.query_answer.proofs.verbs.eligible.eligible_revisions.Goals as goal

pub returns-clause-answer : goal.returns-clause-answer
returns-clause-answer c =
    let dump = c.args.repo.now in
    let held = c.args.held.now in
    let source = c.args.pair.now.source in
    let target = c.args.pair.now.target.at in
    let segments = c.in_ok-segments.segments.items in
    let range = c.args.range in
    let hits = c.in_ok-hits.hits.items in
    let so = c.in_ok-segments.ensures.by_number in
    let has = has_in c.in_ok-ranges.ranges in
    let located = location_in dump.records target.path target.rev in
    let hits_in : AreHitsIn dump segments range hits = rw c.deref.ensures.value at c.in_ok-hits.ensures in
    let ranges : map lent_ranges c.in_ok-ranges.ranges.by_segment.items ≡ map (held_ranges_in dump.names held) segments =
    rw (← c.deref-2.ensures.value, ← c.names.ensures.value) c.in_ok-ranges.ensures.ranges in
    let has_is = has_in-held dump.names c.requires.source.kept.names held c.requires.held c.in_ok-ranges.ranges segments ranges c.in_ok-ranges.ensures.inherited so.of_names in
    let tells : TellsLocations located c.deref-4.result.now = rw c.deref-4.ensures.value (TellsLocations-AreSegmentsIn dump target.path target.rev c.in_ok-own.own.items c.in_ok-own.ensures.by_number) in
    record {
      names_of = tt;
      same = ap (λ found. ok_answer (map eligible_line found))
          (c.in_ok-eligible.ensures located tells
          ∙ ap₂ (λ kept shown. eligible_by_hits has kept located shown) c.deref-3.ensures.value c.deref-5.ensures.value
          ∙ eligible_by_hits-in_range dump source c.requires.source segments so.exact so.maximal range hits
          (hits_in source.path source.rev c.requires.source.there so) (held_value dump.names held) has has_is target c.requires.target);
    }
