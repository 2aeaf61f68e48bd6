use Rattle.query_answer.proofs.Common.{◌≡◌, List, map, ap, sym, ◌∙◌, history_in_bytes, merged_in_range, merged_line, ok_answer, components_of, held_ranges_in, held_value, own_or_below, AreHitsIn, peg_in_bytes, trees_in_bytes, has_in, lent_ranges, merged_by_hits}
use Rattle.query_answer.specs.declared.answers.MergedRevision.{MergedRevision}
use Rattle.query_answer.proofs.HeldRevisions.{own_or_below-empty}
use Rattle.query_answer.proofs.SourceRevisions.{has_in-held, merged_by_hits-in_range, merged_in_range-empty}
use Rattle.query_answer.proofs.verbs.merged.merged_revisions.Goals as goal

pub returns-then-is_empty-clause-answer : goal.returns-then-is_empty-clause-answer
returns-then-is_empty-clause-answer c =
    let dump = c.args.repo.now in
    let source = c.args.pair.now.source in
    let rest = components_of dump.names c.args.held.now.rest.now in
    let empty = ap (own_or_below rest) (c.is_empty.ensures.empty.0 c.if-is_empty.true) ∙ own_or_below-empty rest in
    let lines = λ (found : List MergedRevision). ok_answer (map merged_line found) in
    let found = merged_in_range (history_in_bytes dump) (trees_in_bytes dump) (peg_in_bytes dump source) c.args.range in
    record { names_of = tt; same = ap lines (c.new.ensures.items ∙ sym (ap found empty ∙ merged_in_range-empty dump source c.args.range)) }

pub returns-clause-answer : goal.returns-clause-answer
returns-clause-answer c =
    let dump = c.args.repo.now in
    let held = c.args.held.now in
    let source = c.args.pair.now.source in
    let segments = c.in_ok-segments.segments.items in
    let range = c.args.range in
    let hits = c.in_ok-hits.hits.items in
    let so = c.in_ok-segments.ensures.by_number in
    let has = has_in c.in_ok-ranges.ranges in
    let hits_in : AreHitsIn dump segments range hits = rw c.deref.ensures.value at c.in_ok-hits.ensures in
    let ranges : map lent_ranges c.in_ok-ranges.ranges.by_segment.items ≡ map (held_ranges_in dump.names held) segments =
    rw (← c.deref-2.ensures.value, ← c.names.ensures.value) c.in_ok-ranges.ensures.ranges in
    let has_is = has_in-held dump.names c.requires.source.kept.names held c.requires.held c.in_ok-ranges.ranges segments ranges c.in_ok-ranges.ensures.inherited so.of_names in
    record {
      names_of = tt;
      same = ap (λ found. ok_answer (map merged_line found))
          (c.in_ok-merged.ensures ∙ ap (merged_by_hits has) c.deref-3.ensures.value
          ∙ merged_by_hits-in_range dump source c.requires.source segments so.exact so.maximal range
          hits (hits_in source.path source.rev c.requires.source.there so) (held_value dump.names held) has has_is);
    }
