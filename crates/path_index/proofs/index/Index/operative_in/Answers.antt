use Rattle.path_index.proofs.Common.{◌≡◌, ◌+◌, ◌∷◌, Global, None, Some, Vec, drop, map, append-nil, sym, ap, ◌∙◌, arith, drop_more, drop-map, length-map, segment_view, is_in_range, Hit}
use Rattle.std.specs.Prelude.{filter}
use Rattle.path_index.proofs.HitsOfSegments.{AreHitsTo-more, hits-AreHitsTo}
use Rattle.path_index.proofs.Operative.{hits_from-operative_of}
use Rattle.path_index.proofs.index.Index.operative_in.Goals as goal
use Rattle.path_index.proofs.index.Index.operative_in.Goals.{in-Some+in_ok-push_operative, in_default}

pub loop-index-preserved : goal.loop-index-preserved
loop-index-preserved c =
    let segments = c.args.segments.now in
    let records = c.args.self.now.records in
    let passes = λ (hit : Hit). is_in_range c.args.range hit.rev in
    let views = map segment_view segments in
    let index = c.loop-index.index in
    let kept = c.index-segments-index.result in
    let segment = segment_view kept in
    let hits = c.loop-index.hits.items in
    let here : drop index views ≡ segment ∷ drop (index + 1) views =
    drop-map segment_view index segments
    ∙ ap (map segment_view) (drop_more segments index kept c.loop-index-test.true ∙ ap (λ each. each ∷ drop (index + 1) segments) (sym c.index-segments-index.is))
    ∙ ap (λ more. segment ∷ more) (sym (drop-map segment_view (index + 1) segments)) in
    let shown = λ (v : Vec Hit Global). v.items in
    let more = AreHitsTo-more passes records views index hits c.match-segment.hits.items segment in
    elim c.match-segment.branch [
      | in-Some+in_ok-push_operative w ↦
          more (Some w.in-Some.path) c.loop-index.invariant here w.in-Some.is (ap shown w.hits-is ∙ w.in_ok-push_operative.ensures)
      | in_default w ↦
          more None c.loop-index.invariant here w.in_default.is (ap shown w.hits-is ∙ sym (append-nil hits))
    ]

pub returns : goal.returns
returns c = λ path rev there so.
    let passes = λ (hit : Hit). is_in_range c.args.range hit.rev in
    hits-AreHitsTo passes c.args.self.now.records (map segment_view c.args.segments.now) c.loop-index.index
    c.loop-index.hits.items c.loop-index.invariant
    (omega (arith, length-map c.args.segments.now segment_view, c.loop-index-test.false, c.loop-index.auto.index-end))
    ∙ ap (filter passes) (hits_from-operative_of c.args.self.now.records path rev there (map segment_view c.args.segments.now) so)
