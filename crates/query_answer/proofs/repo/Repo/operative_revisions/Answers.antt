use Rattle.query_answer.proofs.Common.{◌≡◌, Some, map, ap, ◌∙◌, IfOk-weaker, AreHitsIn, Hit}
use Rattle.query_answer.specs.LocationsInBytes.{operative_in_bytes}
use Rattle.query_answer.proofs.LocationsInBytes.{hit_revs-operative}
use Rattle.query_answer.proofs.repo.Repo.operative_revisions.Goals as goal

pub returns : goal.returns
returns c =
    let dump = c.args.self.now in
    let at = c.args.at.now in
    let range = c.args.range in
    let hits = c.in_ok-hits.hits in
    let segments = c.in_ok-segments.segments in
    let so = c.in_ok-segments.ensures.by_number in
    let hits_in : AreHitsIn dump segments.items (Some range) hits.items = rw c.as_slice.ensures.value at c.in_ok-hits.ensures in
    IfOk-weaker c.revisions_of.result (λ revs. revs.items ≡ map (λ (hit : Hit). hit.rev) c.as_slice-2.result.now)
    (λ revs. revs.items ≡ operative_in_bytes dump at range)
    (λ revs is. is ∙ ap (map (λ (hit : Hit). hit.rev)) c.as_slice-2.ensures.value
    ∙ hit_revs-operative dump at c.requires segments.items so.exact so.maximal (Some range) hits.items (hits_in at.path at.rev c.requires.there so))
    c.revisions_of.ensures
