use Rattle.path_index.proofs.Common.{None, ◌∙◌, IfOk-weaker, AreHitsInRange, AreHitsOf}
use Rattle.path_index.proofs.RangesOfNumbers.{filter-all}
use Rattle.path_index.proofs.index.Index.operative.Goals as goal

pub returns : goal.returns
returns c =
    let index = c.args.self.now in
    let segments = c.args.segments.now in
    IfOk-weaker c.operative_in.result (λ hits. AreHitsInRange index segments None hits.items) (λ hits. AreHitsOf index segments hits.items)
    (λ hits are path rev there so. are path rev there so ∙ filter-all _) c.operative_in.ensures
