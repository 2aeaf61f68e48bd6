use Rattle.svn_dump.proofs.Common.{take, ap, ◌∙◌, ◌++◌, ◌-◌, length}
use Rattle.svn_dump.proofs.PartialBodies.{extended}
use Rattle.svn_dump.proofs.pieces.partial_body.PartialBody.extend.Goals as goal

pub returns : goal.returns
returns c =
    let old = c.args.self.now in
    let body = c.split_at_most.ensures.front in
    let section = c.split_at_most-2.ensures.front ∙ ap (take old.wanted) body in
    extended old _ c.args.piece.now
    (c.in_ok-extend_from_slice.ensures.items ∙ ap (λ more. old.section.items ++ more) section)
    (ap (λ more. old.wanted - length more) section) (ap (λ more. old.left - length more) body)
    c.then_some.result c.split_at_most.result.1 c.split_at_most.ensures.back (rw body at c.then_some.ensures)
