use Rattle.std.proofs.Common.{◌&&◌, ◌==◌, sym, ap, ◌∙◌}
use Rattle.svn_path.specs.Path.{components_of}
use Rattle.query_answer.specs.OriginsInBytes.{origin_in_bytes}
use Rattle.branch_answer.proofs.Moved.{is_place-in_bytes}
use Rattle.branch_answer.proofs.moves.is_place.Goals as goal
use Rattle.branch_answer.specs.Life.{is_place}

pub returns-then-eq : goal.returns-then-eq
returns-then-eq c = λ dump kept.
    let path = c.args.path.now in
    let from = c.in-Some.from in
    sym
    (ap (λ origin. is_place (components_of dump.names path) c.args.rev (origin_in_bytes dump origin)) c.in-Some.is
    ∙ is_place-in_bytes dump kept path from.path c.args.rev from.rev
    ∙ ap (λ b. b && from.rev == c.args.rev) (sym c.eq.ensures ∙ c.if-eq.true))

pub returns-else-eq : goal.returns-else-eq
returns-else-eq c = λ dump kept.
    let path = c.args.path.now in
    let from = c.in-Some.from in
    c.if-eq.false
    ∙ sym
    (ap (λ origin. is_place (components_of dump.names path) c.args.rev (origin_in_bytes dump origin)) c.in-Some.is
    ∙ is_place-in_bytes dump kept path from.path c.args.rev from.rev
    ∙ ap (λ b. b && from.rev == c.args.rev) (sym c.eq.ensures ∙ c.if-eq.false))
