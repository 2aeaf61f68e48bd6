use Rattle.std.proofs.Common.{◌∙◌, ap, option_map}
use Rattle.std.proofs.lemmas.List.{take_all}
use Rattle.svn_path.specs.Path.{components_of}
use Rattle.branch_answer.proofs.Moved.{first_by-is}
use Rattle.branch_answer.proofs.moves.first_path_from.Goals as goal
use Rattle.branch_answer.specs.Moves.{first_by}

pub returns-clause-first : goal.returns-clause-first
returns-clause-first c =
    let dump = c.args.repo.now in
    let path = c.args.path.now in
    let records = c.records_in-records.result.now in
    ap (option_map (components_of dump.names))
    (c.loop-each.invariant.0 ∙ ap (first_by dump path c.args.rev) (take_all c.loop-each.each-index records c.loop-each-test.false))
    ∙ first_by-is dump path c.args.rev c.requires.known c.requires.gone records c.records_in-records.ensures.are c.records_in-records.ensures.of_dump
