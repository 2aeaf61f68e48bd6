use Rattle.std.proofs.Common.{◌+◌, ◌∙◌}
use Rattle.svn_path.specs.Path.{components_of}
use Rattle.branch_answer.proofs.Moved.{is_there-found}
use Rattle.branch_answer.proofs.Origins.{IsPathIn-present}
use Rattle.branch_answer.proofs.moves.is_from.Goals as goal

pub origin-requires : goal.origin-requires
origin-requires c =
    let dump = c.args.repo.now in
    IsPathIn-present dump c.requires.kept c.args.next.now (c.args.rev + 1) c.requires.of_names c.requires.within
    (is_there-found dump (c.args.rev + 1) (components_of dump.names c.args.next.now) c.in_ok-entry.field-0 c.in_ok-entry.ensures ∙ c.if-is_none.ensures)
