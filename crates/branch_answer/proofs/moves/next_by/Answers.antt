use Rattle.std.proofs.Common.{◌∙◌, sym}
use Rattle.branch_answer.proofs.Moved.{place-of_names}
use Rattle.branch_answer.proofs.moves.next_by.Goals as goal

pub is_from-requires : goal.is_from-requires
is_from-requires c = record {
  kept = c.requires.known.kept;
  of_names = place-of_names c.args.repo.now c.args.path.now c.args.rev c.args.each.now c.in-Some.next c.requires.known.of_names c.requires.of_dump
      (sym c.in_ok-next.ensures ∙ c.in-Some.is);
  within = c.requires.known.within;
}

pub returns-then-branch-clause-of_names : goal.returns-then-branch-clause-of_names
returns-then-branch-clause-of_names c =
    place-of_names c.args.repo.now c.args.path.now c.args.rev c.args.each.now c.in-Some.next c.requires.known.of_names c.requires.of_dump
    (sym c.in_ok-next.ensures ∙ c.in-Some.is)
