use Rattle.std.proofs.Common.{◌∙◌, ◌++◌, ◌∷◌, [], false, true, All, ap, append_assoc, filter, subst, sym}
use Rattle.std.proofs.lemmas.List.Elements.{All-tail}
use Rattle.svn_path.specs.Path.{IsPathOf}
use Rattle.branch_answer.proofs.Membership.{filter-first}
use Rattle.branch_answer.proofs.descendants.those_from.Goals as goal
use Rattle.branch_answer.specs.KeptDescendants.{is_descendant}

pub loop-path-preserved-in-Continue-branch-2 : goal.loop-path-preserved-in-Continue-branch-2
loop-path-preserved-in-Continue-branch-2 c =
    let test = is_descendant c.args.repo.now c.args.at.now c.args.rev in
    let Named = IsPathOf c.args.repo.now.names in
    let found = c.loop-path.found.items in
    let path = c.in-Some.path in
    let rest = c.next.new.self in
    let first = filter-first test path rest c.loop-path.path-iterator true c.in-Some.ensures.steps (sym c.in_ok-is_descendant.ensures ∙ c.if-branch.true) in
    record {
      told = ap (λ front. front ++ filter test rest) c.in_ok-push.ensures.items ∙ append_assoc found (path ∷ []) (filter test rest)
          ∙ ap (λ more. found ++ more) first ∙ c.loop-path.invariant.told;
      of_names = All-tail Named path rest (subst (All Named) c.in-Some.ensures.steps c.loop-path.invariant.of_names);
    }

pub loop-path-preserved-else-branch : goal.loop-path-preserved-else-branch
loop-path-preserved-else-branch c =
    let test = is_descendant c.args.repo.now c.args.at.now c.args.rev in
    let Named = IsPathOf c.args.repo.now.names in
    let path = c.in-Some.path in
    let rest = c.next.new.self in
    let first = filter-first test path rest c.loop-path.path-iterator false c.in-Some.ensures.steps (sym c.in_ok-is_descendant.ensures ∙ c.if-branch.false) in
    record {
      told = ap (λ more. c.loop-path.found.items ++ more) first ∙ c.loop-path.invariant.told;
      of_names = All-tail Named path rest (subst (All Named) c.in-Some.ensures.steps c.loop-path.invariant.of_names);
    }

pub loop-path-preserved : goal.loop-path-preserved
loop-path-preserved c =
    let test = is_descendant c.args.repo.now c.args.at.now c.args.rev in
    let Named = IsPathOf c.args.repo.now.names in
    let path = c.in-Some.path in
    let rest = c.next.new.self in
    let first = filter-first test path rest c.loop-path.path-iterator false c.in-Some.ensures.steps (sym c.in_ok-is_descendant.ensures ∙ c.if-branch.false) in
    record {
      told = ap (λ more. c.loop-path.found.items ++ more) first ∙ c.loop-path.invariant.told;
      of_names = All-tail Named path rest (subst (All Named) c.in-Some.ensures.steps c.loop-path.invariant.of_names);
    }
