use Rattle.query_answer.proofs.Common.{◌≡◌, ◌++◌, drop, ap, sym, subst, ◌∙◌, All-drop, components_of-components, IsComponent, path_text, components_of}
use Rattle.merge_info.proofs.PrintedPaths.{IsPrintedPath-path_text}
use Rattle.merge_info.specs.Line.{IsPrintedPath}
use Rattle.query_answer.proofs.inheritance.rest_below.Goals as goal

pub returns-clause-printed : goal.returns-clause-printed
returns-clause-printed c =
    let components = components_of-components c.args.repo.now.names c.args.path.now c.names.ensures.kept.names.components c.requires.names in
    let rest : c.write_below.new.out.items ≡ path_text (drop c.args.depth (components_of c.args.repo.now.names c.args.path.now)) =
    c.in_ok-write_below.ensures.ok ∙ ap (λ front. front ++ path_text (drop c.args.depth (components_of c.names.result.now c.args.path.now))) c.in_ok-rest.ensures.items
    ∙ ap (λ each. path_text (drop c.args.depth (components_of each c.args.path.now))) c.names.ensures.value in
    subst IsPrintedPath (sym rest)
    (IsPrintedPath-path_text (drop c.args.depth (components_of c.args.repo.now.names c.args.path.now))
    (All-drop IsComponent c.args.depth (components_of c.args.repo.now.names c.args.path.now) components))
