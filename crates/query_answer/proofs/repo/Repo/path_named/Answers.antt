use Rattle.query_answer.proofs.Common.{ap, subst, ◌∙◌, HasUnknown, parts_of}
use Rattle.svn_path.specs.Lookup.{IsLookup}
use Rattle.svn_path.specs.declared.path.Lookup.TheVariants.{Known}
use Rattle.query_answer.proofs.AnswerTexts.{IsRepo-view}
use Rattle.query_answer.proofs.InBytes.{unknown-parts_of}
use Rattle.query_answer.proofs.repo.Repo.path_named.Goals as goal

pub returns-in-Known-clause-of_names : goal.returns-in-Known-clause-of_names
returns-in-Known-clause-of_names c =
    let names = c.names.ensures.value ∙ ap (λ each. each.names) c.self.view_is in
    let known : IsLookup c.args.self.now.names (parts_of c.args.path.now) (Known c.in-Known.path) =
    subst (λ all. IsLookup all (parts_of c.args.path.now) (Known c.in-Known.path)) names (rw c.in-Known.is at c.in_ok-path.ensures) in
    known.0

pub returns-in-Known-clause-spells : goal.returns-in-Known-clause-spells
returns-in-Known-clause-spells c =
    let names = c.names.ensures.value ∙ ap (λ each. each.names) c.self.view_is in
    let known : IsLookup c.args.self.now.names (parts_of c.args.path.now) (Known c.in-Known.path) =
    subst (λ all. IsLookup all (parts_of c.args.path.now) (Known c.in-Known.path)) names (rw c.in-Known.is at c.in_ok-path.ensures) in
    known.1

pub returns-in-Unknown-clause-nowhere : goal.returns-in-Unknown-clause-nowhere
returns-in-Unknown-clause-nowhere c =
    let dump = c.args.self.now in
    let repo = IsRepo-view c.self.inside.dump c.args.self.now c.self.inside.index c.self.inside.map c.self.inside.ends c.self.view_is c.self.invariant in
    let names = c.names.ensures.value ∙ ap (λ each. each.names) c.self.view_is in
    let unknown : HasUnknown dump.names (parts_of c.args.path.now) =
    subst (λ all. HasUnknown all (parts_of c.args.path.now)) names (rw c.in-Unknown.is at c.in_ok-path.ensures) in
    λ none rev. unknown-parts_of dump repo.dump_is c.args.path.now rev unknown
