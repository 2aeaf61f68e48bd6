use Rattle.query_answer.proofs.Common.{◌≡◌, IfOk-weaker, IfSome, option_map, components_of, IsPathIn, location_in}
use Rattle.query_answer.specs.LocationsInBytes.{location_of_path}
use Rattle.query_answer.proofs.LocationsInBytes.{located_in_bytes, located_there}
use Rattle.std.proofs.Common.{IfOk}
use Rattle.query_answer.proofs.AnswerTexts.{IsRepo-view, IsThere-IsRepo, IsWhole-IsRepo, index-IsRepo}
use Rattle.query_answer.proofs.repo.Repo.locate.Goals as goal

pub locate-requires-clause-whole : goal.locate-requires-clause-whole
locate-requires-clause-whole c = IsWhole-IsRepo c.self.inside.dump c.self.inside.index c.self.inside.map c.self.inside.ends c.self.invariant

pub locate-requires-clause-there : goal.locate-requires-clause-there
locate-requires-clause-there c =
    let repo = IsRepo-view c.self.inside.dump c.args.self.now c.self.inside.index c.self.inside.map c.self.inside.ends c.self.view_is c.self.invariant in
    IsThere-IsRepo c.args.self.now c.self.inside.index c.self.inside.map c.self.inside.ends repo c.args.at.now.path c.args.at.now.rev c.requires.there

pub returns-clause-by_number : goal.returns-clause-by_number
returns-clause-by_number c =
    let repo = IsRepo-view c.self.inside.dump c.args.self.now c.self.inside.index c.self.inside.map c.self.inside.ends c.self.view_is c.self.invariant in
    index-IsRepo c.args.self.now c.self.inside.index c.self.inside.map c.self.inside.ends repo
    (λ records. IfOk c.locate.result (λ located. located ≡ location_in records c.args.at.now.path c.args.at.now.rev c.args.rev))
    c.locate.ensures.exact

pub returns-clause-in_bytes : goal.returns-clause-in_bytes
returns-clause-in_bytes c =
    let dump = c.args.self.now in
    let at = c.args.at.now in
    IfOk-weaker c.locate.result (λ located. located ≡ location_in dump.records at.path at.rev c.args.rev)
    (λ located. option_map (components_of dump.names) located ≡ location_of_path dump at c.args.rev)
    (λ located is. located_in_bytes dump at c.requires c.args.rev located is)
    (returns-clause-by_number c)

pub returns-clause-there : goal.returns-clause-there
returns-clause-there c =
    let dump = c.args.self.now in
    let at = c.args.at.now in
    IfOk-weaker c.locate.result (λ located. located ≡ location_in dump.records at.path at.rev c.args.rev)
    (λ located. IfSome located (λ path. IsPathIn dump (record { path = path; rev = c.args.rev })))
    (λ located is. located_there dump at c.requires c.args.rev located is)
    (returns-clause-by_number c)
