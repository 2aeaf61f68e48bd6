use Rattle.query_answer.proofs.Common.{◌≡◌, All, IfOk-weaker, HasPathOf, segments_in_bytes, AreSegmentsIn}
use Rattle.query_answer.specs.LocationsInBytes.{segments_of_path}
use Rattle.query_answer.proofs.LocationsInBytes.{kept_in_bytes}
use Rattle.query_answer.proofs.AnswerTexts.{IsRepo-view, IsThere-IsRepo, IsWhole-IsRepo}
use Rattle.query_answer.proofs.PathSegments.{AreSegmentsIn-result}
use Rattle.query_answer.proofs.repo.Repo.segments.Goals as goal

pub segments-requires-clause-whole : goal.segments-requires-clause-whole
segments-requires-clause-whole c = IsWhole-IsRepo c.self.inside.dump c.self.inside.index c.self.inside.map c.self.inside.ends c.self.invariant

pub segments-requires-clause-there : goal.segments-requires-clause-there
segments-requires-clause-there c =
    let repo = IsRepo-view c.self.inside.dump c.args.self.now c.self.inside.index c.self.inside.map c.self.inside.ends c.self.view_is c.self.invariant in
    IsThere-IsRepo c.args.self.now c.self.inside.index c.self.inside.map c.self.inside.ends repo c.args.at.now.path c.args.at.now.rev c.requires.there

pub returns-clause-by_number : goal.returns-clause-by_number
returns-clause-by_number c =
    let repo = IsRepo-view c.self.inside.dump c.args.self.now c.self.inside.index c.self.inside.map c.self.inside.ends c.self.view_is c.self.invariant in
    AreSegmentsIn-result c.args.self.now c.self.inside.index c.self.inside.map c.self.inside.ends repo c.args.at.now.path c.args.at.now.rev c.requires.of_names c.requires.within c.segments.result
    c.segments.ensures.exact c.segments.ensures.maximal

pub returns-clause-in_bytes : goal.returns-clause-in_bytes
returns-clause-in_bytes c =
    let dump = c.args.self.now in
    let at = c.args.at.now in
    IfOk-weaker c.segments.result (λ segments. AreSegmentsIn dump at.path at.rev segments.items)
    (λ segments. segments_in_bytes dump.names segments.items ≡ segments_of_path dump at)
    (λ segments are. kept_in_bytes dump at c.requires segments.items are.exact)
    (returns-clause-by_number c)

pub returns-clause-of_names : goal.returns-clause-of_names
returns-clause-of_names c =
    let dump = c.args.self.now in
    let at = c.args.at.now in
    IfOk-weaker c.segments.result (λ segments. AreSegmentsIn dump at.path at.rev segments.items)
    (λ segments. All (HasPathOf dump.names) segments.items)
    (λ segments are. are.of_names)
    (returns-clause-by_number c)
