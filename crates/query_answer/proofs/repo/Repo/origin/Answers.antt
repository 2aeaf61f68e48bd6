use Rattle.query_answer.proofs.Common.{◌≡◌, IfOk, IfOk-weaker, IfSome, IsPathIn}
use Rattle.path_index.specs.LastSet.{origin_in}
use Rattle.path_index.specs.RecordEffect.{origin_view}
use Rattle.query_answer.specs.OriginsInBytes.{origin_in_bytes, origin_of_path}
use Rattle.query_answer.proofs.AnswerTexts.{IsRepo-view, IsThere-IsRepo, IsWhole-IsRepo, index-IsRepo}
use Rattle.query_answer.proofs.OriginsInBytes.{origin-in_bytes, origin-there}
use Rattle.query_answer.proofs.repo.Repo.origin.Goals as goal

pub origin-requires-clause-whole : goal.origin-requires-clause-whole
origin-requires-clause-whole c = IsWhole-IsRepo c.self.inside.dump c.self.inside.index c.self.inside.map c.self.inside.ends c.self.invariant

pub origin-requires-clause-there : goal.origin-requires-clause-there
origin-requires-clause-there c =
    let repo = IsRepo-view c.self.inside.dump c.args.self.now c.self.inside.index c.self.inside.map c.self.inside.ends c.self.view_is c.self.invariant in
    IsThere-IsRepo c.args.self.now c.self.inside.index c.self.inside.map c.self.inside.ends repo c.args.path.now c.args.rev c.requires.there

pub returns-clause-origin : goal.returns-clause-origin
returns-clause-origin c =
    let dump = c.args.self.now in
    let path = c.args.path.now in
    let repo = IsRepo-view c.self.inside.dump dump c.self.inside.index c.self.inside.map c.self.inside.ends c.self.view_is c.self.invariant in
    IfOk-weaker c.origin.result (λ origin. origin_view origin ≡ origin_in dump.records path c.args.rev)
    (λ origin. origin_in_bytes dump origin ≡ origin_of_path dump path c.args.rev)
    (λ origin is. origin-in_bytes dump repo.dump_is c.args.rev c.requires.within path origin is)
    (index-IsRepo dump c.self.inside.index c.self.inside.map c.self.inside.ends repo
    (λ records. IfOk c.origin.result (λ origin. origin_view origin ≡ origin_in records path c.args.rev)) c.origin.ensures)

pub returns-clause-there : goal.returns-clause-there
returns-clause-there c =
    let dump = c.args.self.now in
    let path = c.args.path.now in
    let repo = IsRepo-view c.self.inside.dump dump c.self.inside.index c.self.inside.map c.self.inside.ends c.self.view_is c.self.invariant in
    IfOk-weaker c.origin.result (λ origin. origin_view origin ≡ origin_in dump.records path c.args.rev)
    (λ origin. IfSome origin (λ from. IsPathIn dump (record { path = from.path; rev = from.rev })))
    (λ origin is. origin-there dump repo.dump_is c.args.rev c.requires.within path origin is)
    (index-IsRepo dump c.self.inside.index c.self.inside.map c.self.inside.ends repo
    (λ records. IfOk c.origin.result (λ origin. origin_view origin ≡ origin_in records path c.args.rev)) c.origin.ensures)
