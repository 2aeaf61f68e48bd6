use Rattle.query_answer.proofs.Common.{is_some, ap}
use Rattle.query_answer.proofs.AnswerTexts.{IsRepo-view}
use Rattle.query_answer.proofs.NearestMergeinfo.{IsNearestIn-found}
use Rattle.query_answer.proofs.PegsFound.{IsPegFound-known, IsPegRefused-known}
use Rattle.query_answer.proofs.RevisionTicks.{end-within}
use Rattle.query_answer.proofs.repo.Repo.find_target.Goals as goal

pub entry_and_nearest-requires-clause-within : goal.entry_and_nearest-requires-clause-within
entry_and_nearest-requires-clause-within c =
    let repo = IsRepo-view c.self.inside.dump c.args.self.now c.self.inside.index c.self.inside.map c.self.inside.ends c.self.view_is c.self.invariant in
    end-within c.args.self.now c.self.inside.index c.self.inside.map c.self.inside.ends repo c.in_ok-at.at.rev c.in_ok-at.end c.in_ok-at.ensures.known.ends

pub returns-in-Some-default-clause-found : goal.returns-in-Some-default-clause-found
returns-in-Some-default-clause-found c =
    let dump = c.args.self.now in
    let repo = IsRepo-view c.self.inside.dump dump c.self.inside.index c.self.inside.map c.self.inside.ends c.self.view_is c.self.invariant in
    let known = c.in_ok-at.ensures.known in
    let found = c.in_ok-nearest.ensures.of_revision dump c.in_ok-at.at.rev repo.map_is.first known.ends in
    record {
      peg_is = IsPegFound-known dump c.self.inside.index c.self.inside.map c.self.inside.ends repo c.args.peg.now c.in_ok-at.at c.in_ok-at.end known c.in_ok-nearest.field-0.0 found.0 (ap is_some c.in-Some-default.is-0);
      nearest = IsNearestIn-found dump c.in_ok-at.at.path c.in_ok-at.at.rev c.in_ok-nearest.field-0.1 found.1;
    }

pub returns-in-None-default-clause-refused : goal.returns-in-None-default-clause-refused
returns-in-None-default-clause-refused c =
    let dump = c.args.self.now in
    let repo = IsRepo-view c.self.inside.dump dump c.self.inside.index c.self.inside.map c.self.inside.ends c.self.view_is c.self.invariant in
    let known = c.in_ok-at.ensures.known in
    let found = c.in_ok-nearest.ensures.of_revision dump c.in_ok-at.at.rev repo.map_is.first known.ends in
    IsPegRefused-known dump c.self.inside.index c.self.inside.map c.self.inside.ends repo c.args.peg.now c.in_ok-at.at c.in_ok-at.end known c.in_ok-nearest.field-0.0 found.0 (ap is_some c.in-None-default.is-0)
