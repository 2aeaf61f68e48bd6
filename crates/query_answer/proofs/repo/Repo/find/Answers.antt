use Rattle.query_answer.proofs.Common.{is_some, ap}
use Rattle.query_answer.proofs.AnswerTexts.{IsRepo-view}
use Rattle.query_answer.proofs.PegsFound.{IsPegFound-known, IsPegRefused-known}
use Rattle.query_answer.proofs.RevisionTicks.{end-within}
use Rattle.query_answer.proofs.repo.Repo.find.Goals as goal

pub entry-requires-clause-within : goal.entry-requires-clause-within
entry-requires-clause-within c =
    let repo = IsRepo-view c.self.inside.dump c.args.self.now c.self.inside.index c.self.inside.map c.self.inside.ends c.self.view_is c.self.invariant in
    end-within c.args.self.now c.self.inside.index c.self.inside.map c.self.inside.ends repo c.in_ok-at.at.rev c.in_ok-at.end c.in_ok-at.ensures.known.ends

pub returns-in-Some-clause-found : goal.returns-in-Some-clause-found
returns-in-Some-clause-found c =
    let dump = c.args.self.now in
    let repo = IsRepo-view c.self.inside.dump dump c.self.inside.index c.self.inside.map c.self.inside.ends c.self.view_is c.self.invariant in
    let known = c.in_ok-at.ensures.known in
    IsPegFound-known dump c.self.inside.index c.self.inside.map c.self.inside.ends repo c.args.peg.now c.in_ok-at.at c.in_ok-at.end known c.in_ok-entry.field-0
    (c.in_ok-entry.ensures.of_revision dump c.in_ok-at.at.rev repo.map_is.first known.ends) (ap is_some c.in-Some.is)

pub returns-in-None-clause-refused : goal.returns-in-None-clause-refused
returns-in-None-clause-refused c =
    let dump = c.args.self.now in
    let repo = IsRepo-view c.self.inside.dump dump c.self.inside.index c.self.inside.map c.self.inside.ends c.self.view_is c.self.invariant in
    let known = c.in_ok-at.ensures.known in
    IsPegRefused-known dump c.self.inside.index c.self.inside.map c.self.inside.ends repo c.args.peg.now c.in_ok-at.at c.in_ok-at.end known c.in_ok-entry.field-0
    (c.in_ok-entry.ensures.of_revision dump c.in_ok-at.at.rev repo.map_is.first known.ends) (ap is_some c.in-None.is)
