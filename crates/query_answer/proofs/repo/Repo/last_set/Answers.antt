use Rattle.path_index.specs.LastSet.{IsLastSet, KeepsPath}
use Rattle.query_answer.proofs.AnswerTexts.{IsRepo-view, IsWhole-IsRepo, index-IsRepo}
use Rattle.query_answer.proofs.OriginsInBytes.{KeepsPath-in_bytes}
use Rattle.query_answer.proofs.repo.Repo.last_set.Goals as goal

pub last_set-requires : goal.last_set-requires
last_set-requires c = IsWhole-IsRepo c.self.inside.dump c.self.inside.index c.self.inside.map c.self.inside.ends c.self.invariant

pub returns-clause-exact : goal.returns-clause-exact
returns-clause-exact c =
    let repo = IsRepo-view c.self.inside.dump c.args.self.now c.self.inside.index c.self.inside.map c.self.inside.ends c.self.view_is c.self.invariant in
    index-IsRepo c.args.self.now c.self.inside.index c.self.inside.map c.self.inside.ends repo
    (λ records. IsLastSet records c.args.path.now c.args.rev c.last_set.result) c.last_set.ensures.exact

pub returns-clause-kept : goal.returns-clause-kept
returns-clause-kept c =
    let repo = IsRepo-view c.self.inside.dump c.args.self.now c.self.inside.index c.self.inside.map c.self.inside.ends c.self.view_is c.self.invariant in
    KeepsPath-in_bytes c.args.self.now repo.dump_is c.args.path.now c.last_set.result c.args.rev c.requires.within
    (index-IsRepo c.args.self.now c.self.inside.index c.self.inside.map c.self.inside.ends repo
    (λ records. KeepsPath records c.args.path.now c.last_set.result c.args.rev) c.last_set.ensures.kept)

pub returns-clause-dump : goal.returns-clause-dump
returns-clause-dump c =
    let repo = IsRepo-view c.self.inside.dump c.args.self.now c.self.inside.index c.self.inside.map c.self.inside.ends c.self.view_is c.self.invariant in
    repo.dump_is
