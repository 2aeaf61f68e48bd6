use Rattle.query_answer.proofs.Common.{◌≡◌, map}
use Rattle.path_index.specs.Copies.{copies_between, copy_view}
use Rattle.query_answer.proofs.AnswerTexts.{IsRepo-view, IsWhole-IsRepo, index-IsRepo}
use Rattle.query_answer.proofs.CopiesOfDump.{IsCopyOf-copies}
use Rattle.query_answer.proofs.repo.Repo.copies_in.Goals as goal

pub copies_in-requires : goal.copies_in-requires
copies_in-requires c = IsWhole-IsRepo c.self.inside.dump c.self.inside.index c.self.inside.map c.self.inside.ends c.self.invariant

pub returns-clause-are : goal.returns-clause-are
returns-clause-are c =
    let repo = IsRepo-view c.self.inside.dump c.args.self.now c.self.inside.index c.self.inside.map c.self.inside.ends c.self.view_is c.self.invariant in
    index-IsRepo c.args.self.now c.self.inside.index c.self.inside.map c.self.inside.ends repo
    (λ records. map copy_view c.copies_in.result.now ≡ copies_between c.args.above c.args.up_to records) c.copies_in.ensures

pub returns-clause-of_names : goal.returns-clause-of_names
returns-clause-of_names c =
    let repo = IsRepo-view c.self.inside.dump c.args.self.now c.self.inside.index c.self.inside.map c.self.inside.ends c.self.view_is c.self.invariant in
    IsCopyOf-copies c.args.self.now repo.dump_is c.args.above c.args.up_to c.copies_in.result.now
    (index-IsRepo c.args.self.now c.self.inside.index c.self.inside.map c.self.inside.ends repo
    (λ records. map copy_view c.copies_in.result.now ≡ copies_between c.args.above c.args.up_to records) c.copies_in.ensures)
