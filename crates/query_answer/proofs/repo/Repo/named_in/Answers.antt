use Rattle.query_answer.proofs.Common.{◌≡◌, IfOk, IfOk-weaker, ◌∙◌}
use Rattle.path_index.specs.NamedRevisions.{named_revisions}
use Rattle.query_answer.specs.LocationsInBytes.{named_in_bytes}
use Rattle.query_answer.proofs.AnswerTexts.{IsRepo-view, index-IsRepo}
use Rattle.query_answer.proofs.LocationsInBytes.{named_revisions-in_bytes}
use Rattle.query_answer.proofs.repo.Repo.named_in.Goals as goal

pub returns : goal.returns
returns c =
    let dump = c.args.self.now in
    let path = c.args.path.now in
    let repo = IsRepo-view c.self.inside.dump c.args.self.now c.self.inside.index c.self.inside.map c.self.inside.ends c.self.view_is c.self.invariant in
    IfOk-weaker c.named_in.result (λ revs. revs.items ≡ named_revisions path c.args.above c.args.up_to dump.records)
    (λ revs. revs.items ≡ named_in_bytes dump path c.args.above c.args.up_to)
    (λ revs are. are ∙ named_revisions-in_bytes dump repo.dump_is path c.args.above c.args.up_to)
    (index-IsRepo dump c.self.inside.index c.self.inside.map c.self.inside.ends repo
    (λ records. IfOk c.named_in.result (λ revs. revs.items ≡ named_revisions path c.args.above c.args.up_to records)) c.named_in.ensures)
