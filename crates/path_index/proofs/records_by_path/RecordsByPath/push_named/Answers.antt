use Rattle.path_index.proofs.Common.{sym, ◌∙◌, append-nil, on_ok_weaker}
use Rattle.path_index.proofs.EntriesOfPaths.{named_revisions-numbers, named_revisions-none}
use Rattle.path_index.proofs.records_by_path.RecordsByPath.push_named.Goals as goal

pub returns-in-Some : goal.returns-in-Some
returns-in-Some c =
    on_ok_weaker c.push_hits.result
    (λ pushed records are. rw (named_revisions-numbers records c.args.self.now are c.args.path.now c.in-Some.node c.args.lo c.args.hi (sym c.find.ensures ∙ c.in-Some.is)) at pushed)
    c.push_hits.ensures

pub returns-in-None : goal.returns-in-None
returns-in-None c = λ records are.
    rw (named_revisions-none records c.args.self.now are c.args.path.now c.args.lo c.args.hi (sym c.find.ensures ∙ c.in-None.is)) (sym (append-nil c.args.hits.now.items))
