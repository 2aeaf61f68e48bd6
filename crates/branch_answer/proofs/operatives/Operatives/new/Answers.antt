use Rattle.std.proofs.Common.{◌∙◌, ap}
use Rattle.svn_dump.proofs.Histories.{length-history_in_bytes}
use Rattle.branch_answer.proofs.OperativesKept.{AreOperativesIn-none}
use Rattle.branch_answer.proofs.operatives.Operatives.new.Goals as goal

pub returns : goal.returns
returns c =
    let dump = c.args.repo.now in
    AreOperativesIn-none dump c.args.range c.youngest.result (record { range = (c.args.range.0, c.min.result); by_path = c.new.result })
    (c.youngest.ensures ∙ length-history_in_bytes dump.names dump.records dump.counts dump.values)
    (ap (λ last. (c.args.range.0, last)) c.min.ensures) c.new.ensures.empty
