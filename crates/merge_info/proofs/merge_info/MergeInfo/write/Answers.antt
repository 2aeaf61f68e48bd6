use Rattle.merge_info.proofs.Common.{subst, IsMergeInfo}
use Rattle.merge_info.proofs.OnlyValues.{only_value}
use Rattle.merge_info.proofs.ReadsBack.{lines_of-value_text}
use Rattle.merge_info.proofs.merge_info.MergeInfo.write.Goals as goal

pub returns-then-is_err-clause-only : goal.returns-then-is_err-clause-only
returns-then-is_err-clause-only c = only_value c.args.self.now (subst IsMergeInfo c.self.view_is c.self.invariant)

pub returns-then-is_err-clause-reads_back : goal.returns-then-is_err-clause-reads_back
returns-then-is_err-clause-reads_back c =
    lines_of-value_text c.args.self.now (subst IsMergeInfo c.self.view_is c.self.invariant)

pub returns-else-is_err-clause-only : goal.returns-else-is_err-clause-only
returns-else-is_err-clause-only c = only_value c.args.self.now (subst IsMergeInfo c.self.view_is c.self.invariant)

pub returns-else-is_err-clause-reads_back : goal.returns-else-is_err-clause-reads_back
returns-else-is_err-clause-reads_back c =
    lines_of-value_text c.args.self.now (subst IsMergeInfo c.self.view_is c.self.invariant)
