use Rattle.merge_info.proofs.OneLine.{IsOnOneLine-value, lines_of-one_line}
use Rattle.merge_info.proofs.merge_info.MergeInfo.parse.Goals as goal

pub returns-clause-one_line : goal.returns-clause-one_line
returns-clause-one_line c =
    IsOnOneLine-value _ _ c.in_ok-of_lines.ensures.canonical c.in_ok-of_lines.ensures.same
    (lines_of-one_line c.args.text.now _ c.in_ok-read_lines.ensures.ok)
