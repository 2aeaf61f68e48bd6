use Rattle.std.proofs.Common.{◌++◌, ◌∙◌, All, ap, subst}
use Rattle.std.proofs.lemmas.Result.{err_from_is_err_and}
use Rattle.range_list.specs.Rangelist.{IsRun}
use Rattle.branch_answer.specs.Holding.{those_held}
use Rattle.branch_answer.specs.KeptHoldings.{texts_of}
use Rattle.branch_answer.specs.KeptNew.{runs_text}
use Rattle.branch_answer.specs.NewRevisions.{rangelist_lines}
use Rattle.branch_answer.proofs.HeldRuns.{those_held-rangelist}
use Rattle.branch_answer.proofs.NewTold.{AreNumbers-held}
use Rattle.branch_answer.proofs.questions.new.append_new_ranges.Goals as goal

pub returns-in_err-news-clause-none : goal.returns-in_err-news-clause-none
returns-in_err-news-clause-none c =
    let told = err_from_is_err_and c.from_residual.result c.from_residual.ensures.1 in
    rw (told.1, told.2) (c.in_err-news.ensures.refused rangelist_lines)

pub runs-requires : goal.runs-requires
runs-requires c =
    let dump = c.args.repo.now in
    let news = c.in_ok-news.news in
    let new = c.in_ok-news.ensures.new in
    AreNumbers-held dump new.kept new.range new.how (texts_of dump.names news.below.items) news.holdings new.first new.are

pub returns-clause-lines : goal.returns-clause-lines
returns-clause-lines c =
    let dump = c.args.repo.now in
    let news = c.in_ok-news.news in
    let new = c.in_ok-news.ensures.new in
    let runs = c.in_ok-runs.ensures in
    record {
      lines = rangelist_lines (those_held new.how new.range);
      is = new.answered rangelist_lines;
      text = c.in_ok-append_runs.ensures ∙ ap (λ more. c.args.out.now.items ++ more)
          (ap runs_text runs.held
          ∙ those_held-rangelist dump new.range new.how new.none_past (texts_of dump.names news.below.items) news.holdings new.first new.are
          (subst (All IsRun) runs.held runs.runs));
    }
