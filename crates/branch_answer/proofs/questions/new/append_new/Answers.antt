use Rattle.std.proofs.Common.{◌++◌, ◌∙◌, ap}
use Rattle.std.proofs.lemmas.Result.{err_from_is_err_and}
use Rattle.branch_answer.specs.Holding.{held_lines, those_held}
use Rattle.branch_answer.specs.KeptHoldings.{holdings_text, texts_of}
use Rattle.branch_answer.proofs.HeldLines.{those_held-text}
use Rattle.branch_answer.proofs.questions.new.append_new.Goals as goal

pub returns-in_err-news-clause-none : goal.returns-in_err-news-clause-none
returns-in_err-news-clause-none c =
    let told = err_from_is_err_and c.from_residual.result c.from_residual.ensures.1 in
    rw (told.1, told.2) (c.in_err-news.ensures.refused held_lines)

pub returns-clause-lines : goal.returns-clause-lines
returns-clause-lines c =
    let dump = c.args.repo.now in
    let news = c.in_ok-news.news in
    let new = c.in_ok-news.ensures.new in
    record {
      lines = held_lines (those_held new.how new.range);
      is = new.answered held_lines;
      text = c.in_ok-append.ensures ∙ ap (λ more. c.args.out.now.items ++ more)
          ((λ i. holdings_text (texts_of (c.names.ensures.value i) (c.deref.ensures.value i)) news.holdings.first news.holdings.how.items)
          ∙ those_held-text dump new.range new.how new.none_past (texts_of dump.names news.below.items) news.holdings new.first new.are);
    }
