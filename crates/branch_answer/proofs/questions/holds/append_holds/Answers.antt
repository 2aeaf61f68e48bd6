use Rattle.std.proofs.Common.{◌++◌, ◌∙◌, ℕ, ap}
use Rattle.std.proofs.lemmas.Result.{err_from_is_err_and}
use Rattle.svn_dump.specs.Dump.{DumpValue, history_in_bytes}
use Rattle.query_answer.specs.Answer.{Answer, ok_answer}
use Rattle.query_answer.specs.Repo.{trees_in_bytes}
use Rattle.branch_answer.specs.HeldRevisions.{holding_in}
use Rattle.branch_answer.specs.Holding.{held_in, held_lines}
use Rattle.branch_answer.specs.KeptHoldings.{holdings_text, texts_of}
use Rattle.branch_answer.specs.KeptNew.{holder_in_bytes}
use Rattle.branch_answer.specs.NewRevisions.{Holder}
use Rattle.branch_answer.proofs.HeldLines.{holding_in-past, those_held-text}
use Rattle.branch_answer.proofs.questions.holds.append_holds.Goals as goal

-- the answer by what the peg holds
abbrev by_holder : DumpValue → ℕ × ℕ → Holder → Answer
by_holder dump range holder = ok_answer (held_lines (held_in (history_in_bytes dump) (trees_in_bytes dump) holder.peg holder.value range))

pub returns-in_err-held-clause-none : goal.returns-in_err-held-clause-none
returns-in_err-held-clause-none c =
    let told = err_from_is_err_and c.from_residual.result c.from_residual.ensures.1 in
    rw (told.1, told.2) (c.in_err-held.ensures.refused (by_holder c.args.repo.now c.args.range))

pub returns-clause-lines : goal.returns-clause-lines
returns-clause-lines c =
    let dump = c.args.repo.now in
    let held = c.in_ok-held.held in
    let range = c.args.range in
    let is = c.in_ok-held.ensures.held.is in
    record {
      lines = held_lines (held_in (history_in_bytes dump) (trees_in_bytes dump) (holder_in_bytes dump held).peg held.value range);
      is = c.in_ok-held.ensures.held.answered (by_holder dump range);
      text = c.in_ok-append.ensures ∙ ap (λ more. c.args.out.now.items ++ more)
          ((λ i. holdings_text (texts_of (c.names.ensures.value i) (c.deref.ensures.value i)) held.holdings.first held.holdings.how.items)
          ∙ those_held-text dump range (holding_in dump held.at held.value) (holding_in-past dump is.kept held.at held.value)
          (texts_of dump.names held.below.items) held.holdings is.are.first is.are.how);
    }
