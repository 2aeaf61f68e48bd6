use Rattle.std.proofs.Common.{◌∙◌, ap, subst, sym}
use Rattle.std.specs.Prelude.{IfErr, OnOk}
use Rattle.std.specs.List.{slice_split}
use Rattle.svn_dump.specs.Dump.{history_in_bytes}
use Rattle.query_answer.specs.Peg.{peg_view}
use Rattle.query_answer.specs.Query.{is_tab}
use Rattle.query_answer.specs.Repo.{trees_in_bytes}
use Rattle.branch_answer.specs.Question.{comparison_view, question_view}
use Rattle.branch_answer.specs.QuestionAnswer.{question_answer_in}
use Rattle.branch_answer.specs.Told.{IsUntold, TellsLines}
use Rattle.branch_answer.proofs.Asked.{question_answer-ancestor, question_answer-bad, question_answer-descendants, question_answer-distance, question_answer-entry, question_answer-explicit, question_answer-holds, question_answer-list, question_answer-lives, question_answer-new, question_answer-new_ranges}
use Rattle.branch_answer.proofs.questions.append_lines.Goals as goal

pub returns-in-Bad-clause-none : goal.returns-in-Bad-clause-none
returns-in-Bad-clause-none c =
    let dump = c.args.repo.now in
    ap (λ each. question_answer_in dump (question_view each)) c.in-Bad.is ∙ question_answer-bad (history_in_bytes dump) (trees_in_bytes dump)

pub returns-in-Entry-clause-lines : goal.returns-in-Entry-clause-lines
returns-in-Entry-clause-lines c =
    let dump = c.args.repo.now in
    subst (λ answer. OnOk c.append_entry.result (TellsLines answer c.args.out.now.items c.append_entry.new.out.items))
    (sym (ap (λ each. question_answer_in dump (question_view each)) c.in-Entry.is ∙ question_answer-entry (history_in_bytes dump) (trees_in_bytes dump) (peg_view c.in-Entry.of)))
    c.append_entry.ensures.lines

pub returns-in-Entry-clause-none : goal.returns-in-Entry-clause-none
returns-in-Entry-clause-none c =
    let dump = c.args.repo.now in
    subst (λ answer. IfErr c.append_entry.result (IsUntold answer))
    (sym (ap (λ each. question_answer_in dump (question_view each)) c.in-Entry.is ∙ question_answer-entry (history_in_bytes dump) (trees_in_bytes dump) (peg_view c.in-Entry.of)))
    c.append_entry.ensures.none

pub returns-in-List-clause-lines : goal.returns-in-List-clause-lines
returns-in-List-clause-lines c =
    let dump = c.args.repo.now in
    subst (λ answer. OnOk c.append_list.result (TellsLines answer c.args.out.now.items c.append_list.new.out.items))
    (sym (ap (λ each. question_answer_in dump (question_view each)) c.in-List.is ∙ question_answer-list (history_in_bytes dump) (trees_in_bytes dump) (peg_view c.in-List.of)))
    c.append_list.ensures.lines

pub returns-in-List-clause-none : goal.returns-in-List-clause-none
returns-in-List-clause-none c =
    let dump = c.args.repo.now in
    subst (λ answer. IfErr c.append_list.result (IsUntold answer))
    (sym (ap (λ each. question_answer_in dump (question_view each)) c.in-List.is ∙ question_answer-list (history_in_bytes dump) (trees_in_bytes dump) (peg_view c.in-List.of)))
    c.append_list.ensures.none

pub returns-in-Lives-clause-lines : goal.returns-in-Lives-clause-lines
returns-in-Lives-clause-lines c =
    let dump = c.args.repo.now in
    subst (λ answer. OnOk c.append_lives.result (TellsLines answer c.args.out.now.items c.append_lives.new.out.items))
    (sym (ap (λ each. question_answer_in dump (question_view each)) c.in-Lives.is ∙ question_answer-lives (history_in_bytes dump) (trees_in_bytes dump) (peg_view c.in-Lives.of)))
    c.append_lives.ensures.lines

pub returns-in-Lives-clause-none : goal.returns-in-Lives-clause-none
returns-in-Lives-clause-none c =
    let dump = c.args.repo.now in
    subst (λ answer. IfErr c.append_lives.result (IsUntold answer))
    (sym (ap (λ each. question_answer_in dump (question_view each)) c.in-Lives.is ∙ question_answer-lives (history_in_bytes dump) (trees_in_bytes dump) (peg_view c.in-Lives.of)))
    c.append_lives.ensures.none

pub returns-in-Explicit-clause-lines : goal.returns-in-Explicit-clause-lines
returns-in-Explicit-clause-lines c =
    let dump = c.args.repo.now in
    subst (λ answer. OnOk c.append_explicit.result (TellsLines answer c.args.out.now.items c.append_explicit.new.out.items))
    (sym (ap (λ each. question_answer_in dump (question_view each)) c.in-Explicit.is ∙ question_answer-explicit (history_in_bytes dump) (trees_in_bytes dump) (peg_view c.in-Explicit.of)))
    c.append_explicit.ensures.lines

pub returns-in-Explicit-clause-none : goal.returns-in-Explicit-clause-none
returns-in-Explicit-clause-none c =
    let dump = c.args.repo.now in
    subst (λ answer. IfErr c.append_explicit.result (IsUntold answer))
    (sym (ap (λ each. question_answer_in dump (question_view each)) c.in-Explicit.is ∙ question_answer-explicit (history_in_bytes dump) (trees_in_bytes dump) (peg_view c.in-Explicit.of)))
    c.append_explicit.ensures.none

pub returns-in-Ancestor-clause-lines : goal.returns-in-Ancestor-clause-lines
returns-in-Ancestor-clause-lines c =
    let dump = c.args.repo.now in
    subst (λ answer. OnOk c.append_ancestor.result (TellsLines answer c.args.out.now.items c.append_ancestor.new.out.items))
    (sym (ap (λ each. question_answer_in dump (question_view each)) c.in-Ancestor.is ∙ question_answer-ancestor (history_in_bytes dump) (trees_in_bytes dump) (peg_view c.in-Ancestor.of) (peg_view c.in-Ancestor.other)))
    c.append_ancestor.ensures.lines

pub returns-in-Ancestor-clause-none : goal.returns-in-Ancestor-clause-none
returns-in-Ancestor-clause-none c =
    let dump = c.args.repo.now in
    subst (λ answer. IfErr c.append_ancestor.result (IsUntold answer))
    (sym (ap (λ each. question_answer_in dump (question_view each)) c.in-Ancestor.is ∙ question_answer-ancestor (history_in_bytes dump) (trees_in_bytes dump) (peg_view c.in-Ancestor.of) (peg_view c.in-Ancestor.other)))
    c.append_ancestor.ensures.none

pub returns-in-Holds-clause-lines : goal.returns-in-Holds-clause-lines
returns-in-Holds-clause-lines c =
    let dump = c.args.repo.now in
    subst (λ answer. OnOk c.append_holds.result (TellsLines answer c.args.out.now.items c.append_holds.new.out.items))
    (sym (ap (λ each. question_answer_in dump (question_view each)) c.in-Holds.is ∙ question_answer-holds (history_in_bytes dump) (trees_in_bytes dump) (peg_view c.in-Holds.of) c.in-Holds.range))
    c.append_holds.ensures.lines

pub returns-in-Holds-clause-none : goal.returns-in-Holds-clause-none
returns-in-Holds-clause-none c =
    let dump = c.args.repo.now in
    subst (λ answer. IfErr c.append_holds.result (IsUntold answer))
    (sym (ap (λ each. question_answer_in dump (question_view each)) c.in-Holds.is ∙ question_answer-holds (history_in_bytes dump) (trees_in_bytes dump) (peg_view c.in-Holds.of) c.in-Holds.range))
    c.append_holds.ensures.none

pub returns-in-New-clause-lines : goal.returns-in-New-clause-lines
returns-in-New-clause-lines c =
    let dump = c.args.repo.now in
    subst (λ answer. OnOk c.append_new.result (TellsLines answer c.args.out.now.items c.append_new.new.out.items))
    (sym (ap (λ each. question_answer_in dump (question_view each)) c.in-New.is ∙ question_answer-new (history_in_bytes dump) (trees_in_bytes dump) (comparison_view c.in-New.comparison)))
    c.append_new.ensures.lines

pub returns-in-New-clause-none : goal.returns-in-New-clause-none
returns-in-New-clause-none c =
    let dump = c.args.repo.now in
    subst (λ answer. IfErr c.append_new.result (IsUntold answer))
    (sym (ap (λ each. question_answer_in dump (question_view each)) c.in-New.is ∙ question_answer-new (history_in_bytes dump) (trees_in_bytes dump) (comparison_view c.in-New.comparison)))
    c.append_new.ensures.none

pub returns-in-NewRanges-clause-lines : goal.returns-in-NewRanges-clause-lines
returns-in-NewRanges-clause-lines c =
    let dump = c.args.repo.now in
    subst (λ answer. OnOk c.append_new_ranges.result (TellsLines answer c.args.out.now.items c.append_new_ranges.new.out.items))
    (sym (ap (λ each. question_answer_in dump (question_view each)) c.in-NewRanges.is ∙ question_answer-new_ranges (history_in_bytes dump) (trees_in_bytes dump) (comparison_view c.in-NewRanges.comparison)))
    c.append_new_ranges.ensures.lines

pub returns-in-NewRanges-clause-none : goal.returns-in-NewRanges-clause-none
returns-in-NewRanges-clause-none c =
    let dump = c.args.repo.now in
    subst (λ answer. IfErr c.append_new_ranges.result (IsUntold answer))
    (sym (ap (λ each. question_answer_in dump (question_view each)) c.in-NewRanges.is ∙ question_answer-new_ranges (history_in_bytes dump) (trees_in_bytes dump) (comparison_view c.in-NewRanges.comparison)))
    c.append_new_ranges.ensures.none

pub returns-in-Distance-clause-lines : goal.returns-in-Distance-clause-lines
returns-in-Distance-clause-lines c =
    let dump = c.args.repo.now in
    subst (λ answer. OnOk c.append_distance.result (TellsLines answer c.args.out.now.items c.append_distance.new.out.items))
    (sym (ap (λ each. question_answer_in dump (question_view each)) c.in-Distance.is ∙ question_answer-distance (history_in_bytes dump) (trees_in_bytes dump) (peg_view c.in-Distance.from) c.in-Distance.uncounted.now (slice_split is_tab c.in-Distance.to.now)))
    c.append_distance.ensures.lines

pub returns-in-Distance-clause-none : goal.returns-in-Distance-clause-none
returns-in-Distance-clause-none c =
    let dump = c.args.repo.now in
    subst (λ answer. IfErr c.append_distance.result (IsUntold answer))
    (sym (ap (λ each. question_answer_in dump (question_view each)) c.in-Distance.is ∙ question_answer-distance (history_in_bytes dump) (trees_in_bytes dump) (peg_view c.in-Distance.from) c.in-Distance.uncounted.now (slice_split is_tab c.in-Distance.to.now)))
    c.append_distance.ensures.none

pub returns-in-Descendants-clause-lines : goal.returns-in-Descendants-clause-lines
returns-in-Descendants-clause-lines c =
    let dump = c.args.repo.now in
    subst (λ answer. OnOk c.append_descendants.result (TellsLines answer c.args.out.now.items c.append_descendants.new.out.items))
    (sym (ap (λ each. question_answer_in dump (question_view each)) c.in-Descendants.is ∙ question_answer-descendants (history_in_bytes dump) (trees_in_bytes dump) (peg_view c.in-Descendants.of) c.in-Descendants.rev))
    c.append_descendants.ensures.lines

pub returns-in-Descendants-clause-none : goal.returns-in-Descendants-clause-none
returns-in-Descendants-clause-none c =
    let dump = c.args.repo.now in
    subst (λ answer. IfErr c.append_descendants.result (IsUntold answer))
    (sym (ap (λ each. question_answer_in dump (question_view each)) c.in-Descendants.is ∙ question_answer-descendants (history_in_bytes dump) (trees_in_bytes dump) (peg_view c.in-Descendants.of) c.in-Descendants.rev))
    c.append_descendants.ensures.none
