use Rattle.std.proofs.Common.{◌≡◌, ◌∙◌, ◌<◌, ◌++◌, [], ◌∷◌, ap, append_assoc, append-nil, arith, length, sym}
use Rattle.std.proofs.lemmas.Bool.{eqb-false, eqb-true}
use Rattle.std.proofs.lemmas.List.{nil_from_length}
use Rattle.range_list.specs.Canonical.{canonical_runs}
use Rattle.range_list.specs.Text.{rangelist_text}
use Rattle.branch_answer.specs.KeptNew.{runs_text}
use Rattle.branch_answer.proofs.HeldRuns.{runs_text-some}
use Rattle.branch_answer.proofs.questions.new.append_runs.Goals as goal

pub returns-then-is_empty : goal.returns-then-is_empty
returns-then-is_empty c =
    let runs = c.args.runs.items in
    let out = c.args.out.now.items in
    let empty : c.args.runs.len ≡ 0 = eqb-true c.args.runs.len 0 (sym c.is_empty.ensures ∙ c.if-is_empty.true) in
    let none : runs ≡ [] = nil_from_length runs (omega (arith, empty, c.args.runs.ok.0)) in
    sym (ap (λ all. out ++ runs_text all) none ∙ append-nil out)

pub returns : goal.returns
returns c =
    let runs = c.args.runs.items in
    let out = c.args.out.now.items in
    let text = rangelist_text (canonical_runs runs) in
    let some : 0 < length runs = omega (arith, eqb-false c.args.runs.len 0 (sym c.is_empty.ensures ∙ c.if-is_empty.false), c.args.runs.ok.0) in
    c.in_ok-push.ensures.items
    ∙ ap (λ written. written ++ 10 ∷ []) (c.in_ok-write.ensures.ok ∙ ap (λ all. out ++ rangelist_text all) c.in_ok-ranges.ensures.exact)
    ∙ append_assoc out text (10 ∷ [])
    ∙ ap (λ line. out ++ line) (sym (runs_text-some runs some))
