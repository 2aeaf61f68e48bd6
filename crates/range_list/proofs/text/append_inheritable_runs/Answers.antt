use Rattle.std.proofs.Common.{◌≡◌, ◌+◌, false, [], ◌∷◌, ◌++◌, take, get_or, sym, subst}
use Rattle.std.proofs.lemmas.List.{take_more}
use Rattle.range_list.specs.declared.run.Run.{Run}
use Rattle.range_list.proofs.Texts.{AreWritten, AreWritten-push, AreWritten-skip}
use Rattle.range_list.proofs.text.append_inheritable_runs.Goals as goal
use Rattle.range_list.proofs.text.append_inheritable_runs.Goals.{then-run+in_ok-write_run, else-run}

pub loop-run-preserved : goal.loop-run-preserved
loop-run-preserved c =
    let runs = c.args.runs.now in
    let i = c.loop-run.run-index in
    let none : Run = record { lo = 0; hi = 0; inheritable = false } in
    let run = get_or runs i none in
    let next : take (i + 1) runs ≡ take i runs ++ run ∷ [] = take_more runs i none c.loop-run-test.true in
    subst (λ done. AreWritten c.args.out.now.items done c.if-run.out.items c.if-run.follows) (sym next)
    (elim c.if-run.branch [
      | then-run+in_ok-write_run w ↦
          rw w.out-is (rw w.follows-is (AreWritten-push c.args.out.now.items (take i runs) _ _ c.loop-run.invariant run _ w.if-run.true w.in_ok-write_run.ensures.ok))
      | else-run w ↦
          rw w.out-is (rw w.follows-is (AreWritten-skip c.args.out.now.items (take i runs) _ _ c.loop-run.invariant run w.if-run.false))
    ])
