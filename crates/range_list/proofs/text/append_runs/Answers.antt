use Rattle.std.proofs.Common.{◌≡◌, ◌∷◌, ◌++◌, rules, arith, take_all}
use Rattle.std.specs.Prelude.{flat_map}
use Rattle.range_list.proofs.Texts.{next_text, rangelist_text-written}
use Rattle.range_list.specs.Text.{run_text}
use Rattle.range_list.proofs.text.append_runs.Goals as goal

pub returns-clause-ok : goal.returns-clause-ok
returns-clause-ok c =
    let is : c.args.runs.now ≡ c.in-Some.first.now ∷ c.in-Some.others.now = search rules in
    let front : c.write_run.new.out.items ≡ c.args.out.now.items ++ run_text c.in-Some.first.now = search rules in
    let written : c.loop-run.out.items ≡ c.write_run.new.out.items ++ flat_map next_text c.in-Some.others.now = rw (take_all c.loop-run.run-index c.in-Some.others.now (omega arith)) at c.loop-run.invariant in
    rangelist_text-written _ _ _ _ _ _ is front written
