use Rattle.block_map.proofs.Common.{◌≡◌, ◌+◌, ◌-◌, Some, option_map, ap, sym, ◌∙◌, arith, history_view, same_name}
use Rattle.block_map.specs.FaultKind.{kind_view}
use Rattle.block_map.proofs.FirstFaults.{first_fault-least, first_fault_of_dump-none}
use Rattle.block_map.proofs.faults.check_from.Goals as goal

pub returns-in_default : goal.returns-in_default
returns-in_default g c =
    let found = c.in_default.ensures in
    let is = found.kept in
    sym (first_fault_of_dump-none c.args.dump.now is (λ index within. found.fine index within (omega (arith, is.few_records))))

pub returns : goal.returns
returns g c =
    let found = c.in-Some.ensures in
    let number = c.in-Some.number in
    let kind = kind_view c.in-Some-2.kind in
    let counted : number - 1 + 1 ≡ number = omega (arith, found.within.0) in
    let faulty = sym c.in_ok-kind.ensures ∙ ap (option_map kind_view) c.in-Some-2.is in
    sym (first_fault-least same_name (history_view c.args.dump.now) (number - 1) kind faulty
    (λ index before. found.fine index (omega (arith, found.within.1)) (omega arith)) ∙ ap (λ n. Some (n, kind)) counted)
