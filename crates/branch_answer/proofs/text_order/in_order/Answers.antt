use Rattle.std.proofs.Common.{◌≡◌}
use Rattle.std.proofs.lemmas.Iterator.{items_from_collect}
use Rattle.std.proofs.lemmas.Iterator.Consumers.{YieldsList-from_rest}
use Rattle.std.proofs.lemmas.Result.{IfOk-weaker}
use Rattle.std.specs.BTreeMap.{values}
use Rattle.branch_answer.proofs.ByText.{values-by_text}
use Rattle.branch_answer.proofs.text_order.in_order.Goals as goal

pub returns : goal.returns
returns c =
    let sorted = c.in_ok-sorted.sorted in
    IfOk-weaker c.collect.result (λ paths. paths.items ≡ values sorted) _
    (λ paths are. values-by_text c.args.names.now sorted.entries c.args.paths.items paths.items c.in_ok-sorted.ensures are)
    (items_from_collect c.collect.result c.collect.ensures.ran (YieldsList-from_rest (values sorted) c.into_values.ensures.rest))
