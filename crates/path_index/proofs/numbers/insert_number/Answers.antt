use Rattle.path_index.proofs.Common.{◌≢◌, ℕ, ◌<◌, length, get_or, ap, ◌∙◌, arith, get_or_default, IsFirstNotBelow}
use Rattle.path_index.proofs.ListsOfNodes.{IsRising-insert, IsWith-insert}
use Rattle.path_index.proofs.numbers.insert_number.Goals as goal
use Rattle.path_index.proofs.numbers.insert_number.Goals.{then-first-known-via-then-first-known, then-first-known-via-else-first-known+then-known-first}

-- src/numbers.rt:53:1
pub returns-in_ok-insert-clause-rising : goal.returns-in_ok-insert-clause-rising
returns-in_ok-insert-clause-rising c =
    let numbers = c.args.numbers.now.items in
    let first = c.first_not_below-first.result in
    let at : IsFirstNotBelow c.args.number numbers first = rw c.as_slice-known.ensures at c.first_not_below-first.ensures in
    let new : (d : ℕ) → first < length numbers → get_or numbers first d ≢ c.args.number = λ d within.
    elim c.then-first-known.branch [
      | then-first-known-via-then-first-known w ↦ absurd (omega (arith, within, w.if-first-known.true, ap length c.as_slice-known.ensures))
      | then-first-known-via-else-first-known+then-known-first w ↦
          λ is. w.if-known-first.true (ap (λ all. get_or all first 0) c.as_slice-known.ensures ∙ get_or_default numbers first 0 d within ∙ is)
    ] in
    rw c.in_ok-insert.ensures.ok (IsRising-insert numbers c.args.number first at c.requires new)

-- src/numbers.rt:53:1
pub returns-in_ok-insert-clause-with : goal.returns-in_ok-insert-clause-with
returns-in_ok-insert-clause-with c =
    let numbers = c.args.numbers.now.items in
    let first = c.first_not_below-first.result in
    let at : IsFirstNotBelow c.args.number numbers first = rw c.as_slice-known.ensures at c.first_not_below-first.ensures in
    rw c.in_ok-insert.ensures.ok (IsWith-insert numbers c.args.number first at)
