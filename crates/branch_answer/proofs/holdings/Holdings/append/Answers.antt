use Rattle.std.proofs.Common.{◌≡◌, ◌∙◌, ◌+◌, ◌-◌, ◌<◌, ◌++◌, sym, ap, arith, append_assoc, append-nil, drop, length}
use Rattle.branch_answer.specs.KeptHolding.{holding_view}
use Rattle.branch_answer.specs.KeptHoldings.{held_text, holdings_text, texts_of}
use Rattle.branch_answer.proofs.HeldTexts.{holdings_text-more, holdings_text-none}
use Rattle.branch_answer.proofs.holdings.Holdings.append.Goals as goal

pub revisions-init : goal.revisions-init
revisions-init c =
    let how = c.args.self.now.how in
    let left = c.len-left.result in
    let out = c.args.out.now.items in (
      omega (arith, c.len-left.ensures, how.ok.0),
      sym (ap (λ more. out ++ more) (holdings_text-none (texts_of c.args.names.now c.args.below.now) (c.args.self.now.first + left) how.items left (omega (arith, c.len-left.ensures, how.ok.0))) ∙ append-nil out),
    )

pub revisions-preserved : goal.revisions-preserved
revisions-preserved c =
    let how = c.args.self.now.how.items in
    let first = c.args.self.now.first in
    let i = c.revisions.left - 1 in
    let texts = texts_of c.args.names.now c.args.below.now in
    let out = c.args.out.now.items in
    let so = c.revisions.invariant in
    let next : i + 1 ≡ c.revisions.left = omega (arith, c.revisions-test.true) in
    let within : i < length how = omega (arith, c.revisions-test.true, so.0) in
    let rev : c.from-first.result + i ≡ first + i = ap (λ n. n + i) c.from-first.ensures in (
      omega (arith, so.0),
      c.in_ok-append_held.ensures
          ∙ ap (λ old. old ++ held_text (c.from-first.result + i) (holding_view texts c.index.result.now)) so.1
          ∙ append_assoc out (holdings_text texts (first + c.revisions.left) (drop c.revisions.left how)) (held_text (c.from-first.result + i) (holding_view texts c.index.result.now))
          ∙ ap (λ more. out ++ more)
          ((λ k. holdings_text texts (first + sym next k) (drop (sym next k) how) ++ held_text (rev k) (holding_view texts (c.index.ensures k)))
          ∙ sym (holdings_text-more texts first i how c.index.result.now within)),
    )
