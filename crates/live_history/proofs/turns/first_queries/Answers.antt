use Rattle.live_history.proofs.Common.{◌∷◌, [], ap, arith, length, length-append}
use Rattle.live_history.proofs.QueryLines.{AreQueries-more}
use Rattle.live_history.proofs.turns.first_queries.Goals as goal

pub lines-preserved : goal.lines-preserved
lines-preserved c =
    let items = c.in_ok-push.ensures.items in
    let long = length-append c.lines.lines.items (c.in-Some.line ∷ []) in
    record {
      are = rw items (AreQueries-more c.args.bytes.now c.lines.lines.items c.in-Some.line c.lines.rest.now c.in-Some.more.now c.lines.invariant.are c.in-Some.ensures.query);
      some = λ none. absurd (omega (arith, none, ap length items, long));
      few = omega (arith, ap length items, long, c.len.ensures, c.lines-test.true);
    }
