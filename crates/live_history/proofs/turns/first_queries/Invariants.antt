use Rattle.live_history.proofs.Common.{◌≡◌, ◌≤◌, ◌-◌, length, map, AreQueries}
use Rattle.live_history.proofs.turns.first_queries.Given as goal

abbrev pub invariant-lines : goal.invariant-lines
invariant-lines l = record {
  are : AreQueries l.fn.bytes (map (λ line. line.now) l.lines.items) l.rest;
  some : length l.lines.items ≡ 0 → l.rest ≡ l.fn.bytes;
  few : length l.lines.items ≤ l.fn.most;
}

abbrev pub decreases-lines : goal.decreases-lines
decreases-lines l = l.fn.most - length l.lines.items
