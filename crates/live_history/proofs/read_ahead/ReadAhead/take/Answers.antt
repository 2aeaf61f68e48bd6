use Rattle.live_history.proofs.Common.{◌+◌, ◌-◌, drop, take, length, sym, ap, subst, arith, length-drop, drop-drop, Lacks}
use Rattle.live_history.proofs.ReadAheads.{Lacks-left}
use Rattle.live_history.proofs.read_ahead.ReadAhead.take.Goals as goal

pub invariant_of-self : goal.invariant_of-self
invariant_of-self c =
    let bytes = c.self.inside.bytes.items in
    let taken = c.self.inside.taken in
    let left = Lacks-left (drop taken bytes) c.self.inside.searched c.args.count c.self.invariant.1 in (
      omega (arith, c.saturating_sub-self-inside.ensures, c.self.invariant.0, c.requires, ap (λ each. length each.unread) c.self.view_is, length-drop taken bytes),
      subst (λ n. Lacks 10 (take n (drop (taken + c.args.count) bytes))) (sym c.saturating_sub-self-inside.ensures)
          (subst (λ rest. Lacks 10 (take (c.self.inside.searched - c.args.count) rest)) (drop-drop c.args.count taken bytes) left),
      c.self.invariant.2,
      omega (arith, c.saturating_sub-self-inside.ensures, c.self.invariant.3, c.self.invariant.0),
    )
