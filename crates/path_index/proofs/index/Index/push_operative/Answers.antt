use Rattle.path_index.proofs.Common.{◌≡◌, ◌&&◌, true, false, max, nat_lt, append-nil, sym, ap, ap₂, subst, ◌∙◌, lt-ltb, le-ltb, IndexValue, is_in_range, AreByPath}
use Rattle.path_index.proofs.RangesOfNumbers.{hits-in_range}
use Rattle.path_index.proofs.index.Index.push_operative.Goals as goal
use Rattle.path_index.proofs.index.Index.push_operative.Goals.{else-segment-gt0-via-then-segment-gt0+else-is_in_range, else-segment-gt0-via-else-segment-gt0}

pub returns-in_ok-push : goal.returns-in_ok-push
returns-in_ok-push c =
    let segment = c.args.segment.now in
    let records = c.args.self.now.records in
    let are : AreByPath records c.self.inside.by_path =
    subst (λ all. AreByPath all c.self.inside.by_path) (ap (λ (index : IndexValue). index.records) c.self.view_is) c.self.invariant.0 in
    c.in_ok-push.ensures.items
    ∙ hits-in_range c.args.range segment.lo segment.hi c.unwrap_or-first.result c.unwrap_or-first.ensures c.args.path.now records
    c.args.index c.max-lo.result c.min-hi.result true c.args.hits.now.items c.push_named.new.hits.items
    (c.max-lo.ensures ∙ ap (max segment.lo) c.saturating_sub.ensures) c.min-hi.ensures (c.in_ok-push_named.ensures records are)
    (sym (ap₂ (λ a b. a && b) (lt-ltb 0 segment.lo c.if-segment-gt0.true) (sym c.is_in_range.ensures ∙ c.if-is_in_range.true)))

pub returns-else-segment-gt0 : goal.returns-else-segment-gt0
returns-else-segment-gt0 c =
    let segment = c.args.segment.now in
    let records = c.args.self.now.records in
    let are : AreByPath records c.self.inside.by_path =
    subst (λ all. AreByPath all c.self.inside.by_path) (ap (λ (index : IndexValue). index.records) c.self.view_is) c.self.invariant.0 in
    let first : false ≡ (nat_lt 0 segment.lo && is_in_range c.args.range segment.lo) = elim c.else-segment-gt0.branch [
      | else-segment-gt0-via-then-segment-gt0+else-is_in_range w ↦
          sym (ap₂ (λ a b. a && b) (lt-ltb 0 segment.lo w.if-segment-gt0.true) (sym w.is_in_range.ensures ∙ w.if-is_in_range.false))
      | else-segment-gt0-via-else-segment-gt0 w ↦
          sym (ap (λ b. b && is_in_range c.args.range segment.lo) (le-ltb 0 segment.lo w.if-segment-gt0.false))
    ] in
    sym (append-nil c.push_named.new.hits.items)
    ∙ hits-in_range c.args.range segment.lo segment.hi c.unwrap_or-first.result c.unwrap_or-first.ensures c.args.path.now records
    c.args.index c.max-lo.result c.min-hi.result false c.args.hits.now.items c.push_named.new.hits.items
    (c.max-lo.ensures ∙ ap (max segment.lo) c.saturating_sub.ensures) c.min-hi.ensures (c.in_ok-push_named.ensures records are) first
