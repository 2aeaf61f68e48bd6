use Rattle.merge_info.proofs.Common.{◌≡◌, ◌∷◌, map, sym, ap, ◌∙◌, iff_false, map_push, All-head, IsLine, line_view}
use Rattle.std.proofs.lemmas.Map.Iter.{rest_more}
use Rattle.range_list.specs.Canonical.{canonical_runs}
use Rattle.merge_info.proofs.CanonicalEntries.{IsSoFar-all, IsSoFar-none, IsSoFar-push, IsSoFar-skip}
use Rattle.merge_info.proofs.RunsByPath.{MapEntry, line_in}
use Rattle.merge_info.proofs.merge_info.MergeInfo.of_lines.Goals as goal
use Rattle.merge_info.proofs.merge_info.MergeInfo.of_lines.Goals.{In-Some}

pub loop-path-init : goal.loop-path-init
loop-path-init c =
    rw (c.new-entries.ensures.items, c.into_iter-path-iterator.ensures.into_iter_gives.0)
    (IsSoFar-none (map line_view c.args.lines.items) c.in_ok-items.items c.requires c.in_ok-items.ensures)

-- the next line of the map
next : (c : In-Some) → map line_in c.loop-path.path-iterator
    ≡ line_in (c.in-Some.path, c.in-Some.runs) ∷ map line_in c.next.new.self
next c =
    let entry : MapEntry = (c.in-Some.path, c.in-Some.runs) in
    ap (map line_in) (rest_more (λ (each : MapEntry). each) c.loop-path.path-iterator c.next.new.self
    c.next.result entry c.in-Some.is c.next.ensures.steps)

-- it has runs
pub of_runs-requires : goal.of_runs-requires
of_runs-requires c =
    let are_lines = rw (next (goal.at.of_runs-requires c).In-Some) at c.loop-path.invariant.are_lines in
    (All-head IsLine _ (map line_in c.next.new.self) are_lines).runs

-- of no number
pub loop-path-preserved-then-is_empty : goal.loop-path-preserved-then-is_empty
loop-path-preserved-then-is_empty c =
    IsSoFar-skip c.loop-path.invariant (next (goal.at.loop-path-preserved-then-is_empty c).In-Some)
    (sym c.in_ok-ranges.ensures.exact ∙ c.is_empty.ensures.0 c.if-is_empty.true)

-- of some numbers
pub loop-path-preserved : goal.loop-path-preserved
loop-path-preserved c =
    let exact : c.in_ok-ranges.ranges ≡ canonical_runs c.in-Some.runs.items = c.in_ok-ranges.ensures.exact in
    rw (c.in_ok-push.ensures.items, map_push, exact)
    (IsSoFar-push c.loop-path.invariant (next (goal.at.loop-path-preserved c).In-Some)
    (λ none. iff_false c.is_empty.ensures c.if-is_empty.false (exact ∙ none)))

pub invariant_of-result : goal.invariant_of-result
invariant_of-result c = (IsSoFar-all c.loop-path.invariant (ap (map line_in) c.in-None.ensures.steps.0) c.requires).0

pub returns : goal.returns
returns c =
    let none = ap (map line_in) c.in-None.ensures.steps.0 in
    let (canonical, same, exact) = IsSoFar-all c.loop-path.invariant none c.requires in
    record { same = same; canonical = canonical; exact = exact }
