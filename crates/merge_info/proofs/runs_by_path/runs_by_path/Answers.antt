use Rattle.merge_info.proofs.Common.{map, sym, subst, arith, map_push, IsLine, line_view, AreRunsByPath}
use Rattle.std.proofs.lemmas.Iterator.Adapters.{YieldsList-from_vec}
use Rattle.std.proofs.lemmas.Iterator.Consumers.{YieldsList-turn}
use Rattle.merge_info.proofs.Each.{All-from_map_at}
use Rattle.merge_info.proofs.runs_by_path.runs_by_path.Goals as goal

-- each line is one
pub add_line-requires : goal.add_line-requires
add_line-requires c =
    let given = c.into_iter-line-iterator.ensures.into_iter_gives in
    let all = YieldsList-from_vec c.args.lines.items given.0 (omega (arith, given.1, c.args.lines.ok.0)) in
    let turn = YieldsList-turn all c.loop-line.yielded c.loop-line.line-iterator c.loop-line.yielded_by
    c.next.result c.next.new.self c.in-Some.line c.in-Some.is c.next.ensures.steps in
    All-from_map_at IsLine line_view c.args.lines.items c.requires _ c.in-Some.line turn.0 turn.1

-- the line stands after those before it
pub loop-line-preserved : goal.loop-line-preserved
loop-line-preserved c =
    subst (λ lines. AreRunsByPath lines c.add_line.new.by_path)
    (sym (map_push line_view c.loop-line.yielded c.in-Some.line))
    (c.in_ok-add_line.ensures (map line_view c.loop-line.yielded) c.loop-line.invariant)
