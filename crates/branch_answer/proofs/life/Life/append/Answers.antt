use Rattle.std.proofs.Common.{arith}
use Rattle.std.proofs.lemmas.Grind.{common_steps}
use Rattle.std.proofs.lemmas.List.Concat.{flat_map-append}
use Rattle.svn_text.specs.Line.{line_text}
use Rattle.branch_answer.specs.KeptLife.{life_in_bytes}
use Rattle.branch_answer.specs.Life.{next_lines, origin_lines}
use Rattle.branch_answer.proofs.life.Life.append.Goals as goal

pub returns : goal.returns
returns c =
    let one = life_in_bytes c.args.names.now c.args.self.now in
    let joined = flat_map-append line_text (origin_lines one.origin) (next_lines one.last one.next) in
    grind (arith, common_steps, joined, c.in_ok-append_revisions.ensures c.args.names.now, c.in_ok-append_origin.ensures, c.in_ok-append_next.ensures)
