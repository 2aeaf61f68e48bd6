use Rattle.query_answer.proofs.Common.{◌≡◌, ◌++◌, arith, common_steps, line_text, segment_in_bytes, segment_line}
use Rattle.query_answer.proofs.verbs.segments.append_segments.Goals as goal

pub loop-segment-preserved : goal.loop-segment-preserved
loop-segment-preserved c =
    let wrote : c.push-in-loop-segment-2.new.self.items
    ≡ c.loop-segment.out.items ++ line_text (segment_line (segment_in_bytes c.args.names.now c.segment-item.result)) = grind (arith, common_steps) in
    grind (arith, common_steps, wrote)
