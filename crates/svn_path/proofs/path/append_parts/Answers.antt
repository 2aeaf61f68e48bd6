use Rattle.std.proofs.Common.{[], ◌∷◌, ◌++◌, ap, ◌∙◌}
use Rattle.svn_path.proofs.Printed.{below_root_more}
use Rattle.svn_path.proofs.path.append_parts.Goals as goal

pub loop-id-preserved : goal.loop-id-preserved
loop-id-preserved c = record {
  written = let more = below_root_more c.args.out.now.items c.args.names.now c.args.parts.now c.loop-id.id-index (record { 0 = 0 }) c.text.result.now c.loop-id-test.true c.text.ensures in
      c.in_ok-extend_from_slice.ensures.items
      ∙ ap (λ bytes. bytes ++ c.text.result.now) c.in_ok-push.ensures.items
      ∙ ap (λ bytes. (bytes ++ 47 ∷ []) ++ c.text.result.now) c.loop-id.invariant.written
      ∙ more;
}
