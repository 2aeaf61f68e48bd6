use Rattle.std.proofs.Common.{◌≡◌, ◌++◌, ◌∙◌, All, IfSome, OnOk, ap, option_map, subst, sym}
use Rattle.svn_text.specs.Line.{line_text}
use Rattle.svn_path.specs.Path.{IsPathOf}
use Rattle.query_answer.specs.Answer.{HasPathOf}
use Rattle.branch_answer.specs.Ancestor.{ancestor_line}
use Rattle.branch_answer.specs.KeptAncestor.{AreSegmentsAt, shared_in_bytes}
use Rattle.branch_answer.proofs.questions.ancestor.append_newest.Goals as goal

pub append_place-requires : goal.append_place-requires
append_place-requires c =
    let names = c.args.repo.now.names in
    let segments = subst (All (HasPathOf names)) (sym c.as_slice.ensures.value) c.in_ok-segments.ensures.of_names in
    subst (λ each. IfSome c.newest_shared-newest.result (λ found. IsPathOf each found.1.now)) (sym c.names.ensures.value)
    (c.newest_shared-newest.ensures.of_names names segments)

pub returns : goal.returns
returns c =
    let dump = c.args.repo.now in
    let newest = c.newest_shared-newest.result in
    let exact = c.newest_shared-newest.ensures.exact dump c.args.at.now c.args.other_at.now (record {
      kept = c.requires.one.kept;
      one_are = subst (AreSegmentsAt dump c.args.at.now) (sym c.as_slice.ensures.value)
          (record { of_names = c.in_ok-segments.ensures.of_names; exact = c.in_ok-segments.ensures.in_bytes });
      other_are = subst (AreSegmentsAt dump c.args.other_at.now) (sym c.as_slice-2.ensures.value)
          (record { of_names = c.in_ok-other_segments.ensures.of_names; exact = c.in_ok-other_segments.ensures.in_bytes });
    }) in
    subst (λ place. OnOk c.append_place.result (c.append_place.new.out.items ≡ c.args.out.now.items ++ line_text (ancestor_line place)))
    (ap (λ names. option_map (shared_in_bytes names) newest) c.names.ensures.value ∙ exact) c.append_place.ensures
