use Rattle.std.proofs.Common.{[], ◌++◌, List, append-nil, ap₂, sym, ◌∙◌}
use Rattle.svn_dump.specs.declared.record.NodeRecord.{NodeRecord}
use Rattle.path_index_tests.proofs.refused_growths.are_joined_again.Goals as goal

pub says_all-says-requires : goal.says_all-says-requires
says_all-says-requires c =
    let both = c.in_ok-both.both in
    let j = c.in_ok-both.ensures in
    let later = append-nil c.args.later.now.records ∙ c.requires.later.0 in (
      sym (append-nil both.records) ∙ j.acts [] ∙ ap₂ (λ (f b : List NodeRecord). f ++ b) c.requires.earlier.0 later,
      j.begins both ∙ c.requires.earlier.1,
    )
