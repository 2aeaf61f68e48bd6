-- Indexes of the records of `MERGED`, and where `branches/b` is in them.
use Rattle.std.proofs.Common.{refl, sym, subst}
use Rattle.svn_dump.specs.Tree.{tree_after_action, entry_at, start_tree, trees_of}
use Rattle.path_index.specs.History.{history_to}
use Rattle.path_index.specs.Index.{IndexValue, IsThere}
use Rattle.path_index_tests.specs.Merged.{IsIndexOf, all_records, first_records, the_branch}

there-first : IsThere first_records the_branch 5
unfolding entry_at trees_of history_to tree_after_action start_tree
there-first = refl

there-all : IsThere all_records the_branch 8
unfolding entry_at trees_of history_to tree_after_action start_tree
there-all = refl

module _ (index : IndexValue) where
  pub IsThere-first : IsIndexOf first_records 0 index → IsThere index.records the_branch 5
  IsThere-first is = subst (λ records. IsThere records the_branch 5) (sym is.0) there-first

  pub IsThere-all : IsIndexOf all_records 0 index → IsThere index.records the_branch 8
  IsThere-all is = subst (λ records. IsThere records the_branch 8) (sym is.0) there-all
