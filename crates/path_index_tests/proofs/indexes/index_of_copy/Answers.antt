use Rattle.std.proofs.Common.{◌≡◌, refl, sym, subst, ◌∙◌, [], ◌∷◌, false, List}
use Rattle.std.proofs.lemmas.Result.{IfOk-weaker}
use Rattle.svn_path.specs.declared.names.NameId.{NameId}
use Rattle.svn_dump.specs.declared.record.Kind.{Kind}
use Rattle.svn_dump.specs.declared.record.Act.{Act}
use Rattle.svn_dump.specs.declared.record.Mi.{Mi}
use Rattle.svn_dump.specs.declared.record.NodeRecord.{NodeRecord}
use Rattle.svn_dump.specs.Tree.{tree_after_action, entry_at, start_tree, trees_of}
use Rattle.path_index.specs.History.{history_to}
use Rattle.path_index.specs.Index.{IsThere}
use Rattle.path_index_tests.proofs.indexes.index_of_copy.Goals as goal

abbrev the_records : List NameId → List NameId → List NameId → List NodeRecord
the_records added source top =
    record { rev = 1; path = added; act = Act.Add false Kind.Dir Mi.Keep } ∷ record { rev = 2; path = top; act = Act.Copy false source 1 Mi.Keep } ∷ []

abbrev a : List NameId
a = record { 0 = 0 } ∷ []

abbrev b : List NameId
b = record { 0 = 1 } ∷ []

there : (added source top : List NameId) → added ≡ a → source ≡ a → top ≡ b → IsThere (the_records added source top) b 2
unfolding entry_at trees_of history_to tree_after_action start_tree
there added source top is-added is-source is-top =
    subst (λ each. IsThere (the_records each source top) b 2) (sym is-added)
    (subst (λ each. IsThere (the_records a each top) b 2) (sym is-source)
    (subst (λ each. IsThere (the_records a a each) b 2) (sym is-top) refl))

pub returns-clause-there : goal.returns-clause-there
returns-clause-there c =
    IfOk-weaker c.build.result _ _
    (λ index is. subst (λ records. IsThere records b 2) (sym (is ∙ c.as_slice.ensures))
    (there _ _ _ (c.in_ok-dup.ensures ∙ c.in_ok-a.ensures) c.in_ok-a.ensures c.in_ok-path_of.ensures))
    c.build.ensures.records
