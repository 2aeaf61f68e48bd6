use Rattle.std.proofs.Common.{◌≡◌, refl, sym, subst, ◌∙◌, [], ◌∷◌, false, true, List}
use Rattle.std.proofs.lemmas.Result.{IfOk-weaker}
use Rattle.svn_path.specs.declared.names.NameId.{NameId}
use Rattle.svn_dump.specs.declared.record.Kind.{Kind}
use Rattle.svn_dump.specs.declared.record.Act.{Act}
use Rattle.svn_dump.specs.declared.record.Mi.{Mi}
use Rattle.svn_dump.specs.declared.record.NodeRecord.{NodeRecord}
use Rattle.svn_dump.specs.Tree.{tree_after_action, entry_at, start_tree, trees_of}
use Rattle.path_index.specs.History.{history_to}
use Rattle.path_index.specs.Index.{IsThere}
use Rattle.path_index_tests.proofs.indexes.index_of_replacements.Goals as goal

abbrev the_records : (added deleted copied source replaced itself changed last : List NameId) → List NodeRecord
the_records added deleted copied source replaced itself changed last =
    record { rev = 1; path = added; act = Act.Add false Kind.Dir Mi.Keep }
    ∷ record { rev = 2; path = deleted; act = Act.Delete }
    ∷ record { rev = 3; path = copied; act = Act.Copy false source 1 Mi.Keep }
    ∷ record { rev = 4; path = replaced; act = Act.Copy true itself 3 Mi.Keep }
    ∷ record { rev = 5; path = changed; act = Act.Change Mi.Keep }
    ∷ record { rev = 6; path = last; act = Act.Add true Kind.Dir Mi.Keep }
    ∷ []

abbrev a : List NameId
a = record { 0 = 0 } ∷ []

abbrev b : List NameId
b = record { 0 = 1 } ∷ []

same : (x y : List NameId) (added deleted copied replaced itself changed : List NameId) → x ≡ a → y ≡ b
    → added ≡ x → deleted ≡ x → copied ≡ y → replaced ≡ y → itself ≡ y → changed ≡ y
    → the_records added deleted copied x replaced itself changed y ≡ the_records a a b a b b b b
same x y added deleted copied replaced itself changed ex ey e1 e2 e3 e4 e5 e6 = cc

copied_is_there : IsThere (the_records a a b a b b b b) b 3
unfolding entry_at trees_of history_to tree_after_action start_tree
copied_is_there = refl

changed_is_there : IsThere (the_records a a b a b b b b) b 5
unfolding entry_at trees_of history_to tree_after_action start_tree
changed_is_there = refl

replaced_is_there : IsThere (the_records a a b a b b b b) b 6
unfolding entry_at trees_of history_to tree_after_action start_tree
replaced_is_there = refl

pub returns-clause-copied : goal.returns-clause-copied
returns-clause-copied c =
    let is = same _ _ _ _ _ _ _ _ c.in_ok-a.ensures c.in_ok-b.ensures c.in_ok-dup.ensures c.in_ok-dup-2.ensures c.in_ok-dup-3.ensures c.in_ok-dup-4.ensures c.in_ok-dup-5.ensures c.in_ok-dup-6.ensures in
    IfOk-weaker c.build.result _ _ (λ index at. subst (λ records. IsThere records b 3) (sym (at ∙ c.as_slice.ensures ∙ is)) copied_is_there) c.build.ensures.records

pub returns-clause-changed : goal.returns-clause-changed
returns-clause-changed c =
    let is = same _ _ _ _ _ _ _ _ c.in_ok-a.ensures c.in_ok-b.ensures c.in_ok-dup.ensures c.in_ok-dup-2.ensures c.in_ok-dup-3.ensures c.in_ok-dup-4.ensures c.in_ok-dup-5.ensures c.in_ok-dup-6.ensures in
    IfOk-weaker c.build.result _ _ (λ index at. subst (λ records. IsThere records b 5) (sym (at ∙ c.as_slice.ensures ∙ is)) changed_is_there) c.build.ensures.records

pub returns-clause-replaced : goal.returns-clause-replaced
returns-clause-replaced c =
    let is = same _ _ _ _ _ _ _ _ c.in_ok-a.ensures c.in_ok-b.ensures c.in_ok-dup.ensures c.in_ok-dup-2.ensures c.in_ok-dup-3.ensures c.in_ok-dup-4.ensures c.in_ok-dup-5.ensures c.in_ok-dup-6.ensures in
    IfOk-weaker c.build.result _ _ (λ index at. subst (λ records. IsThere records b 6) (sym (at ∙ c.as_slice.ensures ∙ is)) replaced_is_there) c.build.ensures.records
