use Rattle.std.proofs.Common.{◌++◌, ◌∙◌, ap}
use Rattle.svn_path.specs.Components.{path_text}
use Rattle.svn_path.specs.Path.{components_of}
use Rattle.branch_answer.proofs.ByText.{by_text-more}
use Rattle.branch_answer.proofs.text_order.by_text.Goals as goal

pub loop-path-preserved-in_ok-insert : goal.loop-path-preserved-in_ok-insert
loop-path-preserved-in_ok-insert c =
    let names = c.args.names.now in
    let text = path_text (components_of names c.in-Some.path) in
    by_text-more names c.loop-path.yielded c.loop-path.sorted.entries c.insert.new.self.entries c.write.new.out c.in-Some.path c.loop-path.invariant
    (c.in_ok-write.ensures.ok ∙ ap (λ before. before ++ text) c.new-text.ensures.items) c.in_ok-insert.ensures.entries

pub loop-path-preserved-in_ok-insert-2 : goal.loop-path-preserved-in_ok-insert-2
loop-path-preserved-in_ok-insert-2 c =
    let names = c.args.names.now in
    let text = path_text (components_of names c.in-Some.path) in
    by_text-more names c.loop-path.yielded c.loop-path.sorted.entries c.insert.new.self.entries c.write.new.out c.in-Some.path c.loop-path.invariant
    (c.in_ok-write.ensures.ok ∙ ap (λ before. before ++ text) c.new-text.ensures.items) c.in_ok-insert.ensures.entries

pub loop-path-preserved : goal.loop-path-preserved
loop-path-preserved c =
    let names = c.args.names.now in
    let text = path_text (components_of names c.in-Some.path) in
    by_text-more names c.loop-path.yielded c.loop-path.sorted.entries c.insert.new.self.entries c.write.new.out c.in-Some.path c.loop-path.invariant
    (c.in_ok-write.ensures.ok ∙ ap (λ before. before ++ text) c.new-text.ensures.items) c.in_ok-insert.ensures.entries
