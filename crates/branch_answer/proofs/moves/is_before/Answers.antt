use Rattle.std.proofs.Common.{◌++◌, ◌∙◌, List, ℕ, refl, ap}
use Rattle.std.specs.Cmp.Lexicographic.{lists_agrees, slice_cmp}
use Rattle.std.specs.Ordering.{is_lt, is_some_and, nat_cmp}
use Rattle.svn_path.specs.Components.{path_text}
use Rattle.svn_path.specs.Path.{components_of}
use Rattle.branch_answer.proofs.moves.is_before.Goals as goal

pub returns : goal.returns
returns c =
    let text = λ (path : _). path_text (components_of c.args.names.now path) in
    let one = c.as_slice.ensures.value ∙ c.in_ok-write.ensures.ok ∙ ap (λ (old : List ℕ). old ++ text c.args.path.now) c.new-text.ensures.items in
    let two = c.as_slice-2.ensures.value ∙ c.in_ok-write-2.ensures.ok ∙ ap (λ (old : List ℕ). old ++ text c.args.other.now) c.new-other_text.ensures.items in
    c.lt.ensures
    ∙ ap (is_some_and is_lt) (lists_agrees (λ x y. refl) c.as_slice.result.now c.as_slice-2.result.now)
    ∙ ap (λ x. is_lt (slice_cmp nat_cmp x c.as_slice-2.result.now)) one
    ∙ ap (λ y. is_lt (slice_cmp nat_cmp (text c.args.path.now) y)) two
