use Rattle.std.proofs.Common.{◌∙◌, [], ◌∷◌, ◌++◌, List, ℕ, ap, codes, decimal}
use Rattle.svn_path.specs.Components.{path_text}
use Rattle.svn_path.specs.Path.{components_of}
use Rattle.branch_answer.proofs.HeldTexts.{line-written}
use Rattle.branch_answer.proofs.holdings.append_below.Goals as goal

pub returns : goal.returns
returns c =
    let out = c.args.out.now.items in
    let path = path_text (components_of c.args.names.now c.args.path.now) in
    c.in_ok-push-2.ensures.items
    ∙ ap (λ (text : List ℕ). text ++ 10 ∷ [])
    (c.in_ok-write.ensures.ok ∙ ap (λ (text : List ℕ). text ++ path)
    (c.in_ok-extend_from_slice.ensures.items ∙ (λ i. c.in_ok-push.ensures.items i ++ c.as_slice.ensures i)
    ∙ ap (λ (text : List ℕ). (text ++ 32 ∷ []) ++ codes "in-part-below ") c.in_ok-push_number.ensures.ok))
    ∙ line-written out (decimal c.args.rev) (codes "in-part-below ") path
