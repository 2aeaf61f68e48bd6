use Rattle.path_index.proofs.Common.{◌≡◌, ℕ, List, [], ◌∷◌, ◌++◌, map, refl, ap, subst, ◌∙◌, hit_at, AreByPath, Hit, IfOk-weaker, IndexValue, named_revisions}
use Rattle.path_index.proofs.index.Index.named_in.Goals as goal

-- the revisions of hits that are made of revisions
revs-hits_at : (index : ℕ) (revs : List ℕ) → map (λ (hit : Hit). hit.rev) (map (hit_at index) revs) ≡ revs
revs-hits_at index [] = refl
revs-hits_at index (rev ∷ revs) = ap (λ more. rev ∷ more) (revs-hits_at index revs)

pub returns : goal.returns
returns c =
    let path = c.args.path.now in
    let records = c.args.self.now.records in
    let are : AreByPath records c.self.inside.by_path =
    subst (λ all. AreByPath all c.self.inside.by_path) (ap (λ (index : IndexValue). index.records) c.self.view_is) c.self.invariant.0 in
    let revs = named_revisions path c.args.above c.args.up_to records in
    let hits : c.push_named.new.hits.items ≡ map (hit_at 0) revs =
    c.in_ok-push_named.ensures records are ∙ ap (λ old. old ++ map (hit_at 0) revs) c.new-hits.ensures.items in
    IfOk-weaker c.revisions_of.result (λ all. all.items ≡ map (λ (hit : Hit). hit.rev) c.as_slice.result.now) (λ all. all.items ≡ revs)
    (λ all is. is ∙ ap (map (λ (hit : Hit). hit.rev)) (c.as_slice.ensures.value ∙ hits) ∙ revs-hits_at 0 revs) c.revisions_of.ensures
