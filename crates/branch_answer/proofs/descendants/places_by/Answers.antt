use Rattle.std.proofs.Common.{◌≡◌, ◌∙◌, ◌++◌, ◌∷◌, [], false, true, ap, ap₂, append-nil, append_assoc, drop, filter, length, refl, subst, sym}
use Rattle.std.proofs.lemmas.Bool.{both_ways, false_from_ne_true}
use Rattle.std.specs.BTreeMap.Range.{range_contains}
use Rattle.std.specs.declared.ops.Bound.TheVariants.{Included, Unbounded}
use Rattle.svn_path.specs.Below.{is_below}
use Rattle.svn_path.specs.Path.{same_name}
use Rattle.path_index.specs.Copies.{copy_view}
use Rattle.branch_answer.proofs.PlacesInOrder.{AreFrom, AreFrom-range, AreFrom-tail, is_from, none_after, path_cmp, places_by_copy-from, taken_first}
use Rattle.branch_answer.proofs.descendants.places_by.Goals as goal
use Rattle.branch_answer.specs.KeptDescendants.{places_by_copy}

pub loop-place-init : goal.loop-place-init
loop-place-init c =
    let copy = copy_view c.args.copied.now in
    let keys = c.args.places.now.keys in
    let range : c.into_iter-place-iterator.result ≡ filter (is_from copy) keys =
    c.into_iter-place-iterator.ensures.into_iter_gives ∙ c.range-place-items.ensures.between tt
    ∙ ap (λ from. filter (range_contains path_cmp (Included from) Unbounded) keys) c.in_ok-dup.ensures in
    record {
      told = ap₂ (λ front rest. front ++ rest) c.new-taken.ensures.items (ap (places_by_copy copy) range ∙ places_by_copy-from copy keys);
      left = subst (AreFrom copy) (sym range) (AreFrom-range copy keys c.range-place-items.ensures.ordered);
    }

pub returns-then-not-starts_with : goal.returns-then-not-starts_with
returns-then-not-starts_with c =
    let copy = copy_view c.args.copied.now in
    let taken = c.loop-place.taken.items in
    let place = c.in-Some.place.now in
    let rest = c.next.new.self in
    let steps : c.loop-place.place-iterator ≡ place ∷ rest = c.in-Some.ensures.steps in
    let outside : is_below same_name copy.from place ≡ false = false_from_ne_true _ (λ under. both_ways false refl (c.if-not-starts_with.ensures.1 under)) in
    sym (append-nil taken)
    ∙ ap (λ more. taken ++ more) (sym (ap (places_by_copy copy) steps ∙ none_after copy place rest (subst (AreFrom copy) steps c.loop-place.invariant.left) outside))
    ∙ c.loop-place.invariant.told

pub loop-place-preserved : goal.loop-place-preserved
loop-place-preserved c =
    let copy = copy_view c.args.copied.now in
    let taken = c.loop-place.taken.items in
    let place = c.in-Some.place.now in
    let rest = c.next.new.self in
    let steps : c.loop-place.place-iterator ≡ place ∷ rest = c.in-Some.ensures.steps in
    let under : is_below same_name copy.from place ≡ true = c.if-not-starts_with.ensures.0 refl in
    record {
      told = ap (λ front. front ++ places_by_copy copy rest) (c.in_ok-push.ensures.items ∙ ap (λ next. taken ++ next ∷ []) c.in_ok-rebase.ensures)
          ∙ append_assoc taken ((copy.to ++ drop (length copy.from) place) ∷ []) (places_by_copy copy rest)
          ∙ ap (λ more. taken ++ more) (sym (ap (places_by_copy copy) steps ∙ taken_first copy place rest under))
          ∙ c.loop-place.invariant.told;
      left = AreFrom-tail copy place rest (subst (AreFrom copy) steps c.loop-place.invariant.left);
    }
