use Rattle.std.proofs.Common.{◌≡◌, ◌∙◌, ◌++◌, [], ◌∷◌, ap, get_or, sym, take, rules, subst}
use Rattle.std.proofs.lemmas.List.{map_push, take_all, take_more}
use Rattle.std.proofs.lemmas.List.Sorted.{IsPermutation-map, answers_always}
use Rattle.std.proofs.lemmas.Option.{get_or_from_slice_get}
use Rattle.std.specs.List.Sorted.{IsPermutation}
use Rattle.svn_path.specs.Names.{name_of}
use Rattle.svn_dump.specs.declared.record.Kind.TheVariants.{File}
use Rattle.block_map.specs.declared.entry.Child.{Child}
use Rattle.branch_answer.specs.KeptChildren.{child_in_bytes, children_in_bytes, entries_in_bytes, entry_in_bytes}
use Rattle.branch_answer.proofs.questions.list.in_order.Goals as goal

pub loop-child-preserved : goal.loop-child-preserved
loop-child-preserved c =
    let names = c.args.names.now in
    let done = take c.loop-child.child-index c.args.children.now in
    let child : Child = get_or c.args.children.now c.loop-child.child-index record { name = record { 0 = 0 }; kind = File } in
    let name : c.text.result.now ≡ name_of names child.name.0 = sym (get_or_from_slice_get names child.name.0 _ _ c.text.ensures) in
    ap entries_in_bytes c.in_ok-push.ensures.items
    ∙ map_push entry_in_bytes c.loop-child.entries.items (c.text.result, child.kind)
    ∙ (λ i. c.loop-child.invariant i ++ (name i, child.kind) ∷ [])
    ∙ sym (map_push (child_in_bytes names) done child)
    ∙ ap (children_in_bytes names) (sym (take_more c.args.children.now c.loop-child.child-index _ c.loop-child-test.true))

pub returns : goal.returns
returns c =
    let names = c.args.names.now in
    let before = c.loop-child.entries.items in
    let after = c.sort_unstable_by_key.new.self.items in
    let all : entries_in_bytes before ≡ children_in_bytes names c.args.children.now =
    c.loop-child.invariant ∙ ap (children_in_bytes names) (take_all c.loop-child.child-index c.args.children.now c.loop-child-test.false) in
    record {
      moved = subst (λ from. IsPermutation from (entries_in_bytes after)) all (IsPermutation-map entry_in_bytes before after c.sort_unstable_by_key.ensures.permutation);
      sorted = c.sort_unstable_by_key.ensures.sorted (λ entry. entry.0) (answers_always _ _ _ (λ f a r g h. search rules));
    }
