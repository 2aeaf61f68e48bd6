use Rattle.path_index.proofs.Common.{map, drop, ap, subst, sym, ◌∙◌, arith, AreCopies}
use Rattle.path_index.specs.Copies.{copy_view}
use Rattle.path_index.proofs.CopiesInOrder.{drop-copies_up_to, few-copies_up_to}
use Rattle.path_index.proofs.records.Records.copies_in.Goals as goal

pub split_at-requires : goal.split_at-requires
split_at-requires c =
    let records = c.args.self.now in
    let copies = c.deref.result.now in
    let are : AreCopies records copies = subst (λ all. AreCopies all copies) c.self.view_is (subst (AreCopies c.self.inside.all.items) (sym c.deref.ensures.value) c.self.invariant.of_copies) in
    let few = few-copies_up_to are c.requires c.args.up_to in
    omega (arith, few, c.count_copies_up_to-end.ensures)

pub returns : goal.returns
returns c =
    let records = c.args.self.now in
    let copies = c.deref.result.now in
    let are : AreCopies records copies = subst (λ all. AreCopies all copies) c.self.view_is (subst (AreCopies c.self.inside.all.items) (sym c.deref.ensures.value) c.self.invariant.of_copies) in
    ap (map copy_view) (c.split_at-2.ensures.back ∙ (λ i. drop (c.min-first.ensures i) (c.split_at.ensures.front i)))
    ∙ drop-copies_up_to are c.requires c.args.above c.args.up_to c.count_copies_up_to.result c.count_copies_up_to-end.result c.count_copies_up_to.ensures c.count_copies_up_to-end.ensures
