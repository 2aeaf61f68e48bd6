use Rattle.block_map.proofs.Common.{List, Option, [], ◌∷◌, ◌++◌, get_or, length, take, refl, ap, subst, sym, ◌∙◌, arith, take-append_seam, take_all, take_more, look_in, Standing, standing_of, NameId, ValueId}
use Rattle.block_map.proofs.ChildrenFound.{AreChildrenAmong, AreChildrenAmong-push, AreChildren-all, before-less}
use Rattle.block_map.proofs.map.Map.those_standing.Goals as goal

pub loop-name-preserved : goal.loop-name-preserved
loop-name-preserved c =
    let names = c.args.names.now in
    let index = c.loop-name.name-index in
    let each = get_or names index 0 in
    let name : NameId = record { 0 = each } in
    let path = c.args.path.now in
    let look : List NameId → Option (Standing ValueId) = λ below. standing_of (look_in c.args.self.now c.args.tick below) in
    let items = c.in_ok-push.ensures.items ∙ ap (λ front. front ++ name ∷ []) c.loop-name.invariant.path in
    let stands = c.in_ok-entry.ensures ∙ ap look (c.deref.ensures.value ∙ items) in
    let more = AreChildrenAmong-push look path (take index names) each c.loop-name.children.items c.loop-name.invariant.children c.in_ok-entry.entry stands
    (before-less names index each c.requires.once c.loop-name-test.true refl) in
    record {
      path = c.truncate.ensures.items ∙ ap (take (length path)) items ∙ take-append_seam path (name ∷ []);
      children = subst (λ front. AreChildrenAmong look path front c.push_child.new.children.items) (sym (take_more names index 0 c.loop-name-test.true))
          (subst (AreChildrenAmong look path (take index names ++ each ∷ [])) (sym c.in_ok-push_child.ensures) more);
    }

pub returns : goal.returns
returns c =
    let names = c.args.names.now in
    let look : List NameId → Option (Standing ValueId) = λ below. standing_of (look_in c.args.self.now c.args.tick below) in
    AreChildren-all look c.args.path.now names c.loop-name.children.items
    (subst (λ all. AreChildrenAmong look c.args.path.now all c.loop-name.children.items) (take_all c.loop-name.name-index names (omega (arith, c.loop-name-test.false))) c.loop-name.invariant.children)
    c.requires.all
