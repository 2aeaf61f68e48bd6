use Rattle.block_map.proofs.Common.{[], ◌∷◌, ◌++◌, get_or, take, refl, ap, subst, sym, ◌∙◌, arith, take_all, take_more, found_at, standing_of, NameId}
use Rattle.block_map.specs.Trie.{standing_below}
use Rattle.block_map.proofs.ChildrenFound.{AreChildrenAmong, AreChildrenAmong-push, AreChildren-all, before-less, found-child}
use Rattle.block_map.proofs.trie.Trie.children_of.Goals as goal

pub loop-name-preserved : goal.loop-name-preserved
loop-name-preserved c =
    let trie = c.args.self.now in
    let root = c.args.root in
    let names = c.args.names.now in
    let index = c.loop-name.name-index in
    let each = get_or names index 0 in
    let name : NameId = record { 0 = each } in
    let path = c.args.path.now in
    let step = c.step-child.ensures.is path refl c.find-position.ensures.base in
    let stands = c.entry.ensures (path ++ name ∷ []) ∙ ap (λ from. standing_of (found_at trie from)) step
    ∙ ap standing_of (sym (found-child trie root path c.find-position.result c.find-position.ensures name)) in
    let more = AreChildrenAmong-push (standing_below trie root) path (take index names) each c.loop-name.children.items c.loop-name.invariant c.entry.result stands
    (before-less names index each c.requires.once c.loop-name-test.true refl) in
    subst (λ front. AreChildrenAmong (standing_below trie root) path front c.push_child.new.children.items) (sym (take_more names index 0 c.loop-name-test.true))
    (subst (AreChildrenAmong (standing_below trie root) path (take index names ++ each ∷ [])) (sym c.in_ok-push_child.ensures) more)

pub returns : goal.returns
returns c =
    let names = c.args.names.now in
    let standing = standing_below c.args.self.now c.args.root in
    AreChildren-all standing c.args.path.now names c.loop-name.children.items
    (subst (λ all. AreChildrenAmong standing c.args.path.now all c.loop-name.children.items) (take_all c.loop-name.name-index names (omega (arith, c.loop-name-test.false))) c.loop-name.invariant)
    c.requires.all
