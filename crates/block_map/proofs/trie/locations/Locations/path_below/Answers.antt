use Rattle.block_map.proofs.Common.{◌≡◌, ◌<◌, ◌++◌, not, IfSome, length, reverse, subst, sym, ap, ◌∙◌, arith, IfOk-weaker, locations_of, path_above, path_of}
use Rattle.block_map.proofs.LocationPaths.{AreCollected, AreCollected-first, AreCollected-up, length-locations_of, most_above-smaller, none_above, path_of-stored, stored_at}
use Rattle.block_map.proofs.trie.locations.Locations.path_below.Goals as goal

pub index-top-requires : goal.index-top-requires
index-top-requires c = omega (arith, c.requires, ap length c.self.view_is, length-locations_of c.self.inside.items.items)

pub returns-then-is_none : goal.returns-then-is_none
returns-then-is_none c =
    let items = c.self.inside.items.items in
    let top = c.index-top.result.now in
    let at = stored_at items c.args.self.now c.args.id.0 top c.self.view_is c.requires c.index-top.ensures in
    let none = none_above top.above (c.is_none.ensures ∙ ap not c.if-is_none.true) in
    let whole = path_of-stored items c.args.id top c.self.invariant at ∙ ap (λ above. path_above (locations_of items) above ++ top.rest) none in
    let kept : top.rest ≡ path_of c.args.self.now c.args.id = rw (← c.self.view_is) (sym whole) in
    IfOk-weaker c.join.result (λ path. path ≡ top.rest ++ c.args.rest.now) (λ path. path ≡ path_of c.args.self.now c.args.id ++ c.args.rest.now)
    (λ path is. is ∙ ap (λ front. front ++ c.args.rest.now) kept) c.join.ensures

pub loop-top-init : goal.loop-top-init
loop-top-init c =
    let items = c.self.inside.items.items in
    let top = c.index-top.result.now in
    let at = stored_at items c.args.self.now c.args.id.0 top c.self.view_is c.requires c.index-top.ensures in
    rw (← c.self.view_is)
    (AreCollected-first items c.args.id top c.args.rest.now c.push_reversed.new.parts.items c.self.invariant at
    (c.in_ok-push_reversed.ensures ∙ ap (λ parts. parts ++ reverse c.args.rest.now) c.new-parts.ensures.items))

pub index-top-requires-in-Some : goal.index-top-requires-in-Some
index-top-requires-in-Some c =
    let within : c.in-Some.above.0 < length c.args.self.now =
    subst (λ above. IfSome above (λ id. id.0 < length c.args.self.now)) c.in-Some.is c.loop-top.invariant.within in
    omega (arith, within, ap length c.self.view_is, length-locations_of c.self.inside.items.items)

pub loop-top-smaller : goal.loop-top-smaller
loop-top-smaller c =
    let items = c.self.inside.items.items in
    let next = c.index-top-in-Some.result.now in
    let within : c.in-Some.above.0 < length c.args.self.now =
    subst (λ above. IfSome above (λ id. id.0 < length c.args.self.now)) c.in-Some.is c.loop-top.invariant.within in
    let at = stored_at items c.args.self.now c.in-Some.above.0 next c.self.view_is within c.index-top-in-Some.ensures in
    most_above-smaller c.loop-top.top.now.above next.above c.in-Some.above c.in-Some.is (c.self.invariant c.in-Some.above.0 next at)

pub loop-top-preserved : goal.loop-top-preserved
loop-top-preserved c =
    let items = c.self.inside.items.items in
    let top = c.loop-top.top.now in
    let next = c.index-top-in-Some.result.now in
    let parts = c.loop-top.parts.items in
    let within : c.in-Some.above.0 < length c.args.self.now =
    subst (λ above. IfSome above (λ id. id.0 < length c.args.self.now)) c.in-Some.is c.loop-top.invariant.within in
    let at = stored_at items c.args.self.now c.in-Some.above.0 next c.self.view_is within c.index-top-in-Some.ensures in
    let before = subst (λ locations. AreCollected locations c.args.id c.args.rest.now top parts) (sym c.self.view_is) c.loop-top.invariant in
    rw (← c.self.view_is)
    (AreCollected-up items c.args.id c.args.rest.now top next c.in-Some.above parts c.push_reversed-in-Some.new.parts.items c.self.invariant c.in-Some.is at
    (c.in_ok-push_reversed-2.ensures ∙ ap (λ rest. parts ++ reverse rest) c.parts.ensures) before)
