use Rattle.block_map.proofs.Common.{◌+◌, Some, ap, arith, sym, ◌∙◌, on_ok_weaker}
use Rattle.block_map.specs.Children.{AreKept, HaveMapNames}
use Rattle.block_map.proofs.ChildMapNames.{HaveMapNames-Branch, HaveMapNames-Leaf, HaveMapNames-None}
use Rattle.block_map.proofs.Results.{OnOk-both}
use Rattle.block_map.proofs.trie.child_maps.ChildMaps.+push_names_from.Goals as goal

pub returns-in-None-clause-all : goal.returns-in-None-clause-all
returns-in-None-clause-all t c =
    HaveMapNames-None c.args.self.now c.args.map c.args.low c.args.scale c.args.names.now.items c.child_map.ensures.ordered (sym c.child_map.ensures.is ∙ c.in-None.is)

pub returns-in-Some-Leaf-clause-all : goal.returns-in-Some-Leaf-clause-all
returns-in-Some-Leaf-clause-all t c =
    let leaf = c.in-Some-Leaf in
    let at = sym c.child_map.ensures.is ∙ leaf.is ∙ ap Some leaf.field-0-is in
    on_ok_weaker c.push_name.result
    (HaveMapNames-Leaf c.args.self.now c.args.map c.args.low c.args.scale leaf.bits leaf.field-0-1 c.push_name.new.names.items c.child_map.ensures.ordered at)
    c.push_name.ensures.added

pub returns-then-low-scale-ge-NAMES_END-clause-all : goal.returns-then-low-scale-ge-NAMES_END-clause-all
returns-then-low-scale-ge-NAMES_END-clause-all t c =
    let branch = c.in-Some-Branch in
    let at = sym c.child_map.ensures.is ∙ branch.is ∙ ap Some branch.field-0-is in
    let names = c.push_names_from.new.names.items in
    HaveMapNames-Branch c.args.self.now c.args.map c.args.low c.args.scale c.next_scale-next.result branch.even branch.odd names names c.child_map.ensures.ordered at
    c.next_scale-next.ensures.same c.in_ok-push_names_from-in-Some-Branch.ensures.all (λ name has. has)
    (λ small. absurd (omega (arith, c.if-low-scale-ge-NAMES_END.true, small)))

pub returns-else-low-scale-ge-NAMES_END-clause-all : goal.returns-else-low-scale-ge-NAMES_END-clause-all
returns-else-low-scale-ge-NAMES_END-clause-all t c =
    let branch = c.in-Some-Branch in
    let at = sym c.child_map.ensures.is ∙ branch.is ∙ ap Some branch.field-0-is in
    let maps = c.args.self.now in
    let low = c.args.low in
    let scale = c.args.scale in
    let next = c.next_scale-next.result in
    let before = c.push_names_from.new.names.items in
    let after = c.push_names_from-in-Some-Branch in
    let names = after.new.names.items in
    OnOk-both after.result (AreKept before names) (HaveMapNames maps branch.odd (low + scale) next names) (HaveMapNames maps c.args.map low scale names)
    (λ kept odd_has.
    HaveMapNames-Branch maps c.args.map low scale next branch.even branch.odd before names c.child_map.ensures.ordered at
    c.next_scale-next.ensures.same c.in_ok-push_names_from-in-Some-Branch.ensures.all kept (λ _. odd_has))
    after.ensures.kept after.ensures.all
