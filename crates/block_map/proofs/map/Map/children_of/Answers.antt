use Rattle.block_map.proofs.Common.{IfOk, subst, sym, standing_of}
use Rattle.block_map.specs.Children.{AreChildren, HaveAllNames}
use Rattle.block_map.proofs.map.Map.children_of.Goals as goal

pub children_of-requires-clause-all : goal.children_of-requires-clause-all
children_of-requires-clause-all c =
    subst (λ standing. HaveAllNames standing c.args.path.now c.args.names.now) (sym (λ i below. standing_of (c.in-Some.ensures.look below i))) c.requires.all

pub returns-in-Some : goal.returns-in-Some
returns-in-Some c =
    subst (λ standing. IfOk c.children_of.result (λ children. AreChildren standing c.args.path.now children.items))
    (λ i below. standing_of (c.in-Some.ensures.look below i)) c.children_of.ensures
