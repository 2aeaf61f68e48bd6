use Rattle.block_map.proofs.Common.{subst, standing_of, sym}
use Rattle.block_map.specs.Children.{AreChildren, HaveAllNames}
use Rattle.std.specs.Prelude.{IfOk}
use Rattle.block_map.proofs.trees.Trees.children_of.Goals as goal

pub children_of-requires-clause-all : goal.children_of-requires-clause-all
children_of-requires-clause-all c =
    subst (λ standing. HaveAllNames standing c.args.path.now c.args.names.now) (sym (λ i below. standing_of (c.root.ensures.shows below i))) c.requires.all

pub returns : goal.returns
returns c =
    subst (λ standing. IfOk c.children_of.result (λ children. AreChildren standing c.args.path.now children.items))
    (λ i below. standing_of (c.root.ensures.shows below i)) c.children_of.ensures
