use Rattle.std.proofs.Common.{All, sym, subst}
use Rattle.svn_path.specs.Components.{IsComponent}
use Rattle.svn_path.proofs.Tables.{All-with_name}
use Rattle.svn_path.proofs.names.Names.add.Goals as goal

pub invariant_of-self-2 : goal.invariant_of-self-2
invariant_of-self-2 c = record {
  few = c.add.ensures.few;
  components =
      subst (All IsComponent) (sym c.in_ok-add.ensures.table)
      (All-with_name IsComponent c.self.inside.known c.args.name.now c.self.invariant.components c.requires);
  distinct = c.add.ensures.distinct;
}
