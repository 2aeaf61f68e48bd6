use Rattle.std.proofs.Common.{length, ap, arith}
use Rattle.svn_path.proofs.Belows.{length-le_from_is_below, IsSame-same_name}
use Rattle.svn_path.proofs.path.Path.rebase.Goals as goal

pub split_at-requires : goal.split_at-requires
split_at-requires c =
    omega (arith, length-le_from_is_below IsSame-same_name c.args.from.now c.args.self.now c.requires, ap length c.parts.ensures)
