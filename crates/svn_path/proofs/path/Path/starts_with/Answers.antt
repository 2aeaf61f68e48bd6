use Rattle.std.proofs.Common.{◌≡◌, sym, ◌∙◌}
use Rattle.svn_path.specs.Below.{is_below}
use Rattle.svn_path.specs.Path.{same_name}
use Rattle.svn_path.proofs.Belows.{is_below-starts_with}
use Rattle.svn_path.proofs.path.Path.starts_with.Goals as goal

pub returns : goal.returns
returns c =
    let is : c.starts_with.result ≡ is_below same_name c.args.front.now c.args.self.now = cc (is_below-starts_with same_name c.args.self.now c.args.front.now) in
    (λ yes. sym is ∙ yes, λ yes. is ∙ yes)
