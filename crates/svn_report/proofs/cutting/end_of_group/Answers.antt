use Rattle.svn_report.proofs.Common.{◌+◌, ◌<◌, arith, distance}
use Rattle.svn_report.proofs.BlockEnds.{IsGroupEnd-further}
use Rattle.svn_report.proofs.cutting.end_of_group.Goals as goal

pub returns-else-distance : goal.returns-else-distance
returns-else-distance c =
    let most = c.args.most in
    let borders = c.args.borders.now in
    let group = c.args.group in
    let place = c.loop-place.place in
    let further : distance most borders group place < distance most borders group (place + 1) =
    omega (arith, c.distance.ensures, c.distance-in-loop-place.ensures) in
    IsGroupEnd-further most borders group c.args.start place c.requires.shareable.rise further c.loop-place.invariant
