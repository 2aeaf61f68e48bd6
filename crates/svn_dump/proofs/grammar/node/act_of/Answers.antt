use Rattle.svn_dump.proofs.Common.{ap, node_action_view}
use Rattle.svn_dump.proofs.Nodes.{has_dot-from}
use Rattle.svn_dump.proofs.grammar.node.act_of.Goals as goal

pub path_of-requires : goal.path_of-requires
path_of-requires c = has_dot-from (node_action_view c.args.action) c.in-Copy.replace c.in-Copy.from_rev c.in-Copy.from.now (ap node_action_view c.in-Copy.is) c.requires
