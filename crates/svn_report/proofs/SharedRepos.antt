-- Threads may share a repository, whose map owns its blocks together with other maps.
use denote.Param.Send.{IsSend, IsSync, sendable}
use Rattle.std.proofs.Crossing.{crosses}
use Rattle.std.proofs.MapsCrossing.{crosses as maps_cross}
use Rattle.par_scan.proofs.ghost_list.GhostList.TheLaws.TheKnot.{send-GhostList, sync-GhostList}
use Rattle.svn_path.specs.contracts.path.Path as Path
use Rattle.block_map.specs.contracts.map.Map as Map
use Rattle.block_map.specs.contracts.trees.Trees as Trees
use Rattle.path_index.specs.contracts.index.Index as Index
use Rattle.query_answer.specs.contracts.repo.Repo as Repo

path_send : IsSend Path.the_row
path_send = search (sendable, crosses) depth 40 fits 100000

path_sync : IsSync Path.the_row
path_sync = search (sendable, crosses) depth 40 fits 100000

trees_send : IsSend Trees.the_row
trees_send = search (sendable, crosses, path_send, send-GhostList) depth 40 fits 100000

trees_sync : IsSync Trees.the_row
trees_sync = search (sendable, crosses, path_sync, sync-GhostList) depth 40 fits 100000

map_sync : IsSync Map.the_row
map_sync = search (sendable, crosses, trees_send, trees_sync) depth 40 fits 100000

index_sync : IsSync Index.the_row
index_sync = search (sendable, crosses, maps_cross, path_sync, sync-GhostList) depth 40 fits 100000

pub repo_sync : IsSync Repo.the_row
repo_sync = search (sendable, crosses, maps_cross, path_sync, map_sync, index_sync) depth 80 fits 200000
