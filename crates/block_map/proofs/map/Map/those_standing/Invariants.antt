use Rattle.block_map.proofs.Common.{◌≡◌, take, look_in, standing_of}
use Rattle.block_map.proofs.ChildrenFound.{AreChildrenAmong}
use Rattle.block_map.proofs.map.Map.those_standing.Given as goal

abbrev pub invariant-loop-name : goal.invariant-loop-name
invariant-loop-name l = record {
  path : l.below.items ≡ l.fn.path;
  children : AreChildrenAmong (λ below. standing_of (look_in l.self l.fn.tick below)) l.fn.path (take l.name-index l.fn.names) l.children.items;
}
