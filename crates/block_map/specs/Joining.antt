-- How a map acts on what later records found and on a number of nodes, and the ticks between which it stands.
use Rattle.std.specs.Prelude.{ℕ, ◌+◌}
use Rattle.svn_path.specs.Path.{same_name}
use Rattle.svn_path.specs.declared.names.NameId.{NameId}
use Rattle.svn_dump.specs.declared.record.ValueId.{ValueId}
use Rattle.block_map.specs.Look.{Found}
use Rattle.block_map.specs.LookThrough.{look_through}
use Rattle.block_map.specs.Map.{MapValue}

pub data MapPoint : Type 0 where
  -- what later records found
  found : Found NameId ValueId → MapPoint
  -- a number of nodes
  count : ℕ → MapPoint

-- a map says what its records say of what was found, and adds its nodes
abbrev pub act_on_point : MapValue → MapPoint → MapPoint
act_on_point map (found each) = found (look_through same_name map.lo map.records each)
act_on_point map (count nodes) = count (map.nodes + nodes)

-- the tick at which a map begins
abbrev pub tick_before : MapValue → ℕ
tick_before map = map.lo
