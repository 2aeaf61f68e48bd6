-- What a block says of a path.
use Rattle.std.specs.Prelude.{List}
use Rattle.svn_path.specs.declared.names.NameId.{NameId}
use Rattle.svn_dump.specs.declared.record.ValueId.{ValueId}
use Rattle.block_map.specs.Look.{Found, at}
use Rattle.block_map.specs.Map.{found_view}
use Rattle.block_map.specs.declared.looked.Looked.{Looked}
use Rattle.block_map.specs.declared.looked.Looked.TheVariants as looked

-- what it says of this path
abbrev pub looked_view : List NameId → Looked → Found NameId ValueId
looked_view path (looked.SamePath tick) = at path tick
looked_view path (looked.Other found) = found_view found
