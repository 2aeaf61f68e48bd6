use Rattle.block_map.proofs.Common.{ap, locations_of}
use Rattle.block_map.proofs.trie.locations.Locations.new.Goals as goal

pub returns : goal.returns
unfolding locations_of
returns c = ap locations_of c.new.ensures.items
