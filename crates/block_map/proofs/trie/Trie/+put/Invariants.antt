use Rattle.block_map.proofs.Common.{length}
use Rattle.block_map.proofs.trie.Trie.+put.Given as goal

abbrev pub decreases-put : goal.decreases-put
decreases-put l = length l.path.now
