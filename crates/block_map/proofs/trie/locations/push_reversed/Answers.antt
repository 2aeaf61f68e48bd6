use Rattle.block_map.proofs.Common.{on_ok_weaker}
use Rattle.std.proofs.lemmas.Iterator.Adapters.{YieldsList-from_rev_slice, items_from_extend}
use Rattle.std.proofs.lemmas.Iterator.Consumers.{YieldsList-from_copied}
use Rattle.block_map.proofs.trie.locations.push_reversed.Goals as goal

pub returns : goal.returns
returns c =
    on_ok_weaker c.extend.result (λ gives. gives.0)
    (items_from_extend c.extend.result c.extend.ensures.ran (YieldsList-from_copied (YieldsList-from_rev_slice c.args.more.now cc)))
