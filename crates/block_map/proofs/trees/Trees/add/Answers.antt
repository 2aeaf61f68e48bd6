use Rattle.block_map.proofs.Common.{◌∷◌, ◌++◌, [], refl, ap, ◌∙◌, arith, record_view, record_at_tick, Trees}
use Rattle.block_map.proofs.TreesLooks.{AreTrees-push, AreTrees-same, end_of_trees-same}
use Rattle.block_map.proofs.GrownTries.{ExtendsTrie-none}
use Rattle.block_map.proofs.trees.Trees.add.Goals as goal

pub returns-clause-trees : goal.returns-clause-trees
returns-clause-trees c =
    let old = c.next_root.new.self in
    let same = c.in_ok-id.ensures.same in
    let new : Trees = record { start = old.start; roots = c.push.new.self; trie = old.trie; records = c.push-3.new.self } in
    AreTrees-push old new (record_at_tick c.args.ends.now (record_view c.args.each.now)) c.in_ok-id.id
    (AreTrees-same c.args.self.now old c.requires.trees same) (omega (arith, c.requires.few, end_of_trees-same c.args.self.now old same)) c.in_ok-id.ensures.sound (ExtendsTrie-none old.trie)
    refl c.in_ok-push.ensures.items (c.push-3.ensures ∙ ap (λ each. old.records.items ++ each ∷ []) c.of.ensures) c.in_ok-id.ensures.shows
