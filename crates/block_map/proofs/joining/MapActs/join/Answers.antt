use Rattle.block_map.proofs.Common.{◌≡◌, ◌+◌, ◌++◌, sym, ap, subst, ◌∙◌, sum_by-append, AreBlocksFrom, block_nodes, block_records, block_trees, hi_of, Trees}
use Rattle.block_map.proofs.BlocksOfMaps.{AreBlocksFrom-append, end_of_blocks, block_records-append}
use Rattle.block_map.proofs.JoinedMaps.{IsJoined-maps}
use Rattle.block_map.proofs.joining.MapActs.join.Goals as goal
use Rattle.block_map.proofs.joining.MapActs.join.Goals.{In_ok-share-2}

-- the blocks of both maps
shared_of : (c : In_ok-share-2) → block_trees c.share-2.new.shared.items ≡ block_trees c.self.inside.blocks.items ++ block_trees c.later.inside.blocks.items
shared_of c =
    c.in_ok-share-2.ensures
    ∙ ap (λ front. front ++ block_trees c.as_slice-2.result.now) (c.in_ok-share.ensures ∙ ap (λ items. block_trees items ++ block_trees c.as_slice.result.now) c.new-blocks.ensures.items ∙ ap block_trees c.as_slice.ensures.value)
    ∙ ap (λ items. block_trees c.self.inside.blocks.items ++ block_trees items) c.as_slice-2.ensures.value

pub invariant_of-result : goal.invariant_of-result
invariant_of-result c =
    let lo = c.self.inside.lo in
    let earlier = block_trees c.self.inside.blocks.items in
    let later = block_trees c.later.inside.blocks.items in
    let meet : end_of_blocks lo earlier ≡ c.later.inside.lo = ap hi_of c.self.view_is ∙ c.requires.meet.0 ∙ ap (λ map. map.lo) (sym c.later.view_is) in
    subst (AreBlocksFrom lo) (sym (shared_of c)) (AreBlocksFrom-append lo earlier later c.self.invariant (subst (λ at. AreBlocksFrom at later) (sym meet) c.later.invariant))

pub returns-clause-records : goal.returns-clause-records
returns-clause-records c =
    ap block_records (shared_of c) ∙ block_records-append (block_trees c.self.inside.blocks.items) (block_trees c.later.inside.blocks.items)
    ∙ (λ i. (c.self.view_is i).records ++ (c.later.view_is i).records)

pub returns-clause-nodes : goal.returns-clause-nodes
returns-clause-nodes c =
    ap block_nodes (shared_of c) ∙ sum_by-append (λ (block : Trees). _) (block_trees c.self.inside.blocks.items) (block_trees c.later.inside.blocks.items)
    ∙ (λ i. (c.self.view_is i).nodes + (c.later.view_is i).nodes)

pub returns-clause-joined : goal.returns-clause-joined
returns-clause-joined c =
    IsJoined-maps c.args.self.now c.args.later.now _ c.requires.meet.0 (ap (λ map. map.lo) c.self.view_is) (returns-clause-records c) (returns-clause-nodes c)
