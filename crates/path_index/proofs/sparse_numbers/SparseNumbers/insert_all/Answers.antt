use Rattle.path_index.proofs.Common.{◌≡◌, get_or, length, arith, get_or_default, slice_get-get_or, numbers_of}
use Rattle.path_index.proofs.ListsOfNodes.{AddsNumbers-next_node}
use Rattle.path_index.proofs.sparse_numbers.SparseNumbers.insert_all.Goals as goal

pub insert_shifted-requires : goal.insert_shifted-requires
insert_shifted-requires c =
    let from = c.loop-from.from in
    let numbers = numbers_of c.args.later from in
    rw c.of.ensures (λ k d within. c.requires.fits from (get_or numbers k d) (k, within, get_or_default numbers k _ d within))

pub loop-from-preserved : goal.loop-from-preserved
loop-from-preserved c =
    let from = c.loop-from.from in
    AddsNumbers-next_node (slice_get-get_or c.args.nodes.now from 0 c.loop-from-test.true) c.loop-from.invariant (rw c.of.ensures at c.in_ok-insert_shifted.ensures)

pub returns : goal.returns
returns c =
    let all : c.loop-from.from ≡ length c.args.nodes.now =
    omega (arith, c.loop-from-test.false, c.loop-from.auto.from-end) in
    rw c.shrink_nodes.ensures (rw all at c.loop-from.invariant)
