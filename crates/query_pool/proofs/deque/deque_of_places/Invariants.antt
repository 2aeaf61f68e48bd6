use Rattle.query_pool.proofs.Common.{◌≡◌, ◌≤◌, [], worker_capacity, worker_flavor, worker_index, worker_view, most_workers, tally}
use Rattle.query_pool.proofs.deque.deque_of_places.Given as goal

abbrev pub invariant-loop-place : goal.invariant-loop-place
invariant-loop-place l = record {
  fifo : worker_flavor l.owner ≡ 0;
  room : l.fn.n ≤ worker_capacity l.owner;
  index : worker_index l.owner ≡ l.place;
  view : worker_view l.owner ≡ tally most_workers l.place [];
}
