-- The ends of revisions.
use Rattle.block_map.proofs.Common.{◌≡◌, ℕ, ◌<◌, List, length, get_or, ◌∙◌, arith, length-map, range_with_len, end_of, ends_of}
use Rattle.std.proofs.lemmas.List.FromFn.{get_or-map-range_with_len, length-range_with_len}

pub ends_of-at : (counts : List ℕ) (rev : ℕ) → rev < length counts → get_or (ends_of counts) rev 0 ≡ end_of counts rev
ends_of-at counts rev within = get_or-map-range_with_len (end_of counts) 0 (length counts) rev rev 0 within (omega arith)

pub length-ends_of : (counts : List ℕ) → length (ends_of counts) ≡ length counts
length-ends_of counts = length-map (range_with_len 0 (length counts)) (end_of counts) ∙ length-range_with_len 0 (length counts)
