-- The blocks of a map: where they stand, and what they say together.
use Rattle.block_map.proofs.Common.{◌≡◌, ◌≢◌, ℕ, zero, suc, ◌+◌, ◌^◌, ◌<◌, ◌≤◌, All, List, [], ◌∷◌, ◌++◌, get_or, length, refl, sym, ap, subst, ◌∙◌, arith, append-nil, length-append, arc_value, Arc, Global, flat_map-append, map-append, All-head, sum_by-append, sum_by-cons, same_name, NameId, Record, ValueId, AreBlocksBefore, AreBlocksFrom, block_nodes, block_records, block_trees, Found, look, resolved, with_mergeinfo, look_through, most_nodes, nodes_for, AreMapTrees, end_of_trees, look_in_trees, Trees}
use Rattle.std.specs.List.Sorted.{IsNonDecreasingBy}
use Rattle.std.specs.Prelude.{Option}
use Rattle.block_map.specs.Look as found
use Rattle.block_map.proofs.LooksThrough.{look-front, look_from-within, look_through-append, look_through-none}
use Rattle.block_map.proofs.RecordNodes.{resolved-with_mergeinfo}

-- ---- lists of blocks

-- the tick after their last record
abbrev pub end_of_blocks : ℕ → List Trees → ℕ
end_of_blocks lo blocks = lo + length (block_records blocks)

pub block_records-append : (front more : List Trees) → block_records (front ++ more) ≡ block_records front ++ block_records more
block_records-append front more = flat_map-append (λ (block : Trees). block.records.items) front more

-- one block more at the front
end-cons : (lo : ℕ) (first : Trees) (rest : List Trees) → first.start ≡ lo → end_of_blocks lo (first ∷ rest) ≡ end_of_blocks (end_of_trees first) rest
end-cons lo first rest starts = omega (arith, starts, length-append first.records.items (block_records rest))

pub AreBlocksFrom-append : (lo : ℕ) (front more : List Trees) → AreBlocksFrom lo front → AreBlocksFrom (end_of_blocks lo front) more → AreBlocksFrom lo (front ++ more)
AreBlocksFrom-append lo [] more are next = let none : lo + 0 ≡ lo = omega arith in subst (λ at. AreBlocksFrom at more) none next
AreBlocksFrom-append lo (first ∷ rest) more are next =
    (are.0, are.1, are.2, AreBlocksFrom-append (end_of_trees first) rest more are.3 (subst (λ at. AreBlocksFrom at more) (end-cons lo first rest are.0) next))

pub AreBlocksFrom-front : (lo : ℕ) (front more : List Trees) → AreBlocksFrom lo (front ++ more) → AreBlocksFrom lo front
AreBlocksFrom-front lo [] more are = tt
AreBlocksFrom-front lo (first ∷ rest) more are = (are.0, are.1, are.2, AreBlocksFrom-front (end_of_trees first) rest more are.3)

pub AreBlocksFrom-back : (lo : ℕ) (front more : List Trees) → AreBlocksFrom lo (front ++ more) → AreBlocksFrom (end_of_blocks lo front) more
AreBlocksFrom-back lo [] more are = let none : lo ≡ lo + 0 = omega arith in subst (λ at. AreBlocksFrom at more) none are
AreBlocksFrom-back lo (first ∷ rest) more are =
    subst (λ at. AreBlocksFrom at more) (sym (end-cons lo first rest are.0)) (AreBlocksFrom-back (end_of_trees first) rest more are.3)

-- where the last block begins and ends
pub last-start : (lo : ℕ) (earlier : List Trees) (last : Trees) → AreBlocksFrom lo (earlier ++ last ∷ []) → last.start ≡ end_of_blocks lo earlier
last-start lo earlier last are = (AreBlocksFrom-back lo earlier (last ∷ []) are).0

pub last-end : (lo : ℕ) (earlier : List Trees) (last : Trees) → AreBlocksFrom lo (earlier ++ last ∷ []) → end_of_trees last ≡ end_of_blocks lo (earlier ++ last ∷ [])
last-end lo earlier last are =
    omega (arith, last-start lo earlier last are, ap length (block_records-append earlier (last ∷ [])), length-append (block_records earlier) (block_records (last ∷ [])), length-append last.records.items [])

-- there are few nodes
pub block_nodes-few : (lo : ℕ) (blocks : List Trees) → AreBlocksFrom lo blocks → block_nodes blocks ≤ most_nodes (length (block_records blocks))
block_nodes-few lo [] are = omega arith
block_nodes-few lo (first ∷ rest) are =
    omega (arith, block_nodes-few (end_of_trees first) rest are.3, are.2.few, sum_by-cons (λ (block : Trees). length block.trie.nodes) first rest, length-append first.records.items (block_records rest))

-- for their records, too
pub block_nodes-records : (lo : ℕ) (blocks : List Trees) → AreBlocksFrom lo blocks → block_nodes blocks ≤ nodes_for (block_records blocks)
block_nodes-records lo [] are = omega arith
block_nodes-records lo (first ∷ rest) are = omega (
  arith,
  block_nodes-records (end_of_trees first) rest are.3,
  are.2.nodes,
  sum_by-cons (λ (block : Trees). length block.trie.nodes) first rest,
  sum_by-append (λ (each : Record NameId ValueId). length each.path + 1) first.records.items (block_records rest),
)

pub block_nodes-small : (lo : ℕ) (blocks : List Trees) → AreBlocksFrom lo blocks → block_nodes blocks ≤ most_nodes (2 ^ 32)
block_nodes-small lo [] are = omega arith
block_nodes-small lo (first ∷ rest) are =
    omega (arith, block_nodes-few lo (first ∷ rest) are, end-small (end_of_trees first) rest are.3 are.2.is.few, end-cons lo first rest are.0)
  where
    end-small : (at : ℕ) (blocks : List Trees) → AreBlocksFrom at blocks → at < 2 ^ 32 → end_of_blocks at blocks < 2 ^ 32
    end-small at [] from few = omega (arith, few)
    end-small at (next ∷ more) from few =
        omega (arith, end-small (end_of_trees next) more from.3 from.2.is.few, end-cons at next more from.0)

-- the trees of the last block and of the earlier ones
pub trees-last : (blocks earlier : List (Arc Trees Global)) (last : Arc Trees Global) (block : Trees) → blocks ≡ earlier ++ last ∷ [] → block ≡ arc_value last
    → block_trees blocks ≡ block_trees earlier ++ block ∷ []
trees-last blocks earlier last block split is =
    ap block_trees split ∙ map-append arc_value earlier (last ∷ []) ∙ ap (λ each. block_trees earlier ++ each ∷ []) (sym is)

-- ---- the ticks at which blocks begin

starts-from : (lo : ℕ) (blocks : List (Arc Trees Global)) (i : ℕ) (d : Arc Trees Global) → AreBlocksFrom lo (block_trees blocks) → i < length blocks → lo ≤ (arc_value (get_or blocks i d)).start
starts-from lo [] i d are within = absurd (omega (arith, within))
starts-from lo (first ∷ rest) zero d are within = omega (arith, are.0)
starts-from lo (first ∷ rest) (suc i) d are within =
    omega (arith, starts-from (end_of_trees (arc_value first)) rest i d are.3 (omega (arith, within)), are.0)

-- each block is one
pub each-block : (lo : ℕ) (blocks : List (Arc Trees Global)) (i : ℕ) (d : Arc Trees Global) → AreBlocksFrom lo (block_trees blocks) → i < length blocks → AreMapTrees (arc_value (get_or blocks i d))
each-block lo [] i d are within = absurd (omega (arith, within))
each-block lo (first ∷ rest) zero d are within = are.2
each-block lo (first ∷ rest) (suc i) d are within = each-block (end_of_trees (arc_value first)) rest i d are.3 (omega (arith, within))

pub starts-rise : (lo : ℕ) (blocks : List (Arc Trees Global)) → AreBlocksFrom lo (block_trees blocks) → IsNonDecreasingBy (λ (block : Arc Trees Global). (arc_value block).start) blocks
starts-rise lo [] are i j d upto within = absurd (omega (arith, within))
starts-rise lo (first ∷ rest) are zero zero d upto within = omega arith
starts-rise lo (first ∷ rest) are zero (suc j) d upto within =
    omega (arith, starts-from (end_of_trees (arc_value first)) rest j d are.3 (omega (arith, within)))
starts-rise lo (first ∷ rest) are (suc i) zero d upto within = absurd (omega (arith, upto))
starts-rise lo (first ∷ rest) are (suc i) (suc j) d upto within =
    starts-rise (end_of_trees (arc_value first)) rest are.3 i j d (omega (arith, upto)) (omega (arith, within))

-- ---- what the blocks say

-- after the beginning nothing is resolved
pub resolved-later : (lo : ℕ) (each : Found NameId ValueId) → lo ≢ 0 → resolved lo each ≡ each
resolved-later zero each later = absurd (later refl)
resolved-later (suc lo) each later = refl

-- other mergeinfo lies over what a block says of a tick
pub with_mergeinfo-through : (lo tick : ℕ) (path : List NameId) (mergeinfo : Option ValueId) (records : List (Record NameId ValueId)) (says : Found NameId ValueId) → tick ≤ lo + length records
    → resolved lo says ≡ resolved lo (look same_name lo records tick path)
    → resolved lo (with_mergeinfo mergeinfo says) ≡ resolved lo (look_through same_name lo records (found.at_with path tick mergeinfo))
with_mergeinfo-through lo tick path mergeinfo records says within is =
    let own = look same_name lo records tick path in
    resolved-with_mergeinfo lo mergeinfo says
    ∙ ap (with_mergeinfo mergeinfo) is
    ∙ sym (resolved-with_mergeinfo lo mergeinfo own)
    ∙ sym (ap (λ each. resolved lo (with_mergeinfo mergeinfo each)) (look_from-within same_name lo records tick path within))

-- what the last block leaves is looked up in the earlier ones
pub through-earlier : (lo : ℕ) (earlier : List Trees) (last : Trees) (left right : Found NameId ValueId) → AreBlocksFrom lo (earlier ++ last ∷ [])
    → resolved last.start left ≡ resolved last.start right
    → resolved lo (look_through same_name lo (block_records earlier) left) ≡ resolved lo (look_through same_name lo (block_records earlier) right)
through-earlier lo [] last left right are same =
    ap (resolved lo) (look_through-none same_name lo left) ∙ subst (λ at. resolved at left ≡ resolved at right) are.0 same
    ∙ sym (ap (resolved lo) (look_through-none same_name lo right))
through-earlier lo (first ∷ rest) last left right are same =
    let later : last.start ≢ 0 = λ none. absurd (omega (arith, none, last-start lo (first ∷ rest) last are, are.1, length-append first.records.items (block_records rest))) in
    ap (λ each. resolved lo (look_through same_name lo (block_records (first ∷ rest)) each)) (sym (resolved-later last.start left later) ∙ same ∙ resolved-later last.start right later)

-- what all blocks say is what the last one says, by the earlier ones
pub through-last : (lo : ℕ) (earlier : List Trees) (last : Trees) (each : Found NameId ValueId) → AreBlocksFrom lo (earlier ++ last ∷ [])
    → look_through same_name lo (block_records (earlier ++ last ∷ [])) each ≡ look_through same_name lo (block_records earlier) (look_through same_name last.start last.records.items each)
through-last lo earlier last each are =
    ap (λ all. look_through same_name lo all each) (block_records-append earlier (last ∷ []) ∙ ap (λ more. block_records earlier ++ more) (append-nil last.records.items))
    ∙ look_through-append same_name lo (block_records earlier) last.records.items each
    ∙ ap (λ at. look_through same_name lo (block_records earlier) (look_through same_name at last.records.items each)) (sym (last-start lo earlier last are))

module _ (lo tick : ℕ) (path : List NameId) where
  abbrev look_of : List (Record NameId ValueId) → Found NameId ValueId
  look_of records = look same_name lo records tick path

  -- the last block that begins before a tick reaches it
  pub end-front : (all front : List Trees) → AreBlocksFrom lo all → AreBlocksBefore tick all front → tick ≤ end_of_blocks lo all → tick ≤ end_of_blocks lo front
  end-front all front are before within = by before.more before.split before.after
    where
      by : (more : List Trees) → all ≡ front ++ more → All (λ block. tick ≤ block.start) more → tick ≤ end_of_blocks lo front
      by [] split after = subst (λ blocks. tick ≤ end_of_blocks lo blocks) (split ∙ append-nil front) within
      by (next ∷ more) split after =
          let starts = (AreBlocksFrom-back lo front (next ∷ more) (subst (AreBlocksFrom lo) split are)).0 in
          omega (arith, starts, All-head (λ (block : Trees). tick ≤ block.start) next more after)

  -- so all blocks say what those say
  pub look-before : (all front : List Trees) → AreBlocksFrom lo all → AreBlocksBefore tick all front → tick ≤ end_of_blocks lo all → look_of (block_records all) ≡ look_of (block_records front)
  look-before all front are before within =
      ap (λ blocks. look_of (block_records blocks)) before.split ∙ ap look_of (block_records-append front before.more)
      ∙ look-front same_name lo (block_records front) (block_records before.more) tick path (end-front all front are before within)

  -- where there is only one, what it says
  pub look-only : (all : List Trees) (only : Trees) → AreBlocksFrom lo all → AreBlocksBefore tick all (only ∷ []) → tick ≤ end_of_blocks lo all
      → look_in_trees only tick path ≡ resolved lo (look_of (block_records all))
  look-only all only are before within =
      let starts = (AreBlocksFrom-front lo (only ∷ []) before.more (subst (AreBlocksFrom lo) before.split are)).0 in
      ap (λ at. resolved at (look same_name at only.records.items tick path)) starts
      ∙ ap (λ records. resolved lo (look_of records)) (sym (append-nil only.records.items))
      ∙ ap (resolved lo) (sym (look-before all (only ∷ []) are before within))
