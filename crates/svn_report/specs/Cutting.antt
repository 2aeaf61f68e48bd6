-- Where the blocks of a history end, which take whole revisions from 1 on, and where groups of neighbouring blocks do.
use Rattle.std.specs.Prelude.{◌≡◌, ℕ, ◌+◌, ◌-◌, ◌*◌, ◌^◌, ◌<◌, ◌≤◌, min, sum, List, length, map, slice_index}
use Rattle.std.specs.Prelude.{slice_index_or}
use Rattle.std.specs.Int.{abs_diff}
use Rattle.std.specs.List.{range_with_len}
use Rattle.svn_report.specs.Blocks.{AreBorders}

-- how many revisions a block takes: the length of its number, or the last one, or all revisions where there is none
abbrev pub block_length : List ℕ → ℕ → ℕ → ℕ
block_length cuts all block = slice_index_or cuts (min block (length cuts - 1)) all

-- the revision at which so many blocks end
abbrev pub end_of_blocks : List ℕ → ℕ → ℕ → ℕ
end_of_blocks cuts last blocks = min last (sum (map (block_length cuts last) (range_with_len 0 blocks)))

-- the ends of no block, of one block and so on, up to the first one at the last revision
pub record AreBlockEnds (cuts : List ℕ) (last : ℕ) (ends : List ℕ) : Type 0 where
  pub some : 0 < length ends
  pub each : ends ≡ map (end_of_blocks cuts last) (range_with_len 0 (length ends))
  pub all : end_of_blocks cuts last (length ends - 1) ≡ last
  pub fewest : (blocks : ℕ) → blocks + 1 < length ends → end_of_blocks cuts last blocks < last

-- the last border between blocks, which is how many records there are
abbrev pub last_border : List ℕ → ℕ
last_border borders = slice_index borders (length borders - 1)

-- how far the border at a place is from the end of so many of `most` equal shares of all records, times `most`
abbrev pub distance : ℕ → List ℕ → ℕ → ℕ → ℕ
distance most borders group place = abs_diff (most * slice_index borders place) (group * last_border borders)

-- borders that rise from 0, and few enough records and groups that these distances fit in 64 bits
pub record IsShareable (most : ℕ) (borders : List ℕ) : Type 0 where
  pub rise : AreBorders 0 (last_border borders) borders
  pub few_records : last_border borders < 2 ^ 32
  pub few_groups : most < 2 ^ 32

-- a group that begins at `start` and ends at a place has a block, and so may each of the groups after it
pub record LeavesBlocks (most : ℕ) (borders : List ℕ) (group start place : ℕ) : Type 0 where
  pub own : start < place
  pub later : place + (most - group) < length borders

-- among the places where it may end, the group ends at one whose border is nearest to the end of its share
pub record IsGroupEnd (most : ℕ) (borders : List ℕ) (group start place : ℕ) : Type 0 where
  pub leaves : LeavesBlocks most borders group start place
  pub nearest : (other : ℕ) → LeavesBlocks most borders group start other
      → distance most borders group place ≤ distance most borders group other

-- the places of the borders where no group, one group and so on end, up to all `most` groups
pub record AreGroupEnds (most : ℕ) (borders places : List ℕ) : Type 0 where
  pub len : length places ≡ most + 1
  pub first : slice_index places 0 ≡ 0
  pub each : (group : ℕ) → 0 < group → group < most
      → IsGroupEnd most borders group (slice_index places (group - 1)) (slice_index places group)
  pub last : slice_index places most ≡ length borders - 1

-- the borders of `most` groups, each of neighbouring blocks that are taken together
pub record AreGroupBorders (most : ℕ) (borders kept : List ℕ) : Type 0 where
  pub places : List ℕ
  pub ends : AreGroupEnds most borders places
  pub at : kept ≡ map (slice_index borders) places

-- the borders that are left for at most `most` groups: all of them where there are no more blocks, else those of groups
pub record AreBordersLeft (most : ℕ) (borders kept : List ℕ) : Type 0 where
  pub few : length borders ≤ most + 1 → kept ≡ borders
  pub many : most + 1 < length borders → AreGroupBorders most borders kept
