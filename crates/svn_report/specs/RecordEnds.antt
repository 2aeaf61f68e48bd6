-- How many records a history has up to each revision.
use Rattle.std.specs.Prelude.{◌≡◌, ℕ, ◌-◌, ◌<◌, List, length, map, slice_index_or}
use Rattle.par_scan.specs.declared.sum.Sum.{Sum}
use Rattle.block_map.specs.Ends.{end_of}
use Rattle.svn_report.specs.Cutting.{AreBlockEnds, AreBordersLeft}

abbrev pub sum_of : ℕ → Sum
sum_of count = record { 0 = count }

-- the sum at a place
abbrev pub sum_at : List Sum → ℕ → ℕ
sum_at sums place = (slice_index_or sums place (sum_of 0)).0

-- each sum is of the counts up to its place
pub record AreRecordEnds (counts : List ℕ) (sums : List Sum) : Type 0 where
  pub len : length sums ≡ length counts
  pub each : (rev : ℕ) → rev < length counts → sum_at sums rev ≡ end_of counts rev

-- how many records there are up to the ends of blocks, of which neighbours are taken together where there are too many
pub record AreRecordBorders (cuts : List ℕ) (most : ℕ) (counts borders : List ℕ) : Type 0 where
  pub ends : List ℕ
  pub are : AreBlockEnds cuts (length counts - 1) ends
  pub left : AreBordersLeft most (map (end_of counts) ends) borders
