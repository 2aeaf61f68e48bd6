-- Maps of neighbouring parts of a history, joined.
use Rattle.block_map.proofs.Common.{◌≡◌, ◌+◌, [], ◌∷◌, ◌++◌, length, ap, ◌∙◌, arith, length-append, same_name, look_through, MapValue, hi_of}
use Rattle.par_scan.specs.Chain.{IsJoined, act_all}
use Rattle.block_map.specs.Joining.{MapPoint, found, count, act_on_point, tick_before}
use Rattle.block_map.proofs.LooksThrough.{look_through-append}

module _ (one two joined : MapValue) (meet : hi_of one ≡ two.lo) (lo : joined.lo ≡ one.lo) (records : joined.records ≡ one.records ++ two.records) (nodes : joined.nodes ≡ one.nodes + two.nodes) where
  acts : (point : MapPoint) → act_on_point joined point ≡ act_all act_on_point (one ∷ two ∷ []) point
  acts (found each) =
      ap found (
      (λ i. look_through same_name (lo i) (records i) each)
      ∙ look_through-append same_name one.lo one.records two.records each
      ∙ ap (λ at. look_through same_name one.lo one.records (look_through same_name at two.records each)) meet
      )
  acts (count number) = ap count (omega (arith, nodes))

  -- the map of both parts acts as the later one and then the earlier one
  pub IsJoined-maps : IsJoined act_on_point tick_before hi_of (one ∷ two ∷ []) joined
  IsJoined-maps = record {
    some = omega arith;
    acts = acts;
    begins = λ d. lo;
    ends = λ d. omega (arith, lo, ap length records, length-append one.records two.records, meet);
  }
