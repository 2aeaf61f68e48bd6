-- The indexes of blocks meet, and joined they are of all records.
use Rattle.svn_report.proofs.Common.{◌≡◌, ℕ, suc, ◌+◌, ◌-◌, ◌<◌, ◌≤◌, List, [], ◌∷◌, ◌++◌, length, get_or, drop, refl, sym, ap, ◌∙◌, arith, append-nil, length-take, length-drop, slice_range, drop_all, NodeRecord, IsChain, IsJoined, Meet, act_all, AreBorders, IsIndexOfBlock}
use Rattle.std.proofs.lemmas.List.Folds.{drop_split}
use Rattle.par_scan.specs.Weightless.{no_weight}
use Rattle.path_index.specs.Index.{IndexValue}
use Rattle.path_index.specs.Joining.{put_records_before, records_before, records_up_to_end}

-- each index is of the records of the block of its number
abbrev pub AreIndexesOfBlocks : List NodeRecord → List ℕ → List IndexValue → Type 0
AreIndexesOfBlocks all borders indexes =
    (i : ℕ) (d : IndexValue) → i < length indexes → IsIndexOfBlock all borders i (get_or indexes i d)

-- the borders from the second one on
pub AreBorders-tail : (first last b c : ℕ) (bs : List ℕ) → AreBorders first last (b ∷ c ∷ bs) → AreBorders c last (c ∷ bs)
AreBorders-tail first last b c bs is =
    let next : length (b ∷ c ∷ bs) - 1 ≡ suc (length (c ∷ bs) - 1) = omega arith in
    record {
      some = omega arith;
      starts = refl;
      rise = λ i j h below. is.rise (suc i) (suc j) (omega arith) (omega arith);
      ends = ap (λ i. get_or (b ∷ c ∷ bs) i 0) (sym next) ∙ is.ends;
    }

-- the blocks from the second one on
AreIndexesOfBlocks-tail : (all : List NodeRecord) (b : ℕ) (bs : List ℕ) (m : IndexValue) (ms : List IndexValue) → AreIndexesOfBlocks all (b ∷ bs) (m ∷ ms) → AreIndexesOfBlocks all bs ms
AreIndexesOfBlocks-tail all b bs m ms are i d below =
    let is : IsIndexOfBlock all (b ∷ bs) (suc i) (get_or ms i d) = are (suc i) d (omega arith) in
    let next : suc i + 1 ≡ suc (i + 1) = omega arith in
    record {
      records = is.records ∙ ap (λ j. slice_range all (get_or bs i 0) (get_or (b ∷ bs) j 0)) next;
      first = is.first;
    }

-- no border is above the last one
pub border-le : (first last : ℕ) (borders : List ℕ) (i : ℕ) → AreBorders first last borders → i < length borders → get_or borders i 0 ≤ last
border-le first last borders i is below =
    let up = is.rise i (length borders - 1) (omega arith) (omega arith) in
    omega (arith, is.ends, up)

-- the first index is of the records between the first two borders
first-records : (all : List NodeRecord) (b c : ℕ) (bs : List ℕ) (m : IndexValue) (ms : List IndexValue) → AreIndexesOfBlocks all (b ∷ c ∷ bs) (m ∷ ms) → m.records ≡ slice_range all b c
first-records all b c bs m ms are = (are 0 m (omega arith)).records

-- joined they put all records from the first border on before others
act_all-blocks : (all : List NodeRecord) (first : ℕ) (borders : List ℕ) (indexes : List IndexValue) → AreBorders first (length all) borders → AreIndexesOfBlocks all borders indexes → length indexes + 1 ≡ length borders → act_all put_records_before indexes [] ≡ drop first all
act_all-blocks all first [] indexes is are len = absurd (omega (arith, is.some))
act_all-blocks all first (b ∷ []) [] is are len =
    let starts : b ≡ first = is.starts in
    let ends : b ≡ length all = is.ends in
    sym (drop_all first all (omega arith))
act_all-blocks all first (b ∷ []) (m ∷ ms) is are len = absurd (omega arith)
act_all-blocks all first (b ∷ c ∷ bs) [] is are len = absurd (omega arith)
act_all-blocks all first (b ∷ c ∷ bs) (m ∷ ms) is are len =
    let rise : b ≤ c = is.rise 0 1 (omega arith) (omega arith) in
    let starts : b ≡ first = is.starts in
    ap (λ records. records ++ act_all put_records_before ms []) (first-records all b c bs m ms are)
    ∙ ap (λ rest. slice_range all b c ++ rest)
    (act_all-blocks all c (c ∷ bs) ms (AreBorders-tail first (length all) b c bs is) (AreIndexesOfBlocks-tail all b (c ∷ bs) m ms are) (omega arith))
    ∙ sym (drop_split all b c rise)
    ∙ ap (λ n. drop n all) starts

-- each index begins where the one before it ends
Meet-blocks : (all : List NodeRecord) (first : ℕ) (borders : List ℕ) (indexes : List IndexValue) → AreBorders first (length all) borders → AreIndexesOfBlocks all borders indexes → length indexes + 1 ≡ length borders → Meet records_before records_up_to_end indexes
Meet-blocks all first borders [] is are len = tt
Meet-blocks all first borders (m ∷ []) is are len = tt
Meet-blocks all first [] (m ∷ n ∷ ms) is are len = absurd (omega arith)
Meet-blocks all first (b ∷ []) (m ∷ n ∷ ms) is are len = absurd (omega arith)
Meet-blocks all first (b ∷ c ∷ bs) (m ∷ n ∷ ms) is are len =
    let rise : b ≤ c = is.rise 0 1 (omega arith) (omega arith) in
    let inside : c ≤ length all = border-le first (length all) (b ∷ c ∷ bs) 1 is (omega arith) in
    let begins : m.first ≡ b = (are 0 m (omega arith)).first in
    let next : n.first ≡ c = (are 1 m (omega arith)).first in
    let count = ap length (first-records all b c bs m (n ∷ ms) are) in (
      omega (arith, count, length-take (c - b) (drop b all), length-drop b all),
      Meet-blocks all c (c ∷ bs) (n ∷ ms) (AreBorders-tail first (length all) b c bs is) (AreIndexesOfBlocks-tail all b (c ∷ bs) m (n ∷ ms) are) (omega arith),
    )

-- they are a chain
pub IsChain-blocks : (all : List NodeRecord) (first : ℕ) (borders : List ℕ) (indexes : List IndexValue) → AreBorders first (length all) borders → AreIndexesOfBlocks all borders indexes → length indexes + 1 ≡ length borders → IsChain records_before records_up_to_end (λ _. 0) indexes
IsChain-blocks all first borders indexes is are len = record {
  meet = Meet-blocks all first borders indexes is are len;
  light = omega (arith, no_weight indexes);
}

-- joined they are the index of all records
pub joined-records : (all : List NodeRecord) (borders : List ℕ) (indexes : List IndexValue) (joined : IndexValue) → AreBorders 0 (length all) borders → AreIndexesOfBlocks all borders indexes → length indexes + 1 ≡ length borders → IsJoined put_records_before records_before records_up_to_end indexes joined → joined.records ≡ all
joined-records all borders indexes joined is are len j =
    sym (append-nil joined.records) ∙ j.acts [] ∙ act_all-blocks all 0 borders indexes is are len

pub joined-first : (all : List NodeRecord) (borders : List ℕ) (indexes : List IndexValue) (joined : IndexValue) → AreBorders 0 (length all) borders → AreIndexesOfBlocks all borders indexes → IsJoined put_records_before records_before records_up_to_end indexes joined → joined.first ≡ 0
joined-first all borders indexes joined is are j = j.begins joined ∙ (are 0 joined j.some).first ∙ is.starts
