-- The maps of blocks meet, and joined they are of all records.
use Rattle.svn_report.proofs.Common.{◌≡◌, ℕ, suc, ◌+◌, ◌-◌, ◌<◌, ◌≤◌, List, [], ◌∷◌, ◌++◌, length, get_or, drop, refl, sym, ap, ◌∙◌, arith, length-take, length-drop, slice_range, sum_by, drop_all, length-map, map-append, sum_by-append, sum_by-cons, same_name, DumpValue, record_view, NodeRecord, ends_of, record_at_tick, IsChain, IsJoined, Meet, act_all, AreBorders, IsMapOfBlock}
use Rattle.std.proofs.lemmas.List.Folds.{drop_split}
use Rattle.svn_path.specs.declared.names.NameId.{NameId}
use Rattle.svn_dump.specs.History.{Record}
use Rattle.svn_dump.specs.declared.record.ValueId.{ValueId}
use Rattle.block_map.specs.Joining.{MapPoint, found, count, act_on_point, tick_before}
use Rattle.block_map.specs.Look as look
use Rattle.block_map.specs.Look.{Found, at, absent, resolved}
use Rattle.block_map.specs.LookThrough.{look_through}
use Rattle.block_map.specs.Map.{IsMapOf, MapValue, hi_of, nodes_for, records_at_ticks}
use Rattle.block_map.proofs.LooksThrough.{look_from-within, look_through-append, look_through-none}
use Rattle.par_scan.specs.Weightless.{no_weight}
use Rattle.svn_report.proofs.BlockIndexes.{AreBorders-tail, border-le}

-- ---- nodes

-- each map has at most one for each component of its records and one for each record
abbrev pub HaveFewNodes : List MapValue → Type 0
HaveFewNodes maps = (i : ℕ) (d : MapValue) → i < length maps → (get_or maps i d).nodes ≤ nodes_for (get_or maps i d).records

abbrev nodes_of_map : MapValue → ℕ
nodes_of_map map = map.nodes

abbrev nodes_for_map : MapValue → ℕ
nodes_for_map map = nodes_for map.records

-- so have all of them
few-nodes : (maps : List MapValue) → HaveFewNodes maps → sum_by nodes_of_map maps ≤ sum_by nodes_for_map maps
few-nodes [] few = omega arith
few-nodes (m ∷ ms) few = omega (
  arith,
  few 0 m (omega arith),
  few-nodes ms (λ i d below. few (suc i) d (omega (arith, below))),
  sum_by-cons nodes_of_map m ms,
  sum_by-cons nodes_for_map m ms,
)

-- joined they add up
act_all-count : (maps : List MapValue) (number : ℕ) → act_all act_on_point maps (count number) ≡ count (sum_by nodes_of_map maps + number)
act_all-count [] number = ap count (omega arith)
act_all-count (m ∷ ms) number =
    ap (act_on_point m) (act_all-count ms number) ∙ ap count (omega (arith, sum_by-cons nodes_of_map m ms))

-- the number, if the point is one
abbrev number_of : MapPoint → ℕ
number_of (found each) = 0
number_of (count number) = number

nodes-joined : (maps : List MapValue) (joined : MapValue) → IsJoined act_on_point tick_before hi_of maps joined → joined.nodes ≡ sum_by nodes_of_map maps
nodes-joined maps joined j = omega (arith, ap number_of (j.acts (count 0) ∙ act_all-count maps 0))

-- ---- records

module _ (ends : List ℕ) where
  -- each map is of the records of the block of its number
  abbrev pub AreMapsOfBlocks : List NodeRecord → List ℕ → List MapValue → Type 0
  AreMapsOfBlocks all borders maps =
      (i : ℕ) (d : MapValue) → i < length maps → IsMapOfBlock all ends borders i (get_or maps i d)

  module _ (all : List NodeRecord) where
    -- the records from one on
    abbrev records_from : ℕ → List (Record NameId ValueId)
    records_from first = records_at_ticks ends (drop first all)

    -- the blocks from the second one on
    AreMapsOfBlocks-tail : (b : ℕ) (bs : List ℕ) (m : MapValue) (ms : List MapValue) → AreMapsOfBlocks all (b ∷ bs) (m ∷ ms) → AreMapsOfBlocks all bs ms
    AreMapsOfBlocks-tail b bs m ms are i d below =
        let is : IsMapOfBlock all ends (b ∷ bs) (suc i) (get_or ms i d) = are (suc i) d (omega arith) in
        let next : suc i + 1 ≡ suc (i + 1) = omega arith in
        record {
          lo = is.lo;
          records = is.records ∙ ap (λ j. records_at_ticks ends (slice_range all (get_or bs i 0) (get_or (b ∷ bs) j 0))) next;
        }

    -- the first map is of the records between the first two borders, and ends at the second one
    first-records : (b c : ℕ) (bs : List ℕ) (m : MapValue) (ms : List MapValue) → AreMapsOfBlocks all (b ∷ c ∷ bs) (m ∷ ms) → m.records ≡ records_at_ticks ends (slice_range all b c)
    first-records b c bs m ms are = (are 0 m (omega arith)).records

    first-end : (b c : ℕ) (bs : List ℕ) (m : MapValue) (ms : List MapValue) → b ≤ c → c ≤ length all → AreMapsOfBlocks all (b ∷ c ∷ bs) (m ∷ ms) → hi_of m ≡ c
    first-end b c bs m ms rise inside are =
        let begins : m.lo ≡ b = (are 0 m (omega arith)).lo in
        omega (
          arith,
          begins,
          ap length (first-records b c bs m ms are),
          length-map (slice_range all b c) (λ (each : NodeRecord). record_at_tick ends (record_view each)),
          length-take (c - b) (drop b all),
          length-drop b all,
        )

    -- joined they say what all records from the first border on say
    act_all-maps : (first : ℕ) (borders : List ℕ) (maps : List MapValue) (each : Found NameId ValueId) → AreBorders first (length all) borders → AreMapsOfBlocks all borders maps → length maps + 1 ≡ length borders
        → act_all act_on_point maps (found each) ≡ found (look_through same_name first (records_from first) each)
    act_all-maps first [] maps each is are len = absurd (omega (arith, is.some))
    act_all-maps first (b ∷ []) [] each is are len =
        let starts : b ≡ first = is.starts in
        let ends_at : b ≡ length all = is.ends in
        ap found (sym (look_through-none same_name first each)
        ∙ ap (λ records. look_through same_name first (records_at_ticks ends records) each) (sym (drop_all first all (omega arith))))
    act_all-maps first (b ∷ []) (m ∷ ms) each is are len = absurd (omega arith)
    act_all-maps first (b ∷ c ∷ bs) [] each is are len = absurd (omega arith)
    act_all-maps first (b ∷ c ∷ bs) (m ∷ ms) each is are len =
        let rise : b ≤ c = is.rise 0 1 (omega arith) (omega arith) in
        let inside : c ≤ length all = border-le first (length all) (b ∷ c ∷ bs) 1 is (omega arith) in
        let begins : m.lo ≡ b = (are 0 m (omega arith)).lo in
        let starts : b ≡ first = is.starts in
        let later = act_all-maps c (c ∷ bs) ms each (AreBorders-tail first (length all) b c bs is) (AreMapsOfBlocks-tail b (c ∷ bs) m ms are) (omega arith) in
        ap (act_on_point m) later
        ∙ ap found (
        ap (λ tick. look_through same_name m.lo m.records (look_through same_name tick (records_from c) each)) (sym (first-end b c bs m ms rise inside are))
        ∙ sym (look_through-append same_name m.lo m.records (records_from c) each)
        ∙ ap (λ front. look_through same_name m.lo (front ++ records_from c) each) (first-records b c bs m ms are)
        ∙ ap (λ records. look_through same_name m.lo records each)
        (sym (map-append (λ (each : NodeRecord). record_at_tick ends (record_view each)) (slice_range all b c) (drop c all)) ∙ ap (records_at_ticks ends) (sym (drop_split all b c rise)))
        ∙ ap (λ lo. look_through same_name lo (records_from b) each) begins
        ∙ ap (λ n. look_through same_name n (records_from n) each) starts
        )

    -- each map begins where the one before it ends
    Meet-maps : (first : ℕ) (borders : List ℕ) (maps : List MapValue) → AreBorders first (length all) borders → AreMapsOfBlocks all borders maps → length maps + 1 ≡ length borders → Meet tick_before hi_of maps
    Meet-maps first borders [] is are len = tt
    Meet-maps first borders (m ∷ []) is are len = tt
    Meet-maps first [] (m ∷ n ∷ ms) is are len = absurd (omega arith)
    Meet-maps first (b ∷ []) (m ∷ n ∷ ms) is are len = absurd (omega arith)
    Meet-maps first (b ∷ c ∷ bs) (m ∷ n ∷ ms) is are len =
        let rise : b ≤ c = is.rise 0 1 (omega arith) (omega arith) in
        let inside : c ≤ length all = border-le first (length all) (b ∷ c ∷ bs) 1 is (omega arith) in
        let next : n.lo ≡ c = (are 1 m (omega arith)).lo in (
          first-end b c bs m (n ∷ ms) rise inside are ∙ sym next,
          Meet-maps c (c ∷ bs) (n ∷ ms) (AreBorders-tail first (length all) b c bs is) (AreMapsOfBlocks-tail b (c ∷ bs) m (n ∷ ms) are) (omega arith),
        )

    -- the nodes for the records of each map are those for all records from the first border on
    nodes_for-maps : (first : ℕ) (borders : List ℕ) (maps : List MapValue) → AreBorders first (length all) borders → AreMapsOfBlocks all borders maps → length maps + 1 ≡ length borders
        → sum_by nodes_for_map maps ≡ nodes_for (records_from first)
    nodes_for-maps first [] maps is are len = absurd (omega (arith, is.some))
    nodes_for-maps first (b ∷ []) [] is are len =
        let starts : b ≡ first = is.starts in
        let ends_at : b ≡ length all = is.ends in
        sym (ap (λ records. nodes_for (records_at_ticks ends records)) (drop_all first all (omega arith)))
    nodes_for-maps first (b ∷ []) (m ∷ ms) is are len = absurd (omega arith)
    nodes_for-maps first (b ∷ c ∷ bs) [] is are len = absurd (omega arith)
    nodes_for-maps first (b ∷ c ∷ bs) (m ∷ ms) is are len =
        let rise : b ≤ c = is.rise 0 1 (omega arith) (omega arith) in
        let starts : b ≡ first = is.starts in
        let front = records_at_ticks ends (slice_range all b c) in
        let whole : records_from b ≡ front ++ records_from c =
        ap (records_at_ticks ends) (drop_split all b c rise) ∙ map-append (λ (each : NodeRecord). record_at_tick ends (record_view each)) (slice_range all b c) (drop c all) in
        omega (
          arith,
          nodes_for-maps c (c ∷ bs) ms (AreBorders-tail first (length all) b c bs is) (AreMapsOfBlocks-tail b (c ∷ bs) m ms are) (omega arith),
          sum_by-cons nodes_for_map m ms,
          ap nodes_for (first-records b c bs m ms are),
          sum_by-append (λ (each : Record NameId ValueId). length each.path + 1) front (records_from c),
          ap nodes_for whole,
          ap (λ n. nodes_for (records_from n)) starts,
        )

    -- they are a chain
    pub IsChain-maps : (borders : List ℕ) (maps : List MapValue) → AreBorders 0 (length all) borders → AreMapsOfBlocks all borders maps → length maps + 1 ≡ length borders → IsChain tick_before hi_of (λ _. 0) maps
    IsChain-maps borders maps is are len = record { meet = Meet-maps 0 borders maps is are len; light = omega (arith, no_weight maps) }

    -- the last map ends after all records
    last-end : (first : ℕ) (borders : List ℕ) (maps : List MapValue) (d : MapValue) → AreBorders first (length all) borders → AreMapsOfBlocks all borders maps → length maps + 1 ≡ length borders → 0 < length maps
        → hi_of (get_or maps (length maps - 1) d) ≡ length all
    last-end first borders [] d is are len some = absurd (omega (arith, some))
    last-end first [] (m ∷ ms) d is are len some = absurd (omega arith)
    last-end first (b ∷ []) (m ∷ ms) d is are len some = absurd (omega arith)
    last-end first (b ∷ c ∷ e ∷ bs) (m ∷ []) d is are len some = absurd (omega arith)
    last-end first (b ∷ c ∷ []) (m ∷ []) d is are len some =
        let rise : b ≤ c = is.rise 0 1 (omega arith) (omega arith) in
        let ends_at : c ≡ length all = is.ends in
        first-end b c [] m [] rise (omega arith) are ∙ ends_at
    last-end first (b ∷ c ∷ bs) (m ∷ n ∷ ms) d is are len some =
        let place : length (m ∷ n ∷ ms) - 1 ≡ suc (length (n ∷ ms) - 1) = omega arith in
        ap (λ i. hi_of (get_or (m ∷ n ∷ ms) i d)) place
        ∙ last-end c (c ∷ bs) (n ∷ ms) d (AreBorders-tail first (length all) b c bs is) (AreMapsOfBlocks-tail b (c ∷ bs) m (n ∷ ms) are) (omega arith) (omega arith)

-- what was found, if the point is that
abbrev found_of : MapPoint → Found NameId ValueId
found_of (found each) = each
found_of (count nodes) = absent

-- joined they are the map of a dump
pub IsMapOf-joined : (dump : DumpValue) (borders : List ℕ) (maps : List MapValue) (joined : MapValue) → AreBorders 0 (length dump.records) borders
    → AreMapsOfBlocks (ends_of dump.counts) dump.records borders maps → length maps + 1 ≡ length borders → IsJoined act_on_point tick_before hi_of maps joined → IsMapOf dump joined
IsMapOf-joined dump borders maps joined is are len j = record {
  first = record { lo = lo; within = omega (arith, end); looks = looks };
  whole = end;
}
  where
    lo : joined.lo ≡ 0
    lo = j.begins joined ∙ (are 0 joined j.some).lo ∙ is.starts

    end : hi_of joined ≡ length dump.records
    end = j.ends joined ∙ last-end (ends_of dump.counts) dump.records 0 borders maps joined is are len j.some

    says : (tick : ℕ) (path : List NameId) → tick ≤ hi_of joined
        → look.look same_name joined.lo joined.records tick path ≡ look.look same_name 0 (records_at_ticks (ends_of dump.counts) dump.records) tick path
    says tick path within =
        let all = records_at_ticks (ends_of dump.counts) dump.records in
        let inside : tick ≤ 0 + length all =
        omega (arith, within, end, length-map dump.records (λ (each : NodeRecord). record_at_tick (ends_of dump.counts) (record_view each))) in
        sym (look_from-within same_name joined.lo joined.records tick path within)
        ∙ ap found_of (j.acts (found (at path tick)) ∙ act_all-maps (ends_of dump.counts) dump.records 0 borders maps (at path tick) is are len)
        ∙ look_from-within same_name 0 all tick path inside

    looks : (tick : ℕ) (path : List NameId) → tick ≤ hi_of joined
        → resolved joined.lo (look.look same_name joined.lo joined.records tick path) ≡ resolved 0 (look.look same_name 0 (records_at_ticks (ends_of dump.counts) dump.records) tick path)
    looks tick path within =
        ap (resolved joined.lo) (says tick path within)
        ∙ ap (λ at. resolved at (look.look same_name 0 (records_at_ticks (ends_of dump.counts) dump.records) tick path)) lo

-- with few nodes, if each map has few
pub few-nodes_of_joined : (ends : List ℕ) (all : List NodeRecord) (borders : List ℕ) (maps : List MapValue) (joined : MapValue) → AreBorders 0 (length all) borders
    → AreMapsOfBlocks ends all borders maps → length maps + 1 ≡ length borders → HaveFewNodes maps → IsJoined act_on_point tick_before hi_of maps joined
    → joined.nodes ≤ nodes_for (records_at_ticks ends all)
few-nodes_of_joined ends all borders maps joined is are len few j =
    omega (arith, nodes-joined maps joined j, few-nodes maps few, nodes_for-maps ends all 0 borders maps is are len)
