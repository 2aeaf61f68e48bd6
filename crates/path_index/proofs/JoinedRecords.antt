-- The records of two neighbouring parts of a history by their paths.
use Rattle.path_index.proofs.Common.{◌≡◌, ℕ, ◌+◌, ◌-◌, ◌^◌, ◌<◌, ◌≤◌, ◌⊎◌, List, ◌++◌, length, get_or, inl, inr, refl, ◌∙◌, arith, length-append, SmallVec, cases_lt, slice_get-get_or, NameId, NodeRecord, AreNodesOf, ExtendsNodes, AddsNumbers, FitShifted, IsMoved, AddsPath, AreByPath, AreEntriesOf, CopiesPath, IsOfSome, NamesPath, Child, RecordsByPath, slice_get-first, slice_get-second, slice_get-before, slice_get-after}
use Rattle.path_index.proofs.EntriesOfPaths.{HasEntryOf-more, IsEntryOf-weaker}
use Rattle.path_index.proofs.NodesOfPaths.{node_of-within}

-- ---- the numbers of both

-- of the first with P, of the second with Q, whose numbers are shifted
record AreBoth (P Q R : List NameId → ℕ → Type 0) (shift : ℕ) : Type 0 where
  first : (path : List NameId) (number : ℕ) → P path number → R path number
  second : (path : List NameId) (number : ℕ) → Q path number → R path (number + shift)
  small : (path : List NameId) (number : ℕ) → Q path number → number < 2 ^ 32 → number + shift < 2 ^ 32
  either : (path : List NameId) (number : ℕ) → R path number → P path number ⊎ ((earlier : ℕ) × Q path earlier × (number ≡ earlier + shift))

AreEntriesOf-both : {P Q R : List NameId → ℕ → Type 0} {shift : ℕ} {old_nodes nodes later_nodes : List Child} {mapped : List ℕ} {old new later : List (SmallVec ℕ)} → AreBoth P Q R shift → ExtendsNodes old_nodes nodes
    → AreNodesOf later_nodes nodes mapped → AddsNumbers (IsMoved later mapped (length mapped) shift) old new → AreEntriesOf old_nodes P old → AreEntriesOf later_nodes Q later → AreEntriesOf nodes R new
AreEntriesOf-both {R = R} {later_nodes = later_nodes} {mapped = mapped} both grown nodes_of adds one other =
    record {
      sound = λ node number has. elim (adds.sound node number has) [
        | inl earlier ↦ IsEntryOf-weaker grown both.first (one.sound node number earlier)
        | inr moved ↦
            let of = other.sound moved.from moved.earlier moved.has in
            record {
              path = of.path;
              found = nodes_of.mapped of.path moved.from of.found ∙ moved.mapped;
              small = (let small = both.small of.path moved.earlier of.holds of.small in let is = moved.is in omega (arith, small, is));
              holds = rw moved.is (both.second of.path moved.earlier of.holds);
            }
      ];
      complete = λ path number holds. elim (both.either path number holds) [
        | inl p ↦ HasEntryOf-more grown adds.kept (one.complete path number p)
        | inr (earlier, q, is) ↦
            let has = other.complete path earlier q in
            let inside : has.node < length mapped = let within = node_of-within later_nodes path has.node has.found in let all = nodes_of.all in omega (arith, within, all) in
            let at = slice_get-get_or mapped has.node 0 inside in
            record {
              node = get_or mapped has.node 0;
              found = nodes_of.mapped path has.node has.found ∙ at;
              within = adds.complete (get_or mapped has.node 0) number (record { from = has.node; early = inside; mapped = at; earlier = earlier; has = has.within; is = is });
            }
      ];
    }

-- ---- the records of both

module _ (records more : List NodeRecord) where
  module _ (IsOf : NodeRecord → ℕ → List NameId → ℕ → Type 0) (shift : ℕ)
      (forth : (each : NodeRecord) (index : ℕ) (path : List NameId) (number : ℕ) → IsOf each index path number → IsOf each (length records + index) path (number + shift))
      (back : (each : NodeRecord) (index : ℕ) (path : List NameId) (number : ℕ) → length records ≤ index → IsOf each index path number → (earlier : ℕ) × IsOf each (index - length records) path earlier × (number ≡ earlier + shift))
      (small : (path : List NameId) (number : ℕ) → IsOfSome IsOf more (length more) path number → number < 2 ^ 32 → number + shift < 2 ^ 32) where
    AreBoth-records : AreBoth (IsOfSome IsOf records (length records)) (IsOfSome IsOf more (length more)) (IsOfSome IsOf (records ++ more) (length (records ++ more))) shift
    AreBoth-records = record {
      first = λ path number of. record {
        index = of.index;
        each = of.each;
        early = (let early = of.early in omega (arith, early, length-append records more));
        at = slice_get-first records more of.index of.each of.at;
        so = of.so;
      };
      second = λ path number of. record {
        index = length records + of.index;
        each = of.each;
        early = (let early = of.early in omega (arith, early, length-append records more));
        at = slice_get-second records more of.index of.each of.at;
        so = forth of.each of.index path number of.so;
      };
      small = small;
      either = λ path number of. elim (cases_lt of.index (length records)) [
        | inl before ↦ inl (record { index = of.index; each = of.each; early = before; at = slice_get-before records more of.index of.each before of.at; so = of.so })
        | inr past ↦
            let (earlier, so, is) = back of.each of.index path number past of.so in
            let rest : of.index - length records < length more = let early = of.early in omega (arith, early, length-append records more, past) in
            inr (earlier, record { index = of.index - length records; each = of.each; early = rest; at = slice_get-after records more of.index of.each past of.at; so = so }, is)
      ];
    }

-- ---- both by their paths

module _ {records more : List NodeRecord} {one other : RecordsByPath} (few : length records + length more < 2 ^ 32) (first : AreByPath records one) (second : AreByPath more other) where
  added_early : (path : List NameId) (number : ℕ) → IsOfSome AddsPath more (length more) path number → number + length records < 2 ^ 32
  added_early path number of = let (adds, own, here) = of.so in let early = of.early in omega (arith, early, here)

  copied_early : (path : List NameId) (number : ℕ) → IsOfSome CopiesPath more (length more) path number → number + length records < 2 ^ 32
  copied_early path number of = let (copies, own, here) = of.so in let early = of.early in omega (arith, early, here)

  pub FitShifted-added : FitShifted other.added (length records)
  FitShifted-added = record { fits = λ node number has. let of = second.listed.of_added.sound node number has in added_early of.path number of.holds }

  pub FitShifted-copied : FitShifted other.copied (length records)
  FitShifted-copied = record { fits = λ node number has. let of = second.listed.of_copied.sound node number has in copied_early of.path number of.holds }

  pub FitShifted-named : FitShifted other.named 0
  FitShifted-named = record { fits = λ node number has. let of = second.listed.of_named.sound node number has in let small = of.small in omega (arith, small) }

  pub AreByPath-both : {joined : RecordsByPath} {mapped : List ℕ} → ExtendsNodes one.nodes joined.nodes → AreNodesOf other.nodes joined.nodes mapped
      → AddsNumbers (IsMoved other.added mapped (length mapped) (length records)) one.added joined.added → AddsNumbers (IsMoved other.copied mapped (length mapped) (length records)) one.copied joined.copied
      → AddsNumbers (IsMoved other.named mapped (length mapped) 0) one.named joined.named → AreByPath (records ++ more) joined
  AreByPath-both grown nodes_of added copied named = record {
    few = omega (arith, few, length-append records more);
    listed = record {
      of_added =
          AreEntriesOf-both
          (AreBoth-records records more AddsPath (length records) (λ each index path number (adds, own, here). (adds, own, omega (arith, here)))
          (λ each index path number past (adds, own, here). (index - length records, (adds, own, refl), omega (arith, here))) (λ path number of low. added_early path number of))
          grown nodes_of added first.listed.of_added second.listed.of_added;
      of_copied =
          AreEntriesOf-both
          (AreBoth-records records more CopiesPath (length records) (λ each index path number (copies, own, here). (copies, own, omega (arith, here)))
          (λ each index path number past (copies, own, here). (index - length records, (copies, own, refl), omega (arith, here))) (λ path number of low. copied_early path number of))
          grown nodes_of copied first.listed.of_copied second.listed.of_copied;
      of_named =
          AreEntriesOf-both
          (AreBoth-records records more NamesPath 0 (λ each index path number (front, at). (front, omega (arith, at)))
          (λ each index path number past so. (number, so, omega arith)) (λ path number of low. omega (arith, low)))
          grown nodes_of named first.listed.of_named second.listed.of_named;
    };
  }
