-- The numbers of the nodes of paths, as paths and records are added.
use Rattle.path_index.proofs.Common.{◌≡◌, ℕ, zero, suc, ◌+◌, ◌-◌, ◌^◌, ◌<◌, ◌≤◌, ◌==◌, true, ◌⊎◌, List, [], ◌∷◌, ◌++◌, filter, length, take, drop, slice_get, None, Some, inl, inr, refl, sym, ap, ◌∙◌, append_assoc, append-nil, arith, length-append, true≢false, SmallVec, cases_Bool, cases_lt, false_from_ne_true, eq-eqb, eqb-true, or_right, take_at, take-append-drop, none-some, same_Some, slice_get_within, is_below, same_name, NameId, IsSame-same_name, is_below-append, Act, NodeRecord, is_named_in, named_revisions, node_of, ExtendsNodes, has_number, AddsNumbers, ArePair, HasNumber, HaveSameNumbers, down_from, SetsPath, IsEntryOf, HasEntryOf, AreEntriesOf, AddsEntries, IsOfSome, AddsPath, CopiesPath, IsFrontAt, NamesPath, AreListed, AreByPath, SetsAt, Child, RecordsByPath, slice_get-first, slice_get-before}
use Rattle.path_index.proofs.DownFrom.{filter_down-same, filter_down-none}
use Rattle.path_index.proofs.NodesOfPaths.{node_of-grown, node_of-one}
use Rattle.path_index.proofs.NumbersOfNodes.{has_number-HasNumber, HasNumber-has_number}

-- ---- nodes that are added

pub ExtendsNodes-none : {nodes : List Child} → ExtendsNodes nodes nodes
ExtendsNodes-none {nodes = nodes} = record { more = []; grown = sym (append-nil nodes) }

pub ExtendsNodes-again : {old middle new : List Child} → ExtendsNodes old middle → ExtendsNodes middle new → ExtendsNodes old new
ExtendsNodes-again {old = old} one other = record { more = one.more ++ other.more; grown = cc (append_assoc old one.more other.more) }

module _ {old new : List Child} (grown : ExtendsNodes old new) where
  pub IsEntryOf-weaker : {P Q : List NameId → ℕ → Type 0} {node number : ℕ} → ((path : List NameId) (number : ℕ) → P path number → Q path number) → IsEntryOf old P node number → IsEntryOf new Q node number
  IsEntryOf-weaker weaker of = record { path = of.path; found = node_of-grown of.path grown of.found; small = of.small; holds = weaker of.path _ of.holds }

  pub HasEntryOf-more : {path : List NameId} {number : ℕ} {before after : List (SmallVec ℕ)} → ((node number : ℕ) → HasNumber before node number → HasNumber after node number) → HasEntryOf old path number before
      → HasEntryOf new path number after
  HasEntryOf-more {path = path} kept has = record { node = has.node; found = node_of-grown path grown has.found; within = kept has.node _ has.within }

-- ---- numbers that are added

-- where nothing holds, none
pub AddsEntries-none : {nodes : List Child} {P : List NameId → ℕ → Type 0} {lists : List (SmallVec ℕ)} → ((path : List NameId) (number : ℕ) → P path number → ⊥) → AddsEntries nodes P lists lists
AddsEntries-none never = record { kept = λ node number has. has; sound = λ node number has. inl has; complete = λ path number holds. absurd (never path number holds) }

-- one more
pub AddsEntries-more : {old_nodes nodes : List Child} {P Q : List NameId → ℕ → Type 0} {old middle new : List (SmallVec ℕ)} {node number : ℕ} (path : List NameId) → ExtendsNodes old_nodes nodes → AddsEntries old_nodes P old middle
    → AddsNumbers (ArePair node number) middle new → node_of nodes path ≡ Some node → number < 2 ^ 32
    → ((p : List NameId) (n : ℕ) → P p n → Q p n) → Q path number → ((p : List NameId) (n : ℕ) → Q p n → P p n ⊎ ((p ≡ path) × (n ≡ number)))
    → AddsEntries nodes Q old new
AddsEntries-more {nodes = nodes} {Q = Q} {new = new} {node = node} {number = number} path grown adds inserted found small weaker here cases = record {
  kept = λ other each has. inserted.kept other each (adds.kept other each has);
  sound = λ other each has. elim (inserted.sound other each has) [
    | inl earlier ↦ elim (adds.sound other each earlier) [ inl before ↦ inl before | inr of ↦ inr (IsEntryOf-weaker grown weaker of) ]
    | inr (is_node, is_number) ↦ inr (record { path = path; found = found ∙ ap Some (sym is_node); small = omega arith; holds = rw is_number here })
  ];
  complete = λ p n holds. elim (cases p n holds) [
    | inl earlier ↦ HasEntryOf-more grown inserted.kept (adds.complete p n earlier)
    | inr (same, number_same) ↦ rw (same, number_same) (record { node = node; found = found; within = inserted.complete node number (refl, refl) })
  ];
}

-- one alone
pub AddsEntries-one : {nodes : List Child} {Q : List NameId → ℕ → Type 0} {old new : List (SmallVec ℕ)} {node number : ℕ} (path : List NameId) → AddsNumbers (ArePair node number) old new → node_of nodes path ≡ Some node → number < 2 ^ 32
    → Q path number → ((p : List NameId) (n : ℕ) → Q p n → (p ≡ path) × (n ≡ number)) → AddsEntries nodes Q old new
AddsEntries-one path inserted found small here only =
    AddsEntries-more {P = λ p n. ⊥} path ExtendsNodes-none (AddsEntries-none (λ p n never. never)) inserted found small (λ p n never. absurd never) here (λ p n holds. inr (only p n holds))

-- those of the paths above a path: the root
pub AddsEntries-root : {nodes : List Child} {old new : List (SmallVec ℕ)} (whole : List NameId) (rev : ℕ) → rev < 2 ^ 32 → AddsNumbers (ArePair 0 rev) old new → AddsEntries nodes (IsFrontAt whole 0 rev) old new
AddsEntries-root whole rev small inserted =
    AddsEntries-one [] inserted refl small ((0, omega arith, refl), refl) (λ p n ((k, few, is), at). let none : k ≡ 0 = omega arith in (is ∙ ap (λ m. take m whole) none, at))

-- and one after another
pub AddsEntries-next : {old_nodes nodes : List Child} {old middle new : List (SmallVec ℕ)} {node : ℕ} (whole : List NameId) (most rev : ℕ) → ExtendsNodes old_nodes nodes → AddsEntries old_nodes (IsFrontAt whole most rev) old middle
    → node_of nodes (take (most + 1) whole) ≡ Some node → rev < 2 ^ 32 → AddsNumbers (ArePair node rev) middle new → AddsEntries nodes (IsFrontAt whole (most + 1) rev) old new
AddsEntries-next whole most rev grown adds found small inserted =
    AddsEntries-more (take (most + 1) whole) grown adds inserted found small (λ p n ((k, few, is), at). ((k, omega arith, is), at)) ((most + 1, omega arith, refl), refl) (λ p n ((k, few, is), at). elim (cases_lt most k) [
      | inl last ↦ let same : k ≡ most + 1 = omega arith in inr (is ∙ ap (λ m. take m whole) same, at)
      | inr earlier ↦ inl ((k, earlier, is), at)
    ])

-- ---- the numbers of records

module _ {old_nodes nodes : List Child} {records : List NodeRecord} {index : ℕ} {each : NodeRecord} (grown : ExtendsNodes old_nodes nodes) (at : slice_get records index ≡ Some each) where
  -- one record more
  AreEntriesOf-more : {IsOf : NodeRecord → ℕ → List NameId → ℕ → Type 0} {old new : List (SmallVec ℕ)} → AreEntriesOf old_nodes (IsOfSome IsOf records index) old → AddsEntries nodes (IsOf each index) old new
      → AreEntriesOf nodes (IsOfSome IsOf records (index + 1)) new
  AreEntriesOf-more {IsOf = IsOf} are adds = record {
    sound = λ node number has. elim (adds.sound node number has) [
      | inl earlier ↦
          IsEntryOf-weaker grown (λ path n of. record { index = of.index; each = of.each; early = (let early = of.early in omega arith); at = of.at; so = of.so }) (are.sound node number earlier)
      | inr of ↦ IsEntryOf-weaker ExtendsNodes-none (λ path n so. record { index = index; each = each; early = omega arith; at = at; so = so }) of
    ];
    complete = λ path number of. elim (cases_lt of.index index) [
      | inl earlier ↦ HasEntryOf-more grown adds.kept (are.complete path number (record { index = of.index; each = of.each; early = earlier; at = of.at; so = of.so }))
      | inr late ↦
          let here : of.index ≡ index = let early = of.early in omega arith in
          let same : of.each ≡ each = same_Some of.each each (sym of.at ∙ ap (slice_get records) here ∙ at) in
          adds.complete path number (rw (here, same) at of.so)
    ];
  }

  -- all three lists, where each gets those of the record
  pub AreListed-more : {added copied named added' copied' named' : List (SmallVec ℕ)} → AreListed records index old_nodes added copied named → AddsEntries nodes (AddsPath each index) added added'
      → AddsEntries nodes (CopiesPath each index) copied copied' → AddsEntries nodes (NamesPath each index) named named' → AreListed records (index + 1) nodes added' copied' named'
  AreListed-more so adds copies names =
      record { of_added = AreEntriesOf-more so.of_added adds; of_copied = AreEntriesOf-more so.of_copied copies; of_named = AreEntriesOf-more so.of_named names }

module _ (Is : Act → Type 0) (each : NodeRecord) {nodes : List Child} {index : ℕ} {old : List (SmallVec ℕ)} where
  -- a record with such an act adds its own path
  pub AddsEntries-own : {node : ℕ} {new : List (SmallVec ℕ)} → Is each.act → node_of nodes each.path ≡ Some node → index < 2 ^ 32 → AddsNumbers (ArePair node index) old new
      → AddsEntries nodes (λ path number. Is each.act × (each.path ≡ path) × (number ≡ index)) old new
  AddsEntries-own so found small inserted = AddsEntries-one each.path inserted found small (so, refl, refl) (λ p n (acts, own, here). (sym own, here))

  -- another adds none
  pub AddsEntries-other : (Is each.act → ⊥) → AddsEntries nodes (λ path number. Is each.act × (each.path ≡ path) × (number ≡ index)) old old
  AddsEntries-other not_so = AddsEntries-none (λ p n (acts, own, here). not_so acts)

-- a copy of the numbers
AreEntriesOf-same : {nodes : List Child} {P : List NameId → ℕ → Type 0} {old new : List (SmallVec ℕ)} → HaveSameNumbers old new → AreEntriesOf nodes P old → AreEntriesOf nodes P new
AreEntriesOf-same same are = record {
  sound = λ node number has. are.sound node number (rw (same node) at has);
  complete = λ path number holds. HasEntryOf-more ExtendsNodes-none (λ node n has. rw (same node) has) (are.complete path number holds);
}

pub AreListed-same : {records : List NodeRecord} {count : ℕ} {nodes : List Child} {added copied named added' copied' named' : List (SmallVec ℕ)} → HaveSameNumbers added added' → HaveSameNumbers copied copied'
    → HaveSameNumbers named named' → AreListed records count nodes added copied named → AreListed records count nodes added' copied' named'
AreListed-same adds copies names so =
    record { of_added = AreEntriesOf-same adds so.of_added; of_copied = AreEntriesOf-same copies so.of_copied; of_named = AreEntriesOf-same names so.of_named }

-- a path's node has exactly the numbers that it should have
pub holds-HasEntryOf : {nodes : List Child} {P : List NameId → ℕ → Type 0} {lists : List (SmallVec ℕ)} {path : List NameId} {number : ℕ} → AreEntriesOf nodes P lists → HasEntryOf nodes path number lists → P path number
holds-HasEntryOf {nodes = nodes} {path = path} are has =
    let of = are.sound has.node _ has.within in rw (node_of-one nodes of.path path has.node of.found has.found) at of.holds

-- of a path that has a node
pub HasNumber-HasEntryOf : {nodes : List Child} {path : List NameId} {node number : ℕ} {lists : List (SmallVec ℕ)} → node_of nodes path ≡ Some node → HasEntryOf nodes path number lists → HasNumber lists node number
HasNumber-HasEntryOf {node = node} found has = rw (same_Some has.node node (sym has.found ∙ found)) at has.within

-- ---- the revisions in which a path is named

is_named_in-from_index : (path : List NameId) (rev : ℕ) (records : List NodeRecord) (index : ℕ) (each : NodeRecord) → slice_get records index ≡ Some each → each.rev ≡ rev → is_below same_name path each.path ≡ true → is_named_in path records rev ≡ true
is_named_in-from_index path rev [] index each at here below = cc
is_named_in-from_index path rev (x ∷ records) zero each at here below =
    let same : x ≡ each = same_Some x each at in rw (same, eq-eqb each.rev rev here, below) refl
is_named_in-from_index path rev (x ∷ records) (suc index) each at here below =
    let rest = is_named_in-from_index path rev records index each at here below in
    elim (cases_Bool (x.rev == rev)) [
      | inl now ↦ rw now (or_right (is_below same_name path x.path) (is_named_in path records rev) rest)
      | inr other ↦ rw other rest
    ]

index-from_is_named_in : (path : List NameId) (rev : ℕ) (records : List NodeRecord) → is_named_in path records rev ≡ true → (index : ℕ) × (each : NodeRecord) × (slice_get records index ≡ Some each) × (each.rev ≡ rev) × (is_below same_name path each.path ≡ true)
index-from_is_named_in path rev [] named = cc
index-from_is_named_in path rev (x ∷ records) named = elim (cases_Bool (x.rev == rev)) [
  | inl now ↦ elim (cases_Bool (is_below same_name path x.path)) [
    | inl below ↦ (0, x, refl, eqb-true x.rev rev now, below)
    | inr other ↦
        let (index, each, at, here, below) = index-from_is_named_in path rev records (rw other at (rw now at named)) in
        (suc index, each, at, here, below)
  ]
  | inr other ↦
      let (index, each, at, here, below) = index-from_is_named_in path rev records (rw other at named) in
      (suc index, each, at, here, below)
]

-- a path is above another exactly where it is a front of it
is_below-from_take : (whole path : List NameId) (n : ℕ) → path ≡ take n whole → is_below same_name path whole ≡ true
is_below-from_take whole path n is =
    (is_below-append IsSame-same_name path whole).1 (drop n whole, sym (take-append-drop n whole) ∙ ap (λ front. front ++ drop n whole) (sym is))

take-from_is_below : (whole path : List NameId) → is_below same_name path whole ≡ true → (n : ℕ) × (n ≤ length whole) × (path ≡ take n whole)
take-from_is_below whole path below =
    let (rest, is) = (is_below-append IsSame-same_name path whole).0 below in
    (length path, omega (arith, ap length is, length-append path rest), sym (ap (take (length path)) is ∙ take_at path rest (length path) refl))

module _ (records : List NodeRecord) (by_path : RecordsByPath) (are : AreByPath records by_path) (path : List NameId) where
  HasEntryOf-is_named_in : (rev : ℕ) → is_named_in path records rev ≡ true → HasEntryOf by_path.nodes path rev by_path.named
  HasEntryOf-is_named_in rev named =
      let (index, each, at, here, below) = index-from_is_named_in path rev records named in
      are.listed.of_named.complete path rev
      (record { index = index; each = each; early = slice_get_within records index each at; at = at; so = (take-from_is_below each.path path below, sym here) })

  is_named_in-HasEntryOf : (rev : ℕ) → HasEntryOf by_path.nodes path rev by_path.named → is_named_in path records rev ≡ true
  is_named_in-HasEntryOf rev has =
      let of = holds-HasEntryOf are.listed.of_named has in
      let ((n, few, is), at) = of.so in
      is_named_in-from_index path rev records of.index of.each of.at (sym at) (is_below-from_take of.each.path path n is)

  -- the revisions that are found by the numbers are those of the records
  pub named_revisions-numbers : (node lo hi : ℕ) → node_of by_path.nodes path ≡ Some node → filter (has_number by_path.named node) (down_from (hi - lo) hi) ≡ named_revisions path lo hi records
  named_revisions-numbers node lo hi found =
      filter_down-same (has_number by_path.named node) (is_named_in path records) (hi - lo) hi (omega arith) (λ rev up within. elim (cases_Bool (is_named_in path records rev)) [
        | inl named ↦ has_number-HasNumber by_path.named node rev (HasNumber-HasEntryOf found (HasEntryOf-is_named_in rev named)) ∙ sym named
        | inr other ↦ false_from_ne_true (has_number by_path.named node rev) (λ has.
            let named = is_named_in-HasEntryOf rev (record { node = node; found = found; within = HasNumber-has_number by_path.named node rev has }) in
            true≢false (sym named ∙ other)) ∙ sym other
      ])

  -- a path without a node is named in none
  pub named_revisions-none : (lo hi : ℕ) → node_of by_path.nodes path ≡ None → named_revisions path lo hi records ≡ []
  named_revisions-none lo hi none = filter_down-none (is_named_in path records) (hi - lo) hi (omega arith) (λ rev up within.
      false_from_ne_true (is_named_in path records rev) (λ named. none-some _ (sym none ∙ (HasEntryOf-is_named_in rev named).found)))

  -- ---- the records that set the origin of the path

  -- by the numbers the record of the index sets it
  pub SetsPath-SetsAt : (index : ℕ) → SetsAt by_path path index → (each : NodeRecord) × (slice_get records index ≡ Some each) × SetsPath each path
  SetsPath-SetsAt index sets = elim sets [
    | inl (n, has) ↦
        let of = holds-HasEntryOf are.listed.of_copied has in
        let (copies, own, here) = of.so in
        (of.each, ap (slice_get records) here ∙ of.at, inr (copies, is_below-from_take path of.each.path n own))
    | inr has ↦
        let of = holds-HasEntryOf are.listed.of_added has in
        let (adds, own, here) = of.so in
        (of.each, ap (slice_get records) here ∙ of.at, inl (adds, own))
  ]

  -- and so do the numbers where the record does
  pub SetsAt-SetsPath : (index : ℕ) (each : NodeRecord) → slice_get records index ≡ Some each → SetsPath each path → SetsAt by_path path index
  SetsAt-SetsPath index each at sets =
      let early = slice_get_within records index each at in
      elim sets [
        | inl (adds, own) ↦ inr (are.listed.of_added.complete path index (record { index = index; each = each; early = early; at = at; so = (adds, own, refl) }))
        | inr (copies, below) ↦
            let (n, few, is) = take-from_is_below path each.path below in
            inl (n, rw is at (are.listed.of_copied.complete each.path index (record { index = index; each = each; early = early; at = at; so = (copies, refl, refl) })))
      ]

-- ---- the first records, among more

module _ {records : List NodeRecord} (more : List NodeRecord) {nodes : List Child} where
  AreEntriesOf-longer : {IsOf : NodeRecord → ℕ → List NameId → ℕ → Type 0} {lists : List (SmallVec ℕ)} → AreEntriesOf nodes (IsOfSome IsOf records (length records)) lists
      → AreEntriesOf nodes (IsOfSome IsOf (records ++ more) (length records)) lists
  AreEntriesOf-longer are = record {
    sound = λ node number has.
        IsEntryOf-weaker ExtendsNodes-none (λ path n of. record { index = of.index; each = of.each; early = of.early; at = slice_get-first records more of.index of.each of.at; so = of.so }) (are.sound node number has);
    complete = λ path number of.
        are.complete path number (record { index = of.index; each = of.each; early = of.early; at = slice_get-before records more of.index of.each of.early of.at; so = of.so });
  }

  pub AreListed-longer : {added copied named : List (SmallVec ℕ)} → AreListed records (length records) nodes added copied named → AreListed (records ++ more) (length records) nodes added copied named
  AreListed-longer so =
      record { of_added = AreEntriesOf-longer so.of_added; of_copied = AreEntriesOf-longer so.of_copied; of_named = AreEntriesOf-longer so.of_named }
