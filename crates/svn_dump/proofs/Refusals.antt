-- The reasons against a block: the first that holds in two lists of them, and that there is none exactly where the block
-- leaves a small history.
use Rattle.svn_dump.proofs.Common.{◌≡◌, ℕ, zero, suc, pred, ◌+◌, ◌<◌, ◌≤◌, Bool, true, false, not, ◌&&◌, ◌||◌, List, [], ◌∷◌, ◌++◌, length, refl, sym, ap, subst, ◌∙◌, arith, length-append, le_trans, ltb-false, true≢false, inl, inr, Option, Some, None, is_none, nat_lt, ◌==◌, option_and_then, option_map, list_all, list_any, option_or, and_from, and_parts, both_ways, cases_Bool, cond-false, cond-true, ne_eqb, not-false, not-true, not_from_false, not_from_true, or_from, or_parts, or-true, none-some, same_Some, with_names, IsSmall, all_records, most_numbered, names_of, parts_of_record, texts_of_action, values_of, Setting, BlockContent, Node, NodeAction, node_block, other_block, revision_block, uuid_block, number_of, HistoryOfBytes, RecordOfBytes, has_dot, is_allowed, has_late_source, is_long, is_root_action, paths_read, record_by, record_of, with_numbered, with_record, with_content, Reason, action_refusals, first_holding, grows_large, is_large, reason, later_refusals, node_refusals, refusals_by, revision_refusals, size_refusals, content_refusals, IsFirstReason, is_record_large, ReadError, Refusal, BadPath, BadRecord, CopyRevision, Delta, Props, Revision, RevisionZero, RootAction, TooLarge}
use Rattle.std.proofs.Common.{le-ltb}
use Rattle.std.specs.Prelude.{if◌then◌else◌}
use Rattle.svn_dump.specs.declared.read_error.ReadError.TheVariants as read
use Rattle.svn_dump.proofs.Growing.{Extends-by, length-Extends}
use Rattle.svn_dump.proofs.Histories.{all_records-with_record, all_records-with_revision, names_of-with_record, names_of-with_revision, values_of-with_record, values_of-with_revision}

-- ---- the first that holds

-- the first of two lists is that of the first list, if it has one
pub first_holding-append : (a b : List Reason) → first_holding (a ++ b) ≡ option_or (first_holding a) (first_holding b)
unfolding first_holding
first_holding-append [] b = refl
first_holding-append (each ∷ more) b = by each.holds (first_holding-append more b)
  where
    by : (holds : Bool) → first_holding (more ++ b) ≡ option_or (first_holding more) (first_holding b) → (if holds then Some each.refusal else first_holding (more ++ b)) ≡ option_or (if holds then Some each.refusal else first_holding more) (first_holding b)
    by true rest = refl
    by false rest = rest

-- so one that holds in front stays the first
pub first_holding-front : (a b : List Reason) (refusal : Refusal) → first_holding a ≡ Some refusal → first_holding (a ++ b) ≡ Some refusal
first_holding-front a b refusal at = first_holding-append a b ∙ ap (λ first. option_or first (first_holding b)) at

-- and behind a list of which none holds the first is the later one
pub first_holding-later : (a b : List Reason) → first_holding a ≡ None → first_holding (a ++ b) ≡ first_holding b
first_holding-later a b at = first_holding-append a b ∙ ap (λ first. option_or first (first_holding b)) at

-- where none holds
nothing_holds : first_holding [] ≡ None
unfolding first_holding
nothing_holds = refl

none_holds : (refusal : Refusal) (holds : Bool) (more : List Reason) → holds ≡ false → first_holding more ≡ None → first_holding (reason refusal holds ∷ more) ≡ None
unfolding first_holding
none_holds refusal true more e rest = absurd (cc)
none_holds refusal false more e rest = rest

-- and what doesn't hold then
pub none_holds-parts : (refusal : Refusal) (holds : Bool) (more : List Reason) → first_holding (reason refusal holds ∷ more) ≡ None → (holds ≡ false) × (first_holding more ≡ None)
unfolding first_holding
none_holds-parts refusal true more none = absurd (cc)
none_holds-parts refusal false more none = (refl, none)

-- where nothing of two lists holds, nothing of either does
pub none_holds-append : (a b : List Reason) → first_holding (a ++ b) ≡ None → (first_holding a ≡ None) × (first_holding b ≡ None)
none_holds-append a b none = by (first_holding a) (first_holding b) (sym (first_holding-append a b) ∙ none)
  where
    by : (first later : Option Refusal) → option_or first later ≡ None → (first ≡ None) × (later ≡ None)
    by None later e = (refl, e)
    by (Some refusal) later e = absurd (cc)

-- ---- sizes

-- a history is small exactly where it isn't large
pub IsSmall-is_large : (history : HistoryOfBytes) → IsSmall history → is_large history ≡ false
IsSmall-is_large history small =
    or_from _ _ (or_from _ _ (or_from _ _ (le-ltb most_numbered (length (names_of history)) small.names) (le-ltb most_numbered (length (all_records history)) small.records))
    (le-ltb most_numbered (length history) small.revisions)) (le-ltb most_numbered (length (values_of history)) small.values)

pub is_large-IsSmall : (history : HistoryOfBytes) → is_large history ≡ false → IsSmall history
is_large-IsSmall history small =
    let three = or_parts _ (nat_lt most_numbered (length (values_of history))) small in
    let two = or_parts _ (nat_lt most_numbered (length history)) three.0 in
    let one = or_parts _ (nat_lt most_numbered (length (all_records history))) two.0 in
    record {
      names = ltb-false most_numbered (length (names_of history)) one.0;
      records = ltb-false most_numbered (length (all_records history)) one.1;
      revisions = ltb-false most_numbered (length history) two.1;
      values = ltb-false most_numbered (length (values_of history)) three.1;
    }

-- ---- what is allowed

-- no element passes the first of two tests, and none the second
module _ {A : Type 0} (first second : A → Bool) where
  neither : (all : List A) → list_any first all ≡ false → list_any second all ≡ false → list_all (λ each. not (first each) && not (second each)) all ≡ true
  neither [] no_first no_second = refl
  neither (each ∷ more) no_first no_second =
      let (not_first, later_first) = or_parts (first each) (list_any first more) no_first in
      let (not_second, later_second) = or_parts (second each) (list_any second more) no_second in
      and_from _ _ (and_from _ _ (not_from_false _ not_first) (not_from_false _ not_second)) (neither more later_first later_second)

  neither-parts : (all : List A) → list_all (λ each. not (first each) && not (second each)) all ≡ true → (list_any first all ≡ false) × (list_any second all ≡ false)
  neither-parts [] e = (refl, refl)
  neither-parts (each ∷ more) e =
      let (here, later) = and_parts (not (first each) && not (second each)) (list_all (λ one. not (first one) && not (second one)) more) e in
      let (not_first, not_second) = and_parts (not (first each)) (not (second each)) here in
      let rest = neither-parts more later in
      (or_from _ _ (not-true _ not_first) rest.0, or_from _ _ (not-true _ not_second) rest.1)

-- an action without a reason against it is allowed
allowed : (rev : ℕ) (node : Node) (action : NodeAction) → first_holding (action_refusals rev node action) ≡ None → list_any is_long (paths_read node.path action) ≡ false → is_allowed rev node.path node.is_delta action ≡ true
allowed rev node action none short =
    let (no_dot, none_1) = none_holds-parts BadPath _ _ none in
    let (whole, none_2) = none_holds-parts Delta _ _ none_1 in
    let (early, none_3) = none_holds-parts CopyRevision _ _ none_2 in
    let (spared, none_4) = none_holds-parts RootAction _ _ none_3 in
    let (above, none_5) = none_holds-parts RevisionZero _ _ none_4 in
    and_from _ _ (and_from _ _ (and_from _ _ (and_from _ _ (neither has_dot is_long (paths_read node.path action) no_dot short) (not_from_false _ whole)) (not_from_false _ early))
    (not_from_false _ spared)) (not-false _ above)

-- what holds of an action that is allowed
record IsAllowed (rev : ℕ) (node : Node) (action : NodeAction) : Type 0 where
  none : first_holding (action_refusals rev node action) ≡ None
  short : list_any is_long (paths_read node.path action) ≡ false
  above : nat_lt 0 rev ≡ true

is_allowed-parts : (rev : ℕ) (node : Node) (action : NodeAction) → is_allowed rev node.path node.is_delta action ≡ true → IsAllowed rev node action
is_allowed-parts rev node action is =
    let (all_4, above) = and_parts _ (nat_lt 0 rev) is in
    let (all_3, spared) = and_parts _ (not (is_root_action node.path action)) all_4 in
    let (all_2, early) = and_parts _ (not (has_late_source rev action)) all_3 in
    let (all_1, whole) = and_parts _ (not node.is_delta) all_2 in
    let (no_dot, short) = neither-parts has_dot is_long (paths_read node.path action) all_1 in
    record {
      none = none_holds BadPath _ _ no_dot (none_holds Delta _ _ (not-true _ whole) (none_holds CopyRevision _ _ (not-true _ early)
          (none_holds RootAction _ _ (not-true _ spared) (none_holds RevisionZero _ _ (not_from_true _ above) nothing_holds))));
      short = short;
      above = above;
    }

-- ---- the record

-- the record of an action, if it is allowed
abbrev if_allowed : ℕ → Node → Setting (List ℕ) → NodeAction → Option RecordOfBytes
if_allowed rev node setting action = if is_allowed rev node.path node.is_delta action then Some (record_by node.path setting action) else None

-- an action without a reason against it gives a record
pub record_of-allowed :
    (rev : ℕ) (node : Node) (setting : Setting (List ℕ)) (action : NodeAction) → node.setting ≡ Some setting → node.action ≡ Some action →
    first_holding (action_refusals rev node action) ≡ None → list_any is_long (paths_read node.path action) ≡ false → record_of rev node ≡ Some (record_by node.path setting action)
unfolding record_of
record_of-allowed rev node setting action settled does none short =
    ap (option_and_then (λ given. option_and_then (if_allowed rev node given) node.action)) settled
    ∙ ap (option_and_then (if_allowed rev node setting)) does
    ∙ cond-true _ _ _ (allowed rev node action none short)

-- what a record says of its node
record IsRecordOf (rev : ℕ) (node : Node) : Type 0 where
  setting : Setting (List ℕ)
  action : NodeAction
  settled : node.setting ≡ Some setting
  does : node.action ≡ Some action
  all : is_allowed rev node.path node.is_delta action ≡ true

record_of-Some : (rev : ℕ) (node : Node) (each : RecordOfBytes) → record_of rev node ≡ Some each → IsRecordOf rev node
unfolding record_of
record_of-Some rev node each e = by_setting node.setting refl e
  where
    by_test : (setting : Setting (List ℕ)) (action : NodeAction) → node.setting ≡ Some setting → node.action ≡ Some action → (holds : Bool) → is_allowed rev node.path node.is_delta action ≡ holds → (if holds then Some (record_by node.path setting action) else None) ≡ Some each → IsRecordOf rev node
    by_test setting action settled does true all at = record { setting = setting; action = action; settled = settled; does = does; all = all }
    by_test setting action settled does false all at = absurd (none-some each at)

    by_action : (setting : Setting (List ℕ)) → node.setting ≡ Some setting → (o : Option NodeAction) → node.action ≡ o → option_and_then (if_allowed rev node setting) o ≡ Some each → IsRecordOf rev node
    by_action setting settled None does at = absurd (none-some each at)
    by_action setting settled (Some action) does at = by_test setting action settled does (is_allowed rev node.path node.is_delta action) refl at

    by_setting : (o : Option (Setting (List ℕ))) → node.setting ≡ o → option_and_then (λ given. option_and_then (if_allowed rev node given) node.action) o ≡ Some each → IsRecordOf rev node
    by_setting None settled at = absurd (none-some each at)
    by_setting (Some setting) settled at = by_action setting settled node.action refl at

-- ---- a node block

-- a record is of a later revision than the first
some_revisions : (revisions : ℕ) → nat_lt 0 (pred revisions) ≡ true → (revisions == 0) ≡ false
some_revisions zero above = absurd (cc)
some_revisions (suc revisions) above = ne_eqb (suc revisions) 0 (λ e. absurd (omega arith))

-- no reason is against a record that leaves the history small
node_refusals-none : (revisions : ℕ) (node : Node) → IsRecordOf (pred revisions) node → first_holding (node_refusals revisions node false) ≡ None
unfolding node_refusals
node_refusals-none revisions node is =
    let parts = is_allowed-parts (pred revisions) node is.action is.all in
    none_holds Props _ _ (ap is_none is.settled) (none_holds BadRecord _ _ (or_from _ _ (some_revisions revisions parts.above) (ap is_none is.does))
    (ap (λ o. first_holding (later_refusals (pred revisions) node false o)) is.does
    ∙ first_holding-later (action_refusals (pred revisions) node is.action) (size_refusals node is.action false) parts.none
    ∙ none_holds TooLarge _ _ (or_from _ _ parts.short refl) nothing_holds))

-- and only its size is against one that doesn't
pub node_refusals-large : (revisions : ℕ) (node : Node) (each : RecordOfBytes) → record_of (pred revisions) node ≡ Some each → first_holding (node_refusals revisions node true) ≡ Some TooLarge
unfolding first_holding node_refusals
node_refusals-large revisions node each told =
    let is = record_of-Some (pred revisions) node each told in
    let parts = is_allowed-parts (pred revisions) node is.action is.all in
    cond-false _ _ _ (ap is_none is.settled) ∙ cond-false _ _ _ (or_from _ _ (some_revisions revisions parts.above) (ap is_none is.does))
    ∙ ap (λ o. first_holding (later_refusals (pred revisions) node true o)) is.does
    ∙ first_holding-later (action_refusals (pred revisions) node is.action) (size_refusals node is.action true) parts.none
    ∙ cond-true _ _ _ (or-true (list_any is_long (paths_read node.path is.action)))

some_value : {A : Type 0} (o : Option A) → is_none o ≡ false → (value : A) × (o ≡ Some value)
some_value None e = absurd (cc)
some_value (Some value) e = (value, refl)

-- what holds of a node block against which there is none
record IsTaken (revisions : ℕ) (node : Node) (large : Bool) : Type 0 where
  setting : Setting (List ℕ)
  action : NodeAction
  settled : node.setting ≡ Some setting
  does : node.action ≡ Some action
  none : first_holding (action_refusals (pred revisions) node action) ≡ None
  short : list_any is_long (paths_read node.path action) ≡ false
  small : large ≡ false

node_refusals-taken : (revisions : ℕ) (node : Node) (large : Bool) → first_holding (node_refusals revisions node large) ≡ None → IsTaken revisions node large
unfolding node_refusals
node_refusals-taken revisions node large none =
    let (whole, none_1) = none_holds-parts Props _ _ none in
    let (good, none_2) = none_holds-parts BadRecord _ _ none_1 in
    let (setting, settled) = some_value node.setting whole in
    let (action, does) = some_value node.action (or_parts (revisions == 0) (is_none node.action) good).1 in
    let (none_3, none_4) = none_holds-append (action_refusals (pred revisions) node action) (size_refusals node action large)
    (ap (λ o. first_holding (later_refusals (pred revisions) node large o)) (sym does) ∙ none_2) in
    let (short, small) = or_parts (list_any is_long (paths_read node.path action)) large (none_holds-parts TooLarge _ _ none_4).0 in
    record { setting = setting; action = action; settled = settled; does = does; none = none_3; short = short; small = small }

-- a first reason stays the first if what follows it changes, and later ones stay
first_holding-same : (front a b : List Reason) (refusal : Refusal) → (first_holding a ≡ Some refusal → first_holding b ≡ Some refusal) → first_holding (front ++ a) ≡ Some refusal → first_holding (front ++ b) ≡ Some refusal
first_holding-same front a b refusal onward at = first_holding-append front b ∙ by (first_holding front) (sym (first_holding-append front a) ∙ at)
  where
    by : (o : Option Refusal) → option_or o (first_holding a) ≡ Some refusal → option_or o (first_holding b) ≡ Some refusal
    by None e = onward e
    by (Some first) e = e

size-larger : (refusal : Refusal) (long few many : Bool) → (few ≡ true → many ≡ true) → first_holding (reason TooLarge (long || few) ∷ []) ≡ Some refusal → first_holding (reason TooLarge (long || many) ∷ []) ≡ Some refusal
unfolding first_holding
size-larger refusal true few many more e = e
size-larger refusal false true many more e = ap (λ holds. if holds then Some TooLarge else None) (more refl) ∙ e
size-larger refusal false false many more e = absurd (none-some refusal e)

later_refusals-larger : (rev : ℕ) (node : Node) (few many : Bool) (refusal : Refusal) (o : Option NodeAction) → (few ≡ true → many ≡ true) → first_holding (later_refusals rev node few o) ≡ Some refusal → first_holding (later_refusals rev node many o) ≡ Some refusal
later_refusals-larger rev node few many refusal None more e = e
later_refusals-larger rev node few many refusal (Some action) more e =
    first_holding-same (action_refusals rev node action) (size_refusals node action few) (size_refusals node action many) refusal
    (size-larger refusal (list_any is_long (paths_read node.path action)) few many more) e

-- where more is too large, the first reason against a node is the same
pub node_refusals-larger : (revisions : ℕ) (node : Node) (few many : Bool) (refusal : Refusal) → (few ≡ true → many ≡ true) → first_holding (node_refusals revisions node few) ≡ Some refusal → first_holding (node_refusals revisions node many) ≡ Some refusal
unfolding node_refusals
node_refusals-larger revisions node few many refusal more e =
    first_holding-same (reason Props (is_none node.setting) ∷ reason BadRecord (revisions == 0 || is_none node.action) ∷ [])
    (later_refusals (pred revisions) node few node.action) (later_refusals (pred revisions) node many node.action) refusal
    (later_refusals-larger (pred revisions) node few many refusal node.action more) e

-- a node block that has a record is said to hold no delta that its format doesn't have
pub no_delta : (rev : ℕ) (node : Node) (each : RecordOfBytes) → record_of rev node ≡ Some each → node.is_delta ≡ false
no_delta rev node each told =
    let is = record_of-Some rev node each told in
    let none = (is_allowed-parts rev node is.action is.all).none in
    (none_holds-parts Delta _ _ (none_holds-parts BadPath _ _ none).1).0

-- ---- a block

pub map_parts : {A B : Type 0} (f : A → B) (o : Option A) (y : B) → option_map f o ≡ Some y → (x : A) × (o ≡ Some x) × (f x ≡ y)
map_parts f None y e = absurd (none-some y e)
map_parts f (Some x) y e = (x, refl, same_Some (f x) y e)

no_refusal_by : (history after : HistoryOfBytes) (content : BlockContent) → with_content history content ≡ Some after → is_large after ≡ false → first_holding (refusals_by history (Some after) content) ≡ None
unfolding with_content refusals_by
no_refusal_by history after (revision_block number) told small = none_holds Revision _ _ refl (none_holds TooLarge _ _ small nothing_holds)
no_refusal_by history after (node_block node) told small =
    let (each, at, same) = map_parts (with_record history) (record_of (pred (length history)) node) after told in
    ap (λ large. first_holding (node_refusals (length history) node large)) small ∙ node_refusals-none (length history) node (record_of-Some (pred (length history)) node each at)
no_refusal_by history after uuid_block told small = nothing_holds
no_refusal_by history after other_block told small = absurd (none-some after told)

-- a block that leaves the history small has no reason against it
pub no_refusal : (history after : HistoryOfBytes) (content : BlockContent) → with_content history content ≡ Some after → IsSmall after → first_holding (content_refusals history content) ≡ None
no_refusal history after content told small =
    ap (λ o. first_holding (refusals_by history o content)) told ∙ no_refusal_by history after content told (IsSmall-is_large after small)

-- and one without leaves it so
revision_refusals-none : (o : Option HistoryOfBytes) → first_holding (revision_refusals o) ≡ None → (after : HistoryOfBytes) × (o ≡ Some after) × IsSmall after
revision_refusals-none None none = absurd (true≢false (none_holds-parts Revision true _ none).0)
revision_refusals-none (Some after) none = (after, refl, is_large-IsSmall after (none_holds-parts TooLarge _ _ (none_holds-parts Revision false _ none).1).0)

pub refusal_none : (history : HistoryOfBytes) (content : BlockContent) → IsSmall history → first_holding (content_refusals history content) ≡ None → (after : HistoryOfBytes) × (with_content history content ≡ Some after) × IsSmall after
unfolding with_content refusals_by
refusal_none history (revision_block number) small none = revision_refusals-none (with_numbered history number) none
refusal_none history (node_block node) small none =
    let is = node_refusals-taken (length history) node (grows_large (option_map (with_record history) (record_of (pred (length history)) node))) none in
    let each = record_by node.path is.setting is.action in
    let told : option_map (with_record history) (record_of (pred (length history)) node) ≡ Some (with_record history each) =
    ap (option_map (with_record history)) (record_of-allowed (pred (length history)) node is.setting is.action is.settled is.does is.none is.short) in
    (with_record history each, told, is_large-IsSmall (with_record history each) (ap grows_large (sym told) ∙ is.small))
refusal_none history uuid_block small none = (history, refl, small)
refusal_none history other_block small none = absurd (true≢false (none_holds-parts BadRecord true [] none).0)

-- ---- before a block

-- a record leaves as many revisions
length-with_record : (history : HistoryOfBytes) (each : RecordOfBytes) → length (with_record history each) ≡ length history
length-with_record [] each = refl
length-with_record (records ∷ []) each = refl
length-with_record (records ∷ more ∷ history) each = ap suc (length-with_record (more ∷ history) each)

-- more names are no fewer
few_before : (names more added : List (List ℕ)) → more ≡ with_names names added → length more ≤ most_numbered → length names ≤ most_numbered
few_before names more added same few = le_trans (length-Extends names more (Extends-by names more added same)) few

IsSmall-before_record : (history : HistoryOfBytes) (each : RecordOfBytes) → 0 < length history → IsSmall (with_record history each) → IsSmall history
IsSmall-before_record history each some small = record {
  names = few_before (names_of history) (names_of (with_record history each)) (parts_of_record each) (names_of-with_record history each some) small.names;
  records =
      let longer : length (all_records (with_record history each)) ≡ length (all_records history) + 1 =
      ap length (all_records-with_record history each some) ∙ length-append (all_records history) (each ∷ []) in
      omega (arith, longer, small.records);
  revisions = subst (λ n. n ≤ most_numbered) (length-with_record history each) small.revisions;
  values = few_before (values_of history) (values_of (with_record history each)) (texts_of_action each.action) (values_of-with_record history each some) small.values;
}

IsSmall-before_revision : (history : HistoryOfBytes) → IsSmall (history ++ [] ∷ []) → IsSmall history
IsSmall-before_revision history small = record {
  names = subst (λ names. length names ≤ most_numbered) (names_of-with_revision history) small.names;
  records = subst (λ records. length records ≤ most_numbered) (all_records-with_revision history) small.records;
  revisions = omega (arith, length-append history ([] ∷ []), small.revisions);
  values = subst (λ values. length values ≤ most_numbered) (values_of-with_revision history) small.values;
}

with_numbered-revision : (history after : HistoryOfBytes) (number : List ℕ) → with_numbered history number ≡ Some after → history ++ [] ∷ [] ≡ after
with_numbered-revision history after number told = by_value (number_of number) told
  where
    by_test : (same : Bool) → (if same then Some (history ++ [] ∷ []) else None) ≡ Some after → history ++ [] ∷ [] ≡ after
    by_test true e = same_Some (history ++ [] ∷ []) after e
    by_test false e = absurd (none-some after e)

    by_value : (o : Option ℕ) → option_and_then (λ value. if value == length history then Some (history ++ [] ∷ []) else None) o ≡ Some after → history ++ [] ∷ [] ≡ after
    by_value None e = absurd (none-some after e)
    by_value (Some value) e = by_test (value == length history) e

-- where there is a record there is a revision
some_revision : (revisions : ℕ) (node : Node) → IsRecordOf (pred revisions) node → 0 < revisions
some_revision zero node is = absurd (true≢false (sym (is_allowed-parts 0 node is.action is.all).above))
some_revision (suc revisions) node is = omega arith

-- a small history was small before a block
pub IsSmall-before : (history after : HistoryOfBytes) (content : BlockContent) → with_content history content ≡ Some after → IsSmall after → IsSmall history
unfolding with_content
IsSmall-before history after (revision_block number) told small =
    IsSmall-before_revision history (subst IsSmall (sym (with_numbered-revision history after number told)) small)
IsSmall-before history after (node_block node) told small =
    let (each, at, same) = map_parts (with_record history) (record_of (pred (length history)) node) after told in
    IsSmall-before_record history each (some_revision (length history) node (record_of-Some (pred (length history)) node each at)) (subst IsSmall (sym same) small)
IsSmall-before history after uuid_block told small = subst IsSmall (sym (same_Some history after told)) small
IsSmall-before history after other_block told small = absurd (none-some after told)

-- ---- what grows too large

-- what is against a node block, given that few or many things are too large
pub IsFirstReason-node : (history : HistoryOfBytes) (node : Node) (large : Bool) (e : ReadError) → (large ≡ true → grows_large (with_content history (node_block node)) ≡ true) → IsFirstReason (node_refusals (length history) node large) e → IsFirstReason (content_refusals history (node_block node)) e
unfolding refusals_by
IsFirstReason-node history node large (read.Refused refusal) more is = node_refusals-larger (length history) node large (grows_large (with_content history (node_block node))) refusal more is
IsFirstReason-node history node large read.Memory more is = tt

-- a record with too many names or texts makes the history too large
pub grows_large-record : (history : HistoryOfBytes) (node : Node) → is_record_large (names_of history) (values_of history) (record_of (pred (length history)) node) ≡ true → grows_large (with_content history (node_block node)) ≡ true
unfolding with_content
grows_large-record history node large = by_record (record_of (pred (length history)) node) refl large
  where
    small_record : (each : RecordOfBytes) → 0 < length history → is_large (with_record history each) ≡ false → is_record_large (names_of history) (values_of history) (Some each) ≡ false
    small_record each some small =
        let is = is_large-IsSmall (with_record history each) small in
        or_from _ _ (le-ltb _ _ (subst (λ names. length names ≤ most_numbered) (names_of-with_record history each some) is.names))
        (le-ltb _ _ (subst (λ values. length values ≤ most_numbered) (values_of-with_record history each some) is.values))

    by_record : (o : Option RecordOfBytes) → record_of (pred (length history)) node ≡ o → is_record_large (names_of history) (values_of history) o ≡ true → grows_large (option_map (with_record history) o) ≡ true
    by_record None told e = absurd (cc)
    by_record (Some each) told e =
        elim (cases_Bool (is_large (with_record history each))) [
          | inl is ↦ is
          | inr small ↦ absurd (both_ways _ (small_record each (some_revision (length history) node (record_of-Some (pred (length history)) node each told)) small) e)
        ]

-- a node block whose record makes the history too large is told so
pub content_refusals-large : (history : HistoryOfBytes) (node : Node) (each : RecordOfBytes) → record_of (pred (length history)) node ≡ Some each → is_large (with_record history each) ≡ true → first_holding (content_refusals history (node_block node)) ≡ Some TooLarge
unfolding with_content refusals_by
content_refusals-large history node each told large =
    ap (λ o. first_holding (node_refusals (length history) node (grows_large (option_map (with_record history) o)))) told
    ∙ ap (λ b. first_holding (node_refusals (length history) node b)) large ∙ node_refusals-large (length history) node each told
