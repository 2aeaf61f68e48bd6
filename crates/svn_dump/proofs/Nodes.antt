-- What stands against a node block, and its record by the numbers of the tables.
use Rattle.svn_dump.proofs.Common.{◌≡◌, ℕ, pred, ◌<◌, ◌≤◌, Bool, true, false, not, ◌&&◌, ◌||◌, List, [], ◌∷◌, ◌++◌, length, take, drop, refl, sym, ap, ap₂, ◌∙◌, subst, lt-ltb, eq-eqb, arith, inl, inr, take-append-drop, Some, None, filter, is_none, nat_lt, ◌==◌, list_all, list_any, slice_split, onto_first, cases_Bool, cond-true, cond-false, ltb-true, ne_eqb, not-false, or_parts, or_right, or-true, fold-append, is_not_empty, most_names, with_name, with_names, Extends, action_in_bytes, IsChange, most_numbered, parts_of_action, parts_of_record, texts_of_action, Setting, delete, change, add, copy, Node, NodeAction, node_add, node_change, node_copy, node_delete, is_change, ActionOfBytes, RecordOfBytes, action_of, has_dot, has_late_source, is_long, is_root, is_root_action, paths_read, record_by, record_of, Reason, action_refusals, first_holding, reason, later_refusals, node_refusals, size_refusals, read_error_of, IsNumberedAct, IsFirstReason, IsNumberedPath, IsNumberedRecord, IsAcceptedNode, IsTooLarge, is_full_with, is_path_large, is_record_large, ReadError, Refusal, BadPath, BadRecord, Delta, CopyRevision, Props, RootAction, RevisionZero, TooLarge}
use Rattle.std.specs.Prelude.{◌⊎◌}
use Rattle.svn_path.specs.Components.{is_slash, parts_of}
use Rattle.svn_path.specs.Path.{components_of}
use Rattle.svn_path.specs.declared.names.NameId.{NameId}
use Rattle.svn_path.specs.declared.path.PathError.{PathError}
use Rattle.svn_path.specs.declared.path.PathError.TheVariants as path
use Rattle.svn_dump.specs.declared.read_error.ReadError.TheVariants as read
use Rattle.svn_dump.specs.declared.record.Act.{Act}
use Rattle.svn_dump.specs.declared.record.Act.TheVariants as act
use Rattle.svn_dump.proofs.Growing.{Extends-with_names, IsPathOf-grows, length-Extends, components_of-grows}
use Rattle.svn_dump.proofs.Refusals.{first_holding-front, first_holding-later, none_holds-parts, record_of-allowed}

or_either : (a b : Bool) → (a || b) ≡ true → (a ≡ true) ⊎ (b ≡ true)
or_either true b e = inl refl
or_either false b e = inr e

-- ---- the root

-- a path of slashes alone has no component
pub is_root-slashes : (path : List ℕ) → list_all is_slash path ≡ is_root path
is_root-slashes [] = refl
is_root-slashes (byte ∷ path) =
    elim (cases_Bool (is_slash byte)) [
      | inl slash ↦ rw slash (is_root-slashes path)
      | inr other ↦ rw other (some_part (slice_split is_slash path))
    ]
  where
    some_part : (parts : List (List ℕ)) → false ≡ (length (filter is_not_empty (onto_first byte parts)) == 0)
    some_part [] = refl
    some_part (part ∷ parts) = sym (ne_eqb (length (filter is_not_empty (onto_first byte (part ∷ parts)))) 0 (λ none. omega (arith, none)))

-- ---- what stands against what it does

-- the first of these that holds
abbrev action_judged : (dot delta late root zero : Bool) → List Reason
action_judged dot delta late root zero =
    reason BadPath dot ∷ reason Delta delta ∷ reason CopyRevision late ∷ reason RootAction root ∷ reason RevisionZero zero ∷ []

module _ (rev : ℕ) (node : Node) (action : NodeAction) where
  abbrev dot : Bool
  dot = list_any has_dot (paths_read node.path action)

  pub against : (a b c d e : Bool) → dot ≡ a → node.is_delta ≡ b → has_late_source rev action ≡ c → is_root_action node.path action ≡ d → not (nat_lt 0 rev) ≡ e → first_holding (action_judged a b c d e) ≡ first_holding (action_refusals rev node action)
  against a b c d e h i j k l =
      ap₂ (λ x y. first_holding (action_judged x y c d e)) (sym h) (sym i) ∙ ap₂ (λ x y. first_holding (action_judged dot node.is_delta x y e)) (sym j) (sym k)
      ∙ ap (λ x. first_holding (action_judged dot node.is_delta (has_late_source rev action) (is_root_action node.path action) x)) (sym l)

-- ---- paths

-- a table with the first of these names has no more than one with all
pub length-with_names-take : (names added : List (List ℕ)) (n : ℕ) → length (with_names names (take n added)) ≤ length (with_names names added)
length-with_names-take names added n =
    let all : with_names names added ≡ with_names (with_names names (take n added)) (drop n added) =
    ap (with_names names) (sym (take-append-drop n added)) ∙ fold-append with_name names (take n added) (drop n added) in
    omega (arith, ap length all, length-Extends _ _ (Extends-with_names (with_names names (take n added)) (drop n added)))

-- a path without `.` and `..` is not read only where it has too many names, or memory runs out
pub path_error : (names new : List (List ℕ)) (bytes : List ℕ) (e : PathError) → (e ≡ path.Dot → ⊥) → (e ≡ path.Full → length new ≡ most_names) → (n : ℕ) → new ≡ with_names names (take n (parts_of bytes)) → IsTooLarge (is_path_large names bytes) (read_error_of e)
path_error names new bytes path.Dot no_dot full n left = absurd (no_dot refl)
path_error names new bytes path.Full no_dot full n left = (refl, or_right (is_long bytes) _ (lt-ltb _ _ (omega (arith, full refl, ap length left, length-with_names-take names (parts_of bytes) n))))
path_error names new bytes path.Memory no_dot full n left = tt

-- ---- the paths of an action

-- the path itself, and the others
paths_read-split : (test : List ℕ → Bool) (path : List ℕ) (action : NodeAction) → test [] ≡ false → list_any test (paths_read path action) ≡ (test path || list_any test (paths_read [] action))
paths_read-split test path node_delete none = ap (λ b. test path || (b || false)) (sym none)
paths_read-split test path node_change none = ap (λ b. test path || (b || false)) (sym none)
paths_read-split test path (node_add replace kind) none = ap (λ b. test path || (b || false)) (sym none)
paths_read-split test path (node_copy replace from_rev from) none = ap (λ b. test path || (b || (test from || false))) (sym none)

pub has_dot-parts : (path : List ℕ) (action : NodeAction) → list_any has_dot (paths_read path action) ≡ false → (has_dot path ≡ false) × (list_any has_dot (paths_read [] action) ≡ false)
has_dot-parts path action none = or_parts (has_dot path) _ (sym (paths_read-split has_dot path action refl) ∙ none)

-- that of a copy's source
pub has_dot-from : (action : NodeAction) (replace : Bool) (from_rev : ℕ) (from : List ℕ) → action ≡ node_copy replace from_rev from → list_any has_dot (paths_read [] action) ≡ false → has_dot from ≡ false
has_dot-from action replace from_rev from same none = (or_parts (has_dot from) false (sym (ap (λ each. list_any has_dot (paths_read [] each)) same) ∙ none)).0

-- ---- what stands against a node block

module _ (rev : ℕ) (node : Node) (action : NodeAction) (none : first_holding (action_refusals rev node action) ≡ None) where
  no_dot : (list_any has_dot (paths_read node.path action) ≡ false) × (first_holding (reason Delta node.is_delta ∷ reason CopyRevision (has_late_source rev action) ∷ reason RootAction (is_root_action node.path action) ∷ reason RevisionZero (not (nat_lt 0 rev)) ∷ []) ≡ None)
  no_dot = none_holds-parts BadPath _ _ none

  no_delta : (node.is_delta ≡ false) × (first_holding (reason CopyRevision (has_late_source rev action) ∷ reason RootAction (is_root_action node.path action) ∷ reason RevisionZero (not (nat_lt 0 rev)) ∷ []) ≡ None)
  no_delta = none_holds-parts Delta _ _ no_dot.1

  no_late : (has_late_source rev action ≡ false) × (first_holding (reason RootAction (is_root_action node.path action) ∷ reason RevisionZero (not (nat_lt 0 rev)) ∷ []) ≡ None)
  no_late = none_holds-parts CopyRevision _ _ no_delta.1

  no_root : (is_root_action node.path action ≡ false) × (first_holding (reason RevisionZero (not (nat_lt 0 rev)) ∷ []) ≡ None)
  no_root = none_holds-parts RootAction _ _ no_late.1

  pub dotless : (has_dot node.path ≡ false) × (list_any has_dot (paths_read [] action) ≡ false)
  dotless = has_dot-parts node.path action no_dot.0

  pub not_late : has_late_source rev action ≡ false
  not_late = no_late.0

  pub above_zero : 0 < rev
  above_zero = ltb-true _ _ (not-false (nat_lt 0 rev) (none_holds-parts RevisionZero _ _ no_root.1).0)

  pub root_changed : length (parts_of node.path) ≡ 0 → is_change action ≡ true
  root_changed none = not-false (is_change action) (sym (ap (λ root. root && not (is_change action)) (eq-eqb (length (parts_of node.path)) 0 none)) ∙ no_root.0)

module _ (revisions : ℕ) (node : Node) (large : Bool) where
  pub refused_section : node.setting ≡ None → first_holding (node_refusals revisions node large) ≡ Some Props
  unfolding first_holding node_refusals
  refused_section e = cond-true _ _ _ (ap is_none e)

  module _ (setting : Setting (List ℕ)) (settled : node.setting ≡ Some setting) where
    pub refused_record : (revisions == 0 || is_none node.action) ≡ true → first_holding (node_refusals revisions node large) ≡ Some BadRecord
    unfolding first_holding node_refusals
    refused_record holds = cond-false _ _ _ (ap is_none settled) ∙ cond-true _ _ _ holds

    module _ (action : NodeAction) (does : node.action ≡ Some action) (some : 0 < revisions) where
      by_action : first_holding (node_refusals revisions node large) ≡ first_holding (action_refusals (pred revisions) node action ++ size_refusals node action large)
      unfolding first_holding node_refusals
      by_action =
          cond-false _ _ _ (ap is_none settled) ∙ cond-false _ _ _ (ap₂ (λ a o. a || is_none o) (ne_eqb revisions 0 (λ e. omega (arith, e))) does)
          ∙ ap (λ o. first_holding (later_refusals (pred revisions) node large o)) does

      pub refused_action : (refusal : Refusal) → first_holding (action_refusals (pred revisions) node action) ≡ Some refusal → first_holding (node_refusals revisions node large) ≡ Some refusal
      refused_action refusal first = by_action ∙ first_holding-front (action_refusals (pred revisions) node action) (size_refusals node action large) refusal first

      refused_size : first_holding (action_refusals (pred revisions) node action) ≡ None → (list_any is_long (paths_read node.path action) || large) ≡ true → first_holding (node_refusals revisions node large) ≡ Some TooLarge
      unfolding first_holding
      refused_size none holds = by_action ∙ first_holding-later (action_refusals (pred revisions) node action) (size_refusals node action large) none ∙ cond-true _ _ _ holds

      -- too large, or out of memory
      pub IsFirst-size : (e : ReadError) (told : Bool) → first_holding (action_refusals (pred revisions) node action) ≡ None → (told ≡ true → (list_any is_long (paths_read node.path action) || large) ≡ true) → IsTooLarge told e → IsFirstReason (node_refusals revisions node large) e
      IsFirst-size (read.Refused refusal) told none holds is = refused_size none (holds is.1) ∙ ap Some (sym is.0)
      IsFirst-size read.Memory told none holds is = tt

-- ---- the sizes

is_full_with-more : (table added more : List (List ℕ)) → is_full_with table added ≡ true → is_full_with table (added ++ more) ≡ true
is_full_with-more table added more full =
    let grown = fold-append with_name table added more in
    lt-ltb _ _ (omega (arith, ltb-true _ _ full, ap length grown, length-Extends _ _ (Extends-with_names (with_names table added) more)))

is_full_with-append : (table added more : List (List ℕ)) → is_full_with (with_names table added) more ≡ is_full_with table (added ++ more)
is_full_with-append table added more = ap (λ all. nat_lt most_numbered (length all)) (sym (fold-append with_name table added more))

module _ (rev : ℕ) (node : Node) (setting : Setting (List ℕ)) (action : NodeAction) (settled : node.setting ≡ Some setting) (does : node.action ≡ Some action) (none : first_holding (action_refusals rev node action) ≡ None) (names texts : List (List ℕ)) where
  abbrev told_record : RecordOfBytes
  told_record = record_by node.path setting action

  -- a record whose paths aren't long is too large where its names or its texts are
  by_record : (is_full_with names (parts_of_record told_record) || is_full_with texts (texts_of_action told_record.action)) ≡ true → (list_any is_long (paths_read node.path action) || is_record_large names texts (record_of rev node)) ≡ true
  by_record full =
      elim (cases_Bool (list_any is_long (paths_read node.path action))) [
        | inl long ↦ ap (λ b. b || is_record_large names texts (record_of rev node)) long
        | inr short ↦
            ap₂ (λ b told. b || is_record_large names texts told) short (record_of-allowed rev node setting action settled does none short) ∙ full
      ]

  -- by its path
  pub large_path : is_path_large names node.path ≡ true → (list_any is_long (paths_read node.path action) || is_record_large names texts (record_of rev node)) ≡ true
  large_path large =
      elim (or_either (is_long node.path) (is_full_with names (parts_of node.path)) large) [
        | inl long ↦ ap (λ b. b || is_record_large names texts (record_of rev node)) (paths_read-split is_long node.path action refl ∙ ap (λ b. b || list_any is_long (paths_read [] action)) long)
        | inr full ↦
            by_record (ap (λ b. b || is_full_with texts (texts_of_action told_record.action)) (is_full_with-more names (parts_of node.path) (parts_of_action (action_of setting action)) full))
      ]

  -- by what it does
  pub large_action : (mid : List (List ℕ)) → mid ≡ with_names names (parts_of node.path) →
      (list_any is_long (paths_read [] action) || is_full_with mid (parts_of_action (action_of setting action)) || is_full_with texts (texts_of_action (action_of setting action))) ≡ true →
      (list_any is_long (paths_read node.path action) || is_record_large names texts (record_of rev node)) ≡ true
  large_action mid table large = by_cases (list_any is_long (paths_read [] action)) refl (is_full_with mid (parts_of_action (action_of setting action))) refl large
    where
      names_full : is_full_with names (parts_of_record told_record) ≡ is_full_with mid (parts_of_action (action_of setting action))
      names_full =
          sym (is_full_with-append names (parts_of node.path) (parts_of_action (action_of setting action)))
          ∙ ap (λ known. is_full_with known (parts_of_action (action_of setting action))) (sym table)

      by_cases : (long : Bool) → list_any is_long (paths_read [] action) ≡ long → (full : Bool) → is_full_with mid (parts_of_action (action_of setting action)) ≡ full → (long || full || is_full_with texts (texts_of_action (action_of setting action))) ≡ true →
          (list_any is_long (paths_read node.path action) || is_record_large names texts (record_of rev node)) ≡ true
      by_cases true is full has e =
          ap (λ b. b || is_record_large names texts (record_of rev node))
          (paths_read-split is_long node.path action refl ∙ ap (λ b. is_long node.path || b) is ∙ or-true (is_long node.path))
      by_cases false is full has e =
          by_record (ap (λ b. b || is_full_with texts (texts_of_action told_record.action)) (names_full ∙ has) ∙ e)

-- ---- the record

-- a change in bytes
abbrev changes : ActionOfBytes → Bool
changes delete = false
changes (change given) = true
changes (add replace kind given) = false
changes (copy replace from from_rev given) = false

IsChange-changes : (names texts : List (List ℕ)) (each : Act) → changes (action_in_bytes names texts each) ≡ true → IsChange each
IsChange-changes names texts act.Delete e = absurd (cc)
IsChange-changes names texts (act.Change given) e = tt
IsChange-changes names texts (act.Add replace kind given) e = absurd (cc)
IsChange-changes names texts (act.Copy replace from from_rev given) e = absurd (cc)

changes-action_of : (setting : Setting (List ℕ)) (action : NodeAction) → changes (action_of setting action) ≡ is_change action
changes-action_of setting node_delete = refl
changes-action_of setting node_change = refl
changes-action_of setting (node_add replace kind) = refl
changes-action_of setting (node_copy replace from_rev from) = refl

IsChange-told : (names texts : List (List ℕ)) (each : Act) (setting : Setting (List ℕ)) (action : NodeAction) → action_in_bytes names texts each ≡ action_of setting action → is_change action ≡ true → IsChange each
IsChange-told names texts each setting action same e = IsChange-changes names texts each (ap changes same ∙ changes-action_of setting action ∙ e)

module _ (rev : ℕ) (node : Node) (setting : Setting (List ℕ)) (action : NodeAction) (settled : node.setting ≡ Some setting) (does : node.action ≡ Some action) (none : first_holding (action_refusals rev node action) ≡ None) where
  pub record_told_of :
      (old mid new old_texts new_texts : List (List ℕ)) (path : List NameId) (each : Act) →
      IsNumberedPath node.path old mid path → is_long node.path ≡ false → IsNumberedAct (action_of setting action) rev mid new new_texts each → list_any is_long (paths_read [] action) ≡ false →
      new_texts ≡ with_names old_texts (texts_of_action (action_of setting action)) → Extends mid new →
      IsNumberedRecord (record_of rev node) rev old new old_texts new_texts (record { rev = rev; path = path; act = each })
  record_told_of old mid new old_texts new_texts path each told short acts short_from texts grows =
      let spells : components_of new path ≡ parts_of node.path = components_of-grows mid new path grows told.of_table ∙ told.same in
      let is_short : list_any is_long (paths_read node.path action) ≡ false = paths_read-split is_long node.path action refl ∙ ap₂ (λ a b. a || b) short short_from in record {
        same = record_of-allowed rev node setting action settled does none is_short
            ∙ ap₂ (λ parts action. let one : RecordOfBytes = record { path = parts; action = action } in Some one) (sym spells) (sym acts.same);
        of_table = record {
          path = IsPathOf-grows mid new path grows told.of_table;
          length = told.short;
          act = acts.of_table;
          above_zero = above_zero rev node action none;
          root = λ root. IsChange-told new new_texts each setting action acts.same (root_changed rev node action none (sym (ap length spells) ∙ ap (λ parts. length (components_of new parts)) root));
        };
        revision = refl;
        table = acts.table ∙ ap₂ (λ names more. with_names names (parts_of_action more)) told.table (sym acts.same) ∙ sym (fold-append with_name old (parts_of node.path) (parts_of_action (action_in_bytes new new_texts each)))
            ∙ ap (λ all. with_names old (all ++ parts_of_action (action_in_bytes new new_texts each))) (sym spells);
        texts = texts ∙ ap (λ action. with_names old_texts (texts_of_action action)) (sym acts.same);
      }

-- ---- a node block that is taken

module _ (revisions : ℕ) (node : Node) (rev : ℕ) (action : NodeAction) (setting : Setting (List ℕ)) (taken : IsAcceptedNode revisions node rev action setting) where
  none_at : first_holding (action_refusals (pred revisions) node action) ≡ None
  none_at = ap (λ n. first_holding (action_refusals n node action)) (sym taken.revision) ∙ taken.none

  pub dotless-taken : (has_dot node.path ≡ false) × (list_any has_dot (paths_read [] action) ≡ false)
  dotless-taken = dotless (pred revisions) node action none_at

  -- its path is too large, or memory has run out
  pub IsFirst-path : (names texts : List (List ℕ)) (e : ReadError) → IsTooLarge (is_path_large names node.path) e → IsFirstReason (node_refusals revisions node (is_record_large names texts (record_of (pred revisions) node))) e
  IsFirst-path names texts e is =
      IsFirst-size revisions node (is_record_large names texts (record_of (pred revisions) node)) setting taken.settled action taken.does taken.some_revision e (is_path_large names node.path) none_at
      (large_path (pred revisions) node setting action taken.settled taken.does none_at names texts) is

  -- what it does is too large, or memory has run out
  pub IsFirst-action : (names mid texts : List (List ℕ)) (e : ReadError) → mid ≡ with_names names (parts_of node.path) →
      IsTooLarge (list_any is_long (paths_read [] action) || is_full_with mid (parts_of_action (action_of setting action)) || is_full_with texts (texts_of_action (action_of setting action))) e →
      IsFirstReason (node_refusals revisions node (is_record_large names texts (record_of (pred revisions) node))) e
  IsFirst-action names mid texts e table is =
      IsFirst-size revisions node (is_record_large names texts (record_of (pred revisions) node)) setting taken.settled action taken.does taken.some_revision e _ none_at
      (large_action (pred revisions) node setting action taken.settled taken.does none_at names texts mid table) is

  -- its record
  pub IsRecordTold-taken :
      (old mid new old_texts new_texts : List (List ℕ)) (path : List NameId) (each : Act) →
      IsNumberedPath node.path old mid path → is_long node.path ≡ false → (has_late_source (pred revisions) action ≡ false → IsNumberedAct (action_of setting action) (pred revisions) mid new new_texts each) → list_any is_long (paths_read [] action) ≡ false →
      new_texts ≡ with_names old_texts (texts_of_action (action_of setting action)) → Extends mid new →
      IsNumberedRecord (record_of (pred revisions) node) (pred revisions) old new old_texts new_texts (record { rev = rev; path = path; act = each })
  IsRecordTold-taken old mid new old_texts new_texts path each told short acts short_from texts grows =
      subst (λ n. IsNumberedRecord (record_of (pred revisions) node) (pred revisions) old new old_texts new_texts (record { rev = n; path = path; act = each })) (sym taken.revision)
      (record_told_of (pred revisions) node setting action taken.settled taken.does none_at old mid new old_texts new_texts path each told short (acts (not_late (pred revisions) node action none_at)) short_from texts grows)
