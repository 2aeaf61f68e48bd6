-- The paths of the next revision that came from a path, and where its records put that path.
use Rattle.std.proofs.Common.{◌≡◌, ◌⊎◌, ℕ, ◌+◌, ◌<◌, ◌==◌, ◌&&◌, Bool, true, false, inl, inr, if◌then◌else◌, List, [], ◌∷◌, ◌++◌, Option, None, Some, All, IfSome, is_some, option_and_then, option_map, bytes_eq, drop, filter, fold, map, length, get_or, refl, sym, ap, subst, ◌∙◌, arith, eq-eqb, eqb-true}
use Rattle.std.proofs.Math.ListN.{get_or-map}
use Rattle.std.proofs.lemmas.Bool.{and_parts, both_ways}
use Rattle.std.proofs.lemmas.List.{length-map, map-append}
use Rattle.std.proofs.lemmas.List.Elements.{All-append, All-contains, All-drop, All-filter, All-map, Contains-get_or, filter_passes}
use Rattle.std.proofs.lemmas.Option.{none-some, same_Some}
use Rattle.std.specs.Cmp.Lexicographic.{pointwise}
use Rattle.std.specs.List.{Contains}
use Rattle.svn_path.proofs.Belows.{IsSame-same_name, drop-from_below, same_path-is}
use Rattle.svn_path.proofs.Orders.{pointwise-same_path}
use Rattle.svn_path.proofs.Tables.{components_of-components}
use Rattle.svn_path.specs.Below.{below, is_below, same_path}
use Rattle.svn_path.specs.Components.{IsComponent}
use Rattle.svn_path.specs.Path.{IsPathOf, components_of, same_name}
use Rattle.svn_path.specs.declared.names.NameId.{NameId}
use Rattle.svn_dump.proofs.Grouped.{length-records_by_revision}
use Rattle.svn_dump.proofs.Renaming.Paths.{KeepsSame, below-rename, same_path-rename}
use Rattle.svn_dump.specs.Dump.{DumpValue, IsDump, IsRecordOf, action_view, history_in_bytes, history_view, record_view}
use Rattle.svn_dump.specs.History.{Action, Record, add, change, copy, delete, rename_action, rename_record}
use Rattle.svn_dump.specs.Tree.{Entry, is_there, tree_of}
unfoldable use Rattle.svn_dump.specs.Tree.{entry_at}
use Rattle.svn_dump.specs.declared.record.Act.{Act}
use Rattle.svn_dump.specs.declared.record.Act.TheVariants as act
use Rattle.svn_dump.specs.declared.record.Mi.{Mi}
use Rattle.svn_dump.specs.declared.record.NodeRecord.{NodeRecord}
use Rattle.block_map.specs.declared.entry.Entry as kept
use Rattle.query_answer.proofs.InBytes.{alike, name, text}
use Rattle.query_answer.proofs.StandingsInBytes.{IsSame-bytes_eq}
use Rattle.query_answer.specs.Repo.{trees_in_bytes}
use Rattle.query_answer.specs.Standings.{standing_in, standing_in_bytes}
use Rattle.branch_answer.proofs.CameBy.{CameBy, CameBy-tree_of, IsPutBy}
use Rattle.branch_answer.proofs.EachOnce.{AllStand-trees_of, StandsIn}
use Rattle.branch_answer.proofs.FirstPaths.{Contains-cons, Contains-split, IsFirst, IsFirst-first_path, IsFirst-more, IsFirst-one, IsFirst-same}
use Rattle.branch_answer.specs.Life.{PathOfBytes, earlier_of, first_path, is_place, paths_from}
use Rattle.branch_answer.specs.Listing.{TreeOfBytes}
use Rattle.branch_answer.specs.Moves.{earlier_in, first_after, first_by, first_with, if_from, is_before, is_from, next_by, place_after, place_by}
use Rattle.branch_answer.specs.Presence.{IsKnownPath, is_present}

-- ---- an origin, by numbers and by bytes

pub is_place-in_bytes : (dump : DumpValue) → IsDump dump → (path from : List NameId) (rev from_rev : ℕ)
    → is_place (components_of dump.names path) rev (Some (components_of dump.names from, from_rev)) ≡ (pointwise same_name from path && from_rev == rev)
is_place-in_bytes dump kept path from rev from_rev =
    ap (λ b. b && from_rev == rev)
    (same_path-rename (name dump kept) same_name bytes_eq (alike dump kept) from path ∙ sym (pointwise-same_path same_name from path))

-- what is found at a path tells whether it is there
pub is_there-found : (dump : DumpValue) (rev : ℕ) (parts : PathOfBytes) (found : Option kept.Entry)
    → option_map (standing_in_bytes dump) found ≡ standing_in dump rev parts
    → is_there bytes_eq (tree_of (trees_in_bytes dump) rev) parts ≡ is_some found
is_there-found dump rev parts found is = by (entry_at bytes_eq (tree_of (trees_in_bytes dump) rev) parts) found is
  where
    by : (o : Option (Entry (List ℕ) (List ℕ))) (found : Option kept.Entry)
        → option_map (standing_in_bytes dump) found ≡ option_map (λ entry. record { kind = entry.kind; mergeinfo = entry.mergeinfo }) o
        → is_some o ≡ is_some found
    by None None is = refl
    by None (Some entry) is = cc
    by (Some entry) None is = cc
    by (Some entry) (Some found) is = refl

-- ---- where a record puts a path

module _ (dump : DumpValue) (path to : List NameId) (of : IsPathOf dump.names path) (to_of : IsPathOf dump.names to) (next : List NameId) where
  copied-of_names : (from : List NameId) (b : Bool) (left : Option (List NameId)) → below same_name from path ≡ left
      → (if b then option_map (λ rest. to ++ rest) left else None) ≡ Some next → IsPathOf dump.names next
  copied-of_names from true None left placed = absurd (none-some next placed)
  copied-of_names from true (Some rest) left placed =
      let Named = λ (id : NameId). id.0 < length dump.names in
      subst (All Named) (same_Some (to ++ rest) next placed)
      (All-append Named to rest to_of (subst (All Named) (drop-from_below IsSame-same_name from path rest left) (All-drop Named (length from) path of)))
  copied-of_names from false left is placed = absurd (none-some next placed)

  placed-of_names : (rev : ℕ) (act : Act) → place_by same_name path rev to (action_view act) ≡ Some next → IsPathOf dump.names next
  placed-of_names rev act.Delete placed = absurd (none-some next placed)
  placed-of_names rev (act.Change setting) placed = absurd (none-some next placed)
  placed-of_names rev (act.Add replace kind setting) placed = absurd (none-some next placed)
  placed-of_names rev (act.Copy replace from from_rev setting) placed = copied-of_names from (from_rev == rev) (below same_name from path) refl placed

-- below the path of a copy, what the path has below its source
pub place-of_copy : (path : List NameId) (rev : ℕ) (one : NodeRecord) (replace : Bool) (from : List NameId) (from_rev : ℕ) (setting : Mi)
    → one.act ≡ act.Copy replace from from_rev setting → from_rev ≡ rev → is_below same_name from path ≡ true
    → place_after same_name path rev (record_view one) ≡ Some (one.path ++ drop (length from) path)
place-of_copy path rev one replace from from_rev setting is same under =
    ap (λ each. place_by same_name path rev one.path (action_view each)) is
    ∙ ap (λ b. if b then option_map (λ rest. one.path ++ rest) (below same_name from path) else None) (eq-eqb from_rev rev same)
    ∙ by (below same_name from path) refl under
  where
    by : (left : Option (List NameId)) → below same_name from path ≡ left → is_some left ≡ true
        → option_map (λ rest. one.path ++ rest) left ≡ Some (one.path ++ drop (length from) path)
    by None left some = absurd (both_ways false refl some)
    by (Some rest) left some = ap (λ more. Some (one.path ++ more)) (sym (drop-from_below IsSame-same_name from path rest left))

-- it is of the dump's names
pub place-of_names : (dump : DumpValue) (path : List NameId) (rev : ℕ) (one : NodeRecord) (next : List NameId) → IsPathOf dump.names path → IsRecordOf dump one
    → place_after same_name path rev (record_view one) ≡ Some next → IsPathOf dump.names next
place-of_names dump path rev one next of is placed = placed-of_names dump path one.path of is.path next rev one.act placed

module _ {C D M N : Type 0} (name : C → D) (text : M → N) (sameC : C → C → Bool) (sameD : D → D → Bool) (alike : KeepsSame name sameC sameD) where
  copied-rename : (to : List C) (b : Bool) (left : Option (List C))
      → (if b then option_map (λ rest. map name to ++ rest) (option_map (map name) left) else None) ≡ option_map (map name) (if b then option_map (λ rest. to ++ rest) left else None)
  copied-rename to true None = refl
  copied-rename to true (Some rest) = ap Some (sym (map-append name to rest))
  copied-rename to false left = refl

  -- where an action puts a path, in bytes
  pub placed-rename : (path : List C) (rev : ℕ) (to : List C) (action : Action C M)
      → place_by sameD (map name path) rev (map name to) (rename_action name text action) ≡ option_map (map name) (place_by sameC path rev to action)
  placed-rename path rev to delete = refl
  placed-rename path rev to (change setting) = refl
  placed-rename path rev to (add replace kind setting) = refl
  placed-rename path rev to (copy replace from from_rev setting) =
      ap (λ left. if from_rev == rev then option_map (λ rest. map name to ++ rest) left else None) (below-rename name sameC sameD alike from path)
      ∙ copied-rename to (from_rev == rev) (below sameC from path)

-- ---- the paths of a tree

module _ (place : PathOfBytes) (rev : ℕ) where
  abbrev is_of_place : PathOfBytes × Entry (List ℕ) (List ℕ) → Bool
  is_of_place each = is_place place rev each.1.origin

  -- a path that stands there and came from the place is among them
  paths_from-has : (tree : TreeOfBytes) (path : PathOfBytes) → is_place place rev (option_and_then (λ entry. entry.origin) (entry_at bytes_eq tree path)) ≡ true
      → Contains (paths_from tree place rev) path
  unfolding entry_at
  paths_from-has [] path placed = absurd (both_ways false refl placed)
  paths_from-has (each ∷ tree) path placed = by (same_path bytes_eq each.0 path) refl placed (paths_from-has tree path)
    where
      later : TreeOfBytes
      later = filter is_of_place tree

      either : (b : Bool) → Contains (map (λ one. one.0) later) path → Contains (map (λ one. one.0) (if b then each ∷ later else later)) path
      either true has = Contains-cons each.0 (map (λ one. one.0) later) path (inr has)
      either false has = has

      by : (b : Bool) → same_path bytes_eq each.0 path ≡ b
          → is_place place rev (option_and_then (λ entry. entry.origin) (if b then Some each.1 else entry_at bytes_eq tree path)) ≡ true
          → (is_place place rev (option_and_then (λ entry. entry.origin) (entry_at bytes_eq tree path)) ≡ true → Contains (paths_from tree place rev) path)
          → Contains (paths_from (each ∷ tree) place rev) path
      by true here placed more =
          subst (λ b. Contains (map (λ one. one.0) (if b then each ∷ later else later)) path) (sym placed)
          (Contains-cons each.0 (map (λ one. one.0) later) path (inl (sym ((same_path-is IsSame-bytes_eq each.0 path).0 here))))
      by false other placed more = either (is_of_place each) (more placed)

-- ---- the records of the next revision

-- a record put the path there, and it came from there
pub record IsNextBy (dump : DumpValue) (path : List NameId) (rev : ℕ) (records : List NodeRecord) (parts : PathOfBytes) : Type 0 where
  pub one : NodeRecord
  pub has : Contains records one
  pub next : option_map (components_of dump.names) (next_by dump path rev one) ≡ Some parts

-- where that is, by numbers
record IsNumbered (dump : DumpValue) (path : List NameId) (rev : ℕ) (one : NodeRecord) (parts : PathOfBytes) : Type 0 where
  pub next : List NameId
  pub is : components_of dump.names next ≡ parts
  pub placed : place_after same_name path rev (record_view one) ≡ Some next
  pub from : is_from dump path rev next ≡ true

module _ (dump : DumpValue) (path : List NameId) (rev : ℕ) where
  numbered : (one : NodeRecord) (parts : PathOfBytes) → option_map (components_of dump.names) (next_by dump path rev one) ≡ Some parts → IsNumbered dump path rev one parts
  numbered one parts at = by (place_after same_name path rev (record_view one)) refl at
    where
      tested : (next : List NameId) → place_after same_name path rev (record_view one) ≡ Some next → (b : Bool) → is_from dump path rev next ≡ b
          → option_map (components_of dump.names) (if b then Some next else None) ≡ Some parts → IsNumbered dump path rev one parts
      tested next placed true from at = record { next = next; is = same_Some (components_of dump.names next) parts at; placed = placed; from = from }
      tested next placed false from at = absurd (none-some parts at)

      by : (o : Option (List NameId)) → place_after same_name path rev (record_view one) ≡ o
          → option_map (components_of dump.names) (option_and_then (if_from dump path rev) o) ≡ Some parts → IsNumbered dump path rev one parts
      by None placed at = absurd (none-some parts at)
      by (Some next) placed at = tested next placed (is_from dump path rev next) refl at

  -- ---- the first where records put it

  earlier-in_bytes : (next : List NameId) (first : Option (List NameId))
      → option_map (components_of dump.names) (Some (earlier_in dump.names next first)) ≡ Some (earlier_of (components_of dump.names next) (option_map (components_of dump.names) first))
  earlier-in_bytes next None = refl
  earlier-in_bytes next (Some first) = by (is_before dump.names first next)
    where
      by : (b : Bool) → Some (components_of dump.names (if b then first else next)) ≡ Some (if b then components_of dump.names first else components_of dump.names next)
      by true = refl
      by false = refl

  with_one : (P : PathOfBytes → Type 0) (first next : Option (List NameId)) → IsFirst P (option_map (components_of dump.names) first)
      → IsFirst (λ parts. (option_map (components_of dump.names) next ≡ Some parts) ⊎ P parts) (option_map (components_of dump.names) (first_with dump.names first next))
  with_one P first None is =
      IsFirst-same P _ (λ parts has. inr has)
      (λ parts among. elim among [ inl never ↦ absurd (none-some parts never) | inr has ↦ has ])
      (option_map (components_of dump.names) first) is
  with_one P first (Some next) is =
      subst (IsFirst (λ parts. (Some (components_of dump.names next) ≡ Some parts) ⊎ P parts)) (sym (earlier-in_bytes next first))
      (IsFirst-same (λ parts. (parts ≡ components_of dump.names next) ⊎ P parts) _
      (λ parts among. elim among [ inl same ↦ inl (ap Some (sym same)) | inr has ↦ inr has ])
      (λ parts among. elim among [ inl same ↦ inl (sym (same_Some (components_of dump.names next) parts same)) | inr has ↦ inr has ])
      (Some (earlier_of (components_of dump.names next) (option_map (components_of dump.names) first)))
      (IsFirst-more P (components_of dump.names next) (option_map (components_of dump.names) first) is))

  IsFirst-fold : (records : List NodeRecord) (first : Option (List NameId)) (P : PathOfBytes → Type 0) → IsFirst P (option_map (components_of dump.names) first)
      → IsFirst (λ parts. IsNextBy dump path rev records parts ⊎ P parts) (option_map (components_of dump.names) (fold (first_after dump path rev) first records))
  IsFirst-fold [] first P is =
      IsFirst-same P _ (λ parts has. inr has)
      (λ parts among. elim among [ inl none ↦ absurd (omega (arith, none.has.1)) | inr has ↦ has ])
      (option_map (components_of dump.names) first) is
  IsFirst-fold (one ∷ records) first P is =
      let after = first_after dump path rev first one in
      let Q = λ (parts : PathOfBytes). (option_map (components_of dump.names) (next_by dump path rev one) ≡ Some parts) ⊎ P parts in
      IsFirst-same (λ parts. IsNextBy dump path rev records parts ⊎ Q parts) (λ parts. IsNextBy dump path rev (one ∷ records) parts ⊎ P parts)
      (λ parts among. elim among [
        | inl later ↦ inl (record { one = later.one; has = Contains-cons one records later.one (inr later.has); next = later.next })
        | inr (inl here) ↦ inl (record { one = one; has = Contains-cons one records one (inl refl); next = here })
        | inr (inr has) ↦ inr has
      ])
      (λ parts among. elim among [
        | inl some ↦ split parts some (Contains-split one records some.one some.has)
        | inr has ↦ inr (inr has)
      ])
      (option_map (components_of dump.names) (fold (first_after dump path rev) after records))
      (IsFirst-fold records after Q (with_one P first (next_by dump path rev one) is))
    where
      split : (parts : PathOfBytes) (some : IsNextBy dump path rev (one ∷ records) parts) → (some.one ≡ one) ⊎ Contains records some.one
          → IsNextBy dump path rev records parts ⊎ ((option_map (components_of dump.names) (next_by dump path rev one) ≡ Some parts) ⊎ P parts)
      split parts some (inl here) = inr (inl (ap (λ each. option_map (components_of dump.names) (next_by dump path rev each)) (sym here) ∙ some.next))
      split parts some (inr later) = inl (record { one = some.one; has = later; next = some.next })

  -- ---- they are the paths of the next revision that came from the path

  module _ (known : IsKnownPath dump path (rev + 1)) (gone : is_present dump path (rev + 1) ≡ false) (records : List NodeRecord)
      (are : map record_view records ≡ get_or (history_view dump) (rev + 1) []) where
    abbrev tree : TreeOfBytes
    tree = tree_of (trees_in_bytes dump) (rev + 1)

    abbrev place : PathOfBytes
    place = components_of dump.names path

    abbrev in_bytes : NodeRecord → Record (List ℕ) (List ℕ)
    in_bytes one = rename_record (name dump known.kept) (text dump known.kept) (record_view one)

    -- a record of the revision, in bytes
    record IsInBytes (each : Record (List ℕ) (List ℕ)) : Type 0 where
      pub one : NodeRecord
      pub has : Contains records one
      pub is : each ≡ in_bytes one

    came : All (CameBy bytes_eq IsInBytes) tree
    came =
        let rename = rename_record (name dump known.kept) (text dump known.kept) in
        let records_are : get_or (history_in_bytes dump) (rev + 1) [] ≡ map rename (map record_view records) =
        get_or-map (map rename) (history_view dump) (rev + 1) [] ∙ ap (map rename) (sym are) in
        CameBy-tree_of bytes_eq IsInBytes (history_in_bytes dump) (rev + 1)
        (omega (arith, known.within, length-map (history_view dump) (map rename), length-records_by_revision dump.counts (map record_view dump.records)))
        (rw records_are
        (All-map IsInBytes rename (map record_view records) (All-map (λ each. IsInBytes (rename each)) record_view records
        (λ k d within. record { one = get_or records k d; has = Contains-get_or records k d within; is = refl }))))

    next_is : (parts : PathOfBytes) → IsNextBy dump path rev records parts → Contains (paths_from tree place rev) parts
    next_is parts by_one =
        let next = numbered by_one.one parts by_one.next in
        subst (Contains (paths_from tree place rev)) next.is (paths_from-has place rev tree (components_of dump.names next.next) next.from)

    module _ (each : PathOfBytes × Entry (List ℕ) (List ℕ)) (stands : StandsIn bytes_eq tree each) (from_place : is_place place rev each.1.origin ≡ true) where
      put : (one : NodeRecord) → Contains records one → (o : Option (List NameId)) → place_after same_name path rev (record_view one) ≡ o
          → option_map (components_of dump.names) o ≡ Some each.0 → IsNextBy dump path rev records each.0
      put one has None placed at = absurd (none-some each.0 at)
      put one has (Some next) placed at =
          let spelled : components_of dump.names next ≡ each.0 = same_Some (components_of dump.names next) each.0 at in
          let from : is_from dump path rev next ≡ true =
          ap (λ parts. is_place place rev (option_and_then (λ entry. entry.origin) (entry_at bytes_eq tree parts))) spelled
          ∙ ap (λ found. is_place place rev (option_and_then (λ entry. entry.origin) found)) stands ∙ from_place in
          record {
            one = one;
            has = has;
            next = ap (λ found. option_map (components_of dump.names) (option_and_then (if_from dump path rev) found)) placed
                ∙ ap (λ b. option_map (components_of dump.names) (if b then Some next else None)) from ∙ at;
          }

      by_origin : (o : Option (PathOfBytes × ℕ)) → is_place place rev o ≡ true
          → IfSome o (λ from. (from.0 ≡ each.0) ⊎ IsPutBy bytes_eq IsInBytes from each.0) → IsNextBy dump path rev records each.0
      by_origin None placed how = absurd (both_ways false refl placed)
      by_origin (Some from) placed how =
          let (same, equal) = and_parts (same_path bytes_eq from.0 place) (from.1 == rev) placed in
          let path_is : from.0 ≡ place = (same_path-is IsSame-bytes_eq from.0 place).0 same in
          let rev_is : from.1 ≡ rev = eqb-true from.1 rev equal in
          elim how [
            | inl itself ↦
                let there : is_present dump path (rev + 1) ≡ true =
                ap (λ parts. is_some (entry_at bytes_eq tree parts)) (sym path_is ∙ itself) ∙ ap is_some stands in
                absurd (both_ways _ gone there)
            | inr by_record ↦
                let one = by_record.is.one in
                put one by_record.is.has (place_after same_name path rev (record_view one)) refl
                (sym (placed-rename (name dump known.kept) (text dump known.kept) same_name bytes_eq (alike dump known.kept) path rev one.path (action_view one.act))
                ∙ ap (λ (record_in_bytes : Record (List ℕ) (List ℕ)). place_after bytes_eq place rev record_in_bytes) (sym by_record.is.is)
                ∙ ap (λ parts. place_after bytes_eq parts rev by_record.one) (sym path_is)
                ∙ ap (λ n. place_after bytes_eq from.0 n by_record.one) (sym rev_is)
                ∙ by_record.puts)
          ]

    is_next : (parts : PathOfBytes) → Contains (paths_from tree place rev) parts → IsNextBy dump path rev records parts
    is_next parts has =
        let test = λ (each : PathOfBytes × Entry (List ℕ) (List ℕ)). is_place place rev each.1.origin in
        let stand = AllStand-trees_of bytes_eq IsSame-bytes_eq (history_in_bytes dump) (rev + 1) in
        All-contains (IsNextBy dump path rev records) (paths_from tree place rev) parts
        (All-map (IsNextBy dump path rev records) (λ each. each.0) (filter test tree)
        (λ k d within.
        let each = get_or (filter test tree) k d in
        let passes = filter_passes test tree k d within in
        by_origin each (All-filter test (StandsIn bytes_eq tree) tree stand k d within) passes each.1.origin passes
        (All-filter test (CameBy bytes_eq IsInBytes) tree came k d within)))
        has

    -- so the first of the ones is the first of the others
    pub first_by-is : All (IsRecordOf dump) records
        → option_map (components_of dump.names) (first_by dump path rev records) ≡ first_path (paths_from tree place rev)
    first_by-is of_dump =
        IsFirst-one (IsNextBy dump path rev records) (Contains (paths_from tree place rev)) next_is is_next components
        (option_map (components_of dump.names) (first_by dump path rev records)) (first_path (paths_from tree place rev))
        (IsFirst-same (λ parts. IsNextBy dump path rev records parts ⊎ ⊥) (IsNextBy dump path rev records)
        (λ parts among. elim among [ inl has ↦ has | inr never ↦ absurd never ]) (λ parts has. inl has)
        (option_map (components_of dump.names) (first_by dump path rev records)) (IsFirst-fold records None (λ parts. ⊥) (λ parts never. never)))
        (IsFirst-first_path (paths_from tree place rev))
      where
        components : (parts : PathOfBytes) → IsNextBy dump path rev records parts → All IsComponent parts
        components parts by_one =
            let next = numbered by_one.one parts by_one.next in
            let of : IsPathOf dump.names next.next =
            place-of_names dump path rev by_one.one next.next known.of_names (All-contains (IsRecordOf dump) records by_one.one of_dump by_one.has) next.placed in
            subst (All IsComponent) next.is (components_of-components dump.names next.next known.kept.names.components of)
