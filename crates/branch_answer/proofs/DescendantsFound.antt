-- Each path that stood at the place of a peg is one of the places to which copies took it.
use Rattle.std.proofs.Common.{◌≡◌, ◌∙◌, ◌++◌, ◌<◌, ◌≤◌, ◌==◌, ◌⊎◌, Bool, true, false, if◌then◌else◌, List, [], ◌∷◌, ℕ, zero, suc, pred, All, Option, None, Some, IfSome, ap, arith, bytes_eq, eqb-true, filter, fold, get_or, inl, inr, length, map, option_map, refl, sym, subst}
use Rattle.std.proofs.Math.ListN.{get_or-map}
use Rattle.std.proofs.lemmas.Bool.{and_from, cases_lt, le-leb, lt-ltb}
use Rattle.std.proofs.lemmas.List.{length-map}
use Rattle.std.proofs.lemmas.List.Elements.{All-filter, All-map, Contains-get_or, filter_passes}
use Rattle.std.proofs.lemmas.List.Sums.{fold-append}
use Rattle.std.proofs.lemmas.Option.{none-some, option_and_then_some, same_Some}
use Rattle.std.specs.List.{Contains}
use Rattle.svn_path.proofs.Belows.{same_path-is}
use Rattle.svn_path.specs.Below.{below, same_path}
use Rattle.svn_path.specs.Path.{components_of, same_name}
use Rattle.svn_path.specs.declared.names.NameId.{NameId}
use Rattle.svn_dump.proofs.Grouped.{length-records_by_revision}
use Rattle.svn_dump.proofs.Locations.{location_here, origin_from_location}
use Rattle.svn_dump.proofs.Origins.{OriginsFall, OriginsFall-trees_of}
use Rattle.svn_dump.specs.Dump.{DumpValue, IsDump, action_view, history_in_bytes, history_view, record_view}
use Rattle.svn_dump.specs.History.{Record, rename_record}
use Rattle.svn_dump.specs.Location.{location}
use Rattle.svn_dump.specs.Tree.{Entry, tree_of}
unfoldable use Rattle.svn_dump.specs.Tree.{entry_at}
use Rattle.svn_dump.specs.declared.record.Act.{Act}
use Rattle.svn_dump.specs.declared.record.Act.TheVariants as act
use Rattle.svn_dump.specs.declared.record.NodeRecord.{NodeRecord}
use Rattle.path_index.proofs.CopiesInOrder.{copies_between-append}
use Rattle.path_index.proofs.Histories.{AreRising-from_revisions, records_of-records_by_revision}
use Rattle.path_index.specs.Copies.{Copy, copies_between, copy_by, copy_of, is_between}
use Rattle.query_answer.proofs.InBytes.{alike, name, text}
use Rattle.query_answer.proofs.StandingsInBytes.{IsSame-bytes_eq}
use Rattle.query_answer.specs.Answer.{TreesOfBytes}
use Rattle.query_answer.specs.Repo.{trees_in_bytes}
use Rattle.query_answer.specs.declared.target.PathRev.{PathRev}
use Rattle.branch_answer.proofs.CameBy.{CameBy, CameBy-tree_of, IsPutBy}
use Rattle.branch_answer.proofs.FirstPaths.{Contains-cons}
use Rattle.branch_answer.proofs.Membership.{Contains-filter, Contains-filter_map}
use Rattle.branch_answer.proofs.Moved.{placed-rename}
use Rattle.branch_answer.proofs.PlacesTaken.{places-come, places-stay}
use Rattle.branch_answer.specs.ExplicitFound.{HasPath}
use Rattle.branch_answer.specs.KeptDescendants.{place_by_copy, places_after, places_in}
use Rattle.branch_answer.specs.Life.{PathOfBytes}
use Rattle.branch_answer.specs.Listing.{TreeOfBytes}
use Rattle.branch_answer.specs.Moves.{place_after, place_by}

-- what holds of each entry of a tree holds of what stands at a path
entry_has : (P : PathOfBytes × Entry (List ℕ) (List ℕ) → Type 0) (tree : TreeOfBytes) (path : PathOfBytes) (entry : Entry (List ℕ) (List ℕ)) → All P tree
    → entry_at bytes_eq tree path ≡ Some entry → P (path, entry)
unfolding entry_at
entry_has P [] path entry all found = absurd (none-some entry found)
entry_has P (each ∷ tree) path entry all found =
    by (same_path bytes_eq each.0 path) refl found (entry_has P tree path entry (λ k d within. all (suc k) d (omega (arith, within))))
  where
    by : (b : Bool) → same_path bytes_eq each.0 path ≡ b → (if b then Some each.1 else entry_at bytes_eq tree path) ≡ Some entry
        → (entry_at bytes_eq tree path ≡ Some entry → P (path, entry)) → P (path, entry)
    by true here at later =
        let path_is : each.0 ≡ path = (same_path-is IsSame-bytes_eq each.0 path).0 here in
        let entry_is : each.1 ≡ entry = same_Some each.1 entry at in
        subst P (λ i. (path_is i, entry_is i)) (all 0 each (omega arith))
    by false other at later = later at

-- ---- a record that puts a path somewhere copies it there

record IsCopiedBy (to path : List NameId) (rev : ℕ) (a : Act) (next : List NameId) : Type 0 where
  pub copy : Copy
  pub is : copy_by to a ≡ Some copy
  pub rev_is : copy.from_rev ≡ rev
  pub taken : place_by_copy copy path ≡ Some next

copied_by_place : (to path : List NameId) (rev : ℕ) (a : Act) (next : List NameId) → place_by same_name path rev to (action_view a) ≡ Some next → IsCopiedBy to path rev a next
copied_by_place to path rev act.Delete next placed = absurd (none-some next placed)
copied_by_place to path rev (act.Change mi) next placed = absurd (none-some next placed)
copied_by_place to path rev (act.Add replace kind mi) next placed = absurd (none-some next placed)
copied_by_place to path rev (act.Copy replace from from_rev mi) next placed = by (from_rev == rev) refl placed
  where
    by : (b : Bool) → (from_rev == rev) ≡ b → (if b then option_map (λ rest. to ++ rest) (below same_name from path) else None) ≡ Some next
        → IsCopiedBy to path rev (act.Copy replace from from_rev mi) next
    by true same placed = record {
      copy = record { to = to; from = from; from_rev = from_rev };
      is = refl;
      rev_is = eqb-true from_rev rev same;
      taken = placed;
    }
    by false other placed = absurd (none-some next placed)

module _ (dump : DumpValue) (kept : IsDump dump) where
  abbrev trees : TreesOfBytes
  trees = trees_in_bytes dump

  falls : OriginsFall bytes_eq trees
  falls = OriginsFall-trees_of bytes_eq (history_in_bytes dump)

  abbrev in_bytes : NodeRecord → Record (List ℕ) (List ℕ)
  in_bytes one = rename_record (name dump kept) (text dump kept) (record_view one)

  -- a record of the revision, in bytes
  record IsInBytes (rev : ℕ) (each : Record (List ℕ) (List ℕ)) : Type 0 where
    pub one : NodeRecord
    pub has : Contains dump.records one
    pub rev_is : one.rev ≡ rev
    pub is : each ≡ in_bytes one

  came : (rev : ℕ) → rev < length dump.counts → All (CameBy bytes_eq (IsInBytes rev)) (tree_of trees rev)
  came rev within =
      let rename = rename_record (name dump kept) (text dump kept) in
      let test = λ (each : NodeRecord). each.rev == rev in
      let records = filter test dump.records in
      let records_are : get_or (history_in_bytes dump) rev [] ≡ map rename (map record_view records) =
      get_or-map (map rename) (history_view dump) rev [] ∙ ap (map rename) (sym (records_of-records_by_revision dump kept.revisions rev within)) in
      let of_dump = All-filter test (Contains dump.records) dump.records (λ k d inside. Contains-get_or dump.records k d inside) in
      CameBy-tree_of bytes_eq (IsInBytes rev) (history_in_bytes dump) rev
      (omega (arith, within, length-map (history_view dump) (map rename), length-records_by_revision dump.counts (map record_view dump.records)))
      (rw records_are
      (All-map (IsInBytes rev) rename (map record_view records) (All-map (λ each. IsInBytes rev (rename each)) record_view records
      (λ k d inside. record {
        one = get_or records k d;
        has = of_dump k d inside;
        rev_is = eqb-true (get_or records k d).rev rev (filter_passes test dump.records k d inside);
        is = refl;
      }))))

  -- the copy of a record is among those of its revision
  copy-between : (above rev : ℕ) (one : NodeRecord) (copy : Copy) → above < rev → one.rev ≡ rev → Contains dump.records one → copy_of one ≡ Some copy
      → Contains (copies_between above rev dump.records) copy
  copy-between above rev one copy past rev_is has is =
      let passes : is_between above rev one ≡ true =
      and_from _ _ (lt-ltb above one.rev (omega (arith, past, rev_is))) (le-leb one.rev rev (omega (arith, rev_is))) in
      Contains-filter_map copy_of (filter (is_between above rev) dump.records) one copy (Contains-filter (is_between above rev) dump.records one passes has) is

  module _ (at : PathRev) where
    abbrev place : PathOfBytes
    place = components_of dump.names at.path

    places-later : (mid rev : ℕ) → at.rev ≤ mid → mid ≤ rev → places_in dump at rev ≡ fold (places_after at.rev) (places_in dump at mid) (copies_between mid rev dump.records)
    places-later mid rev low high =
        ap (fold (places_after at.rev) (at.path ∷ [])) (copies_between-append at.rev mid rev dump.records (AreRising-from_revisions dump.records dump.counts kept.revisions) low high)
        ∙ fold-append (places_after at.rev) (at.path ∷ []) (copies_between at.rev mid dump.records) (copies_between mid rev dump.records)

    places-grow : (mid rev : ℕ) → at.rev ≤ mid → mid ≤ rev → (path : List NameId) → Contains (places_in dump at mid) path → Contains (places_in dump at rev) path
    places-grow mid rev low high path has =
        subst (λ all. Contains all path) (sym (places-later mid rev low high)) (places-stay at.rev (copies_between mid rev dump.records) (places_in dump at mid) path has)

    module _ (rev : ℕ) (past : at.rev < rev) (within : rev < length dump.counts) (parts : PathOfBytes) (from : PathOfBytes × ℕ) (low : at.rev ≤ from.1) (lower : from.1 < rev)
        (before : List NameId) (among : Contains (places_in dump at from.1) before) (spells : components_of dump.names before ≡ from.0) where
      -- it went where a record put it
      put : IsPutBy bytes_eq (IsInBytes rev) from parts → HasPath dump.names (places_in dump at rev) parts
      put by_record = by (place_after same_name before from.1 (record_view one)) refl renamed
        where
          one : NodeRecord
          one = by_record.is.one

          renamed : option_map (components_of dump.names) (place_after same_name before from.1 (record_view one)) ≡ Some parts
          renamed =
              sym (placed-rename (name dump kept) (text dump kept) same_name bytes_eq (alike dump kept) before from.1 one.path (action_view one.act))
              ∙ ap (λ (each : Record (List ℕ) (List ℕ)). place_after bytes_eq (components_of dump.names before) from.1 each) (sym by_record.is.is)
              ∙ ap (λ path. place_after bytes_eq path from.1 by_record.one) spells
              ∙ by_record.puts

          by : (o : Option (List NameId)) → place_after same_name before from.1 (record_view one) ≡ o → option_map (components_of dump.names) o ≡ Some parts
              → HasPath dump.names (places_in dump at rev) parts
          by None placed at_parts = absurd (none-some parts at_parts)
          by (Some next) placed at_parts =
              let last : pred rev < rev = omega (arith, lower) in
              let copied = copied_by_place one.path before from.1 one.act next placed in
              let late = le-leb at.rev copied.copy.from_rev (omega (arith, low, copied.rev_is)) in
              let copies = copies_between (pred rev) rev dump.records in
              let here = copy-between (pred rev) rev one copied.copy last by_record.is.rev_is by_record.is.has copied.is in
              let stays = places-grow from.1 (pred rev) low (omega (arith, lower)) before among in
              let comes = places-come at.rev copies (places_in dump at (pred rev)) copied.copy before next here stays late copied.taken in (
                next,
                subst (λ all. Contains all next) (sym (places-later (pred rev) rev (omega (arith, past)) (omega (arith, last)))) comes,
                same_Some (components_of dump.names next) parts at_parts,
              )

      -- so it did, or it stayed
      went : (o : Option (PathOfBytes × ℕ)) → o ≡ Some from → IfSome o (λ each. (each.0 ≡ parts) ⊎ IsPutBy bytes_eq (IsInBytes rev) each parts)
          → HasPath dump.names (places_in dump at rev) parts
      went None is how = absurd (none-some from is)
      went (Some each) is how = elim (subst (λ one. (one.0 ≡ parts) ⊎ IsPutBy bytes_eq (IsInBytes rev) one parts) (same_Some each from is) how) [
        | inl itself ↦ (before, places-grow from.1 rev low (omega (arith, lower)) before among, spells ∙ itself)
        | inr by_record ↦ put by_record
      ]

    stood_here : (rev : ℕ) → rev ≡ at.rev → (parts : PathOfBytes) → location bytes_eq trees parts rev at.rev ≡ Some place → HasPath dump.names (places_in dump at rev) parts
    stood_here rev here parts stood =
        let itself : parts ≡ place =
        same_Some parts place (sym (location_here bytes_eq trees falls parts at.rev) ∙ ap (λ n. location bytes_eq trees parts n at.rev) (sym here) ∙ stood) in (
          at.path,
          places-stay at.rev (copies_between at.rev rev dump.records) (at.path ∷ []) at.path (Contains-cons at.path [] at.path (inl refl)),
          sym itself,
        )

    stood_up_to : (most rev : ℕ) → rev ≤ most → at.rev ≤ rev → rev < length dump.counts → (parts : PathOfBytes) → location bytes_eq trees parts rev at.rev ≡ Some place
        → HasPath dump.names (places_in dump at rev) parts
    stood_up_to zero rev few above within parts stood = stood_here rev (omega (arith, few, above)) parts stood
    stood_up_to (suc most) rev few above within parts stood = elim (cases_lt at.rev rev) [
      | inl past ↦
          let (from, origin, low, lower, before_stood) = origin_from_location bytes_eq trees falls parts place rev at.rev past stood in
          let (before, among, spells) = stood_up_to most from.1 (omega (arith, lower, few)) low (omega (arith, lower, within)) from.0 before_stood in
          let (entry, found, origin_is) = option_and_then_some (λ (each : Entry (List ℕ) (List ℕ)). each.origin) (entry_at bytes_eq (tree_of trees rev) parts) from origin (λ each at_path is. (each, at_path, is)) in
          went rev past within parts from low lower before among spells entry.origin origin_is
          (entry_has (CameBy bytes_eq (IsInBytes rev)) (tree_of trees rev) parts entry (came rev within) found)
      | inr here ↦ stood_here rev (omega (arith, above, here)) parts stood
    ]

    -- each path that stood at the place is among the places
    pub stood-among_places : (rev : ℕ) → at.rev ≤ rev → rev < length dump.counts → (parts : PathOfBytes) → location bytes_eq trees parts rev at.rev ≡ Some place
        → HasPath dump.names (places_in dump at rev) parts
    stood-among_places rev above within parts stood = stood_up_to rev rev (omega arith) above within parts stood
