-- All that stands directly below a path, where there may be mergeinfo below the path.
use Rattle.std.proofs.Common.{◌≡◌, ℕ, true, List, [], ◌∷◌, ◌++◌, Option, None, Some, bytes_eq, get_or, is_some, map, option_map, refl, sym, ap, ◌∙◌}
use Rattle.std.proofs.lemmas.Bool.{both_ways}
use Rattle.std.proofs.lemmas.List.{map-append}
use Rattle.std.proofs.lemmas.List.Elements.{All-map, Contains-get_or}
use Rattle.std.proofs.lemmas.Option.{none-some}
use Rattle.svn_path.specs.Names.{name_of}
use Rattle.svn_path.specs.Path.{components_of}
use Rattle.svn_path.specs.declared.names.NameId.{NameId}
use Rattle.svn_dump.specs.Dump.{DumpValue}
use Rattle.svn_dump.specs.Tree.{Entry, entry_at, is_there, tree_of}
use Rattle.svn_dump.specs.declared.record.Kind.{Kind}
use Rattle.block_map.specs.Standing.{Standing}
use Rattle.block_map.specs.declared.entry.Child.{Child}
use Rattle.query_answer.specs.Repo.{trees_in_bytes}
use Rattle.query_answer.specs.Standings.{AreChildrenIn}
use Rattle.branch_answer.proofs.Membership.{Contains-map}
use Rattle.branch_answer.specs.ExplicitFound.{AreOpen, IsChildIn}
use Rattle.branch_answer.specs.Listing.{TreeOfBytes}
use Rattle.branch_answer.specs.Life.{PathOfBytes}

-- the kind of an entry
abbrev kind_of : Option (Entry (List ℕ) (List ℕ)) → Option Kind
kind_of entry =
    option_map (λ (standing : Standing (List ℕ)). standing.kind)
    (option_map (λ (each : Entry (List ℕ) (List ℕ)). let one : Standing (List ℕ) = record { kind = each.kind; mergeinfo = each.mergeinfo } in one) entry)

-- what has a kind is there
there_from_kind : (entry : Option (Entry (List ℕ) (List ℕ))) (kind : Kind) → kind_of entry ≡ Some kind → is_some entry ≡ true
there_from_kind None kind is = absurd (none-some kind is)
there_from_kind (Some entry) kind is = refl

-- and what is there has one
kind_from_there : (entry : Option (Entry (List ℕ) (List ℕ))) → is_some entry ≡ true → (kind : Kind) × (kind_of entry ≡ Some kind)
kind_from_there None there = absurd (both_ways true (sym there) refl)
kind_from_there (Some entry) there = (entry.kind, refl)

abbrev pub path_of_child : List NameId → Child → List NameId
path_of_child path child = path ++ child.name ∷ []

module _ (dump : DumpValue) (rev : ℕ) (path : List NameId) where
  abbrev tree : TreeOfBytes
  tree = tree_of (trees_in_bytes dump) rev

  abbrev parts : PathOfBytes
  parts = components_of dump.names path

  abbrev name_at : NameId → List ℕ
  name_at id = name_of dump.names id.0

  child_in_bytes : (id : NameId) → components_of dump.names (path ++ id ∷ []) ≡ parts ++ name_at id ∷ []
  child_in_bytes id = map-append name_at path (id ∷ [])

  -- what is open below a path is among all its children
  pub AreOpen-children : (children : List Child) → AreChildrenIn dump path rev children → AreOpen dump rev path (map (path_of_child path) children)
  AreOpen-children children all = record {
    sound = All-map (IsChildIn dump rev path) (path_of_child path) children (λ k d within.
        let child = get_or children k d in
        record {
          name = child.name;
          is = refl;
          of_names = all.of_names k d within;
          there = ap (λ at. is_there bytes_eq tree at) (child_in_bytes child.name)
              ∙ there_from_kind (entry_at bytes_eq tree (parts ++ name_at child.name ∷ [])) child.kind (all.sound child (Contains-get_or children k d within));
        });
    complete = λ name rest there own.
        let (kind, stands) = kind_from_there (entry_at bytes_eq tree (parts ++ name ∷ [])) there in
        let (child, among, named, same) = all.complete name kind stands in
        (path_of_child path child, Contains-map (path_of_child path) children child among, child_in_bytes child.name ∙ ap (λ one. parts ++ one ∷ []) named);
  }
