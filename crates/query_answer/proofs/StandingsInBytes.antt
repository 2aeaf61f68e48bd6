-- What stands at a path by numbers and by bytes.
use Rattle.query_answer.proofs.Common.{◌≡◌, ℕ, ◌<◌, ◌≤◌, Bool, true, false, if◌then◌else◌, List, [], ◌∷◌, ◌++◌, Option, None, Some, option_and_then, option_map, get_or, length, map, bytes_eq, refl, sym, ap, ◌∙◌, arith, map-append, none-some, entry_at-nil, entry_at-rename, rename_entry, rename_tree, tree_of-rename, tree_of_past, revision_in, Standing, own_mergeinfo, own_mergeinfo_at, entry_view, standing_at, trees_in_bytes, DumpValue, IsDump, Entry, Tree, entry_at, tree_of, same_name, components_of, NameId, ValueId}
use Rattle.std.specs.Prelude.{◌^◌}
use Rattle.std.proofs.lemmas.List.Elements.{All-contains, Contains-get_or, Contains-push}
use Rattle.std.proofs.lemmas.Slice.Eq.{bytes_eq-Decides}
use Rattle.svn_path.proofs.Belows.{IsSame, same_path-is}
use Rattle.svn_path.proofs.Tables.{name_of-same}
use Rattle.svn_path.specs.Below.{same_path}
use Rattle.svn_dump.specs.declared.record.Kind.{Kind}
use Rattle.block_map.specs.Children.{AreChildren, kind_below}
use Rattle.block_map.specs.declared.entry.Child.{Child}
use Rattle.block_map.specs.declared.entry.Entry as kept
use Rattle.query_answer.specs.Standings.{AreChildrenIn, HasNoMergeinfoBelow, kind_below_in, standing_in, standing_in_bytes}
use Rattle.query_answer.proofs.InBytes.{alike, length-trees_in_bytes, name, text, trees-renamed, trees_by_number}
use Rattle.query_answer.proofs.NearestMergeinfo.{own_mergeinfo-rename, own_mergeinfo-standing}
use Rattle.query_answer.proofs.TreePaths.{IsOf-entry}

-- ---- at a path of the dump

-- what stands there, with the text of the mergeinfo
abbrev with_text : {M N : Type 0} → (M → N) → Standing M → Standing N
with_text text standing = record { kind = standing.kind; mergeinfo = option_map text standing.mergeinfo }

-- the kind and the mergeinfo of an entry
abbrev entry_standing : {C M : Type 0} → Entry C M → Standing M
entry_standing entry = record { kind = entry.kind; mergeinfo = entry.mergeinfo }

-- bytes are the same exactly where the test says so
pub IsSame-bytes_eq : IsSame bytes_eq
IsSame-bytes_eq = record { true_is = λ a b. (bytes_eq-Decides a b).0; itself = λ a. (bytes_eq-Decides a a).1 refl }

-- a path by which a renamed tree has something is renamed
renamed_path : {C M D N : Type 0} (name : C → D) (text : M → N) (same : D → D → Bool) → IsSame same → (tree : Tree C M) (parts : List D) (found : Entry D N)
    → entry_at same (rename_tree name text tree) parts ≡ Some found → (path : List C) × (map name path ≡ parts)
unfolding entry_at
renamed_path name text same is [] parts found at = absurd (none-some found at)
renamed_path {C} name text same is (each ∷ tree) parts found at = by (same_path same (map name each.0) parts) refl at (λ later. renamed_path name text same is tree parts found later)
  where
    by : (b : Bool) → same_path same (map name each.0) parts ≡ b
        → (if b then Some (rename_entry name text each.1) else entry_at same (rename_tree name text tree) parts) ≡ Some found
        → (entry_at same (rename_tree name text tree) parts ≡ Some found → (path : List C) × (map name path ≡ parts)) → (path : List C) × (map name path ≡ parts)
    by true here at later = (each.0, (same_path-is is (map name each.0) parts).0 here)
    by false there at later = later at

-- a path that is renamed to another one, with more parts, goes on from it
split_renamed : {C D : Type 0} (name : C → D) → ((a b : C) → name a ≡ name b → a ≡ b) → (path whole : List C) (parts : List D)
    → map name whole ≡ map name path ++ parts → (rest : List C) × (map name rest ≡ parts) × (whole ≡ path ++ rest)
split_renamed name one [] whole parts is = (whole, is, refl)
split_renamed name one (p ∷ path) [] parts is = cc
split_renamed name one (p ∷ path) (c ∷ whole) parts is =
    let heads : name c ≡ name p = cc in
    let tails : map name whole ≡ map name path ++ parts = cc in
    let (rest, rest_is, whole_is) = split_renamed name one path whole parts tails in
    (rest, rest_is, λ i. one c p heads i ∷ whole_is i)

-- with one part, by its name
renamed_part : {C D : Type 0} (name : C → D) (path : List C) (part : D) → map name path ≡ part ∷ [] → (last : C) × (name last ≡ part)
renamed_part name [] part is = cc
renamed_part name (c ∷ path) part is = let head : name c ≡ part = cc in (c, head)

module _ (dump : DumpValue) (is_dump : IsDump dump) where
  -- different numbers have different names
  same_number : (a b : NameId) → name dump is_dump a ≡ name dump is_dump b → a ≡ b
  same_number a b same = ap (λ number. record { 0 = number }) (name_of-same is_dump.names a.0 b.0 same)

  abbrev tree_by_number : ℕ → Tree NameId ValueId
  tree_by_number rev = tree_of (trees_by_number dump is_dump) rev

  -- the tree of a revision, by bytes
  tree-renamed : (rev : ℕ) → tree_of (trees_in_bytes dump) rev ≡ rename_tree (name dump is_dump) (text dump is_dump) (tree_by_number rev)
  tree-renamed rev =
      ap (λ all. tree_of all rev) (trees-renamed dump is_dump) ∙ tree_of-rename (name dump is_dump) (text dump is_dump) (trees_by_number dump is_dump) rev

  -- a path in it, by bytes, is that of numbers
  number_path : (rev : ℕ) (parts : List (List ℕ)) (entry : Entry (List ℕ) (List ℕ)) → entry_at bytes_eq (tree_of (trees_in_bytes dump) rev) parts ≡ Some entry
      → (path : List NameId) × (components_of dump.names path ≡ parts)
  number_path rev parts entry at =
      renamed_path (name dump is_dump) (text dump is_dump) bytes_eq IsSame-bytes_eq (tree_by_number rev) parts entry
      (ap (λ tree. entry_at bytes_eq tree parts) (sym (tree-renamed rev)) ∙ at)

  -- what stands at a path, by bytes
  pub standing-in_bytes : (path : List NameId) (rev : ℕ)
      → standing_in dump rev (components_of dump.names path) ≡ option_map (with_text (text dump is_dump)) (standing_at same_name (tree_by_number rev) path)
  standing-in_bytes path rev =
      ap (λ tree. standing_at bytes_eq tree (map (name dump is_dump) path)) (tree-renamed rev)
      ∙ ap (option_map entry_standing) (entry_at-rename (name dump is_dump) (text dump is_dump) same_name bytes_eq (alike dump is_dump) (tree_by_number rev) path)
      ∙ by (entry_at same_name (tree_by_number rev) path)
    where
      by : (entry : Option (Entry NameId ValueId)) → option_map entry_standing (option_map (rename_entry (name dump is_dump) (text dump is_dump)) entry)
          ≡ option_map (with_text (text dump is_dump)) (option_map entry_standing entry)
      by None = refl
      by (Some entry) = refl

  -- of what is kept of it
  pub entry-in_bytes : (path : List NameId) (rev : ℕ) (entry : Option kept.Entry) → option_map entry_view entry ≡ standing_at same_name (revision_in dump rev) path
      → option_map (standing_in_bytes dump) entry ≡ standing_in dump rev (components_of dump.names path)
  entry-in_bytes path rev entry is = by entry ∙ ap (option_map (with_text (text dump is_dump))) is ∙ sym (standing-in_bytes path rev)
    where
      by : (entry : Option kept.Entry) → option_map (standing_in_bytes dump) entry ≡ option_map (with_text (text dump is_dump)) (option_map entry_view entry)
      by None = refl
      by (Some entry) = refl

  -- nothing stands past the youngest revision
  pub standing-past : (parts : List (List ℕ)) (rev : ℕ) → length dump.counts ≤ rev → standing_in dump rev parts ≡ None
  standing-past parts rev past =
      ap (λ tree. standing_at bytes_eq tree parts) (tree_of_past (trees_in_bytes dump) rev (omega (arith, past, length-trees_in_bytes dump is_dump)))
      ∙ ap (option_map entry_standing) (entry_at-nil bytes_eq parts)

  -- ---- directly below a path

  abbrev by_number : ℕ → List NameId → Option (Standing ValueId)
  by_number rev path = standing_at same_name (revision_in dump rev) path

  -- the kinds are the same
  kind-in_bytes : (path : List NameId) (rev : ℕ) (id : NameId) → kind_below_in dump rev path (name dump is_dump id) ≡ kind_below (by_number rev) path id
  kind-in_bytes path rev id =
      ap (λ parts. option_map (λ (each : Standing (List ℕ)). each.kind) (standing_in dump rev parts)) (sym (map-append (name dump is_dump) path (id ∷ [])))
      ∙ ap (option_map (λ (each : Standing (List ℕ)). each.kind)) (standing-in_bytes (path ++ id ∷ []) rev)
      ∙ by (by_number rev (path ++ id ∷ []))
    where
      by : (standing : Option (Standing ValueId))
          → option_map (λ (each : Standing (List ℕ)). each.kind) (option_map (with_text (text dump is_dump)) standing) ≡ option_map (λ (each : Standing ValueId). each.kind) standing
      by None = refl
      by (Some standing) = refl

  -- a name at which something stands is one of the dump's
  named-below : (path : List NameId) (rev : ℕ) (id : NameId) (kind : Kind) → kind_below (by_number rev) path id ≡ Some kind → id.0 < length dump.names
  named-below path rev id kind stands = by (entry_at same_name (tree_by_number rev) (path ++ id ∷ [])) refl stands
    where
      by : (entry : Option (Entry NameId ValueId)) → entry_at same_name (tree_by_number rev) (path ++ id ∷ []) ≡ entry
          → option_map (λ (each : Standing ValueId). each.kind) (option_map entry_standing entry) ≡ Some kind
          → id.0 < length dump.names
      by None at stands = cc
      by (Some entry) at stands =
          All-contains (λ (each : NameId). each.0 < length dump.names) (path ++ id ∷ []) id (IsOf-entry dump is_dump (path ++ id ∷ []) rev entry at) (Contains-push path id)

  -- a name in bytes at which something stands is that of a number
  number-below : (path : List NameId) (rev : ℕ) (part : List ℕ) (kind : Kind) → kind_below_in dump rev path part ≡ Some kind → (id : NameId) × (name dump is_dump id ≡ part)
  number-below path rev part kind stands = by (entry_at bytes_eq (tree_of (trees_in_bytes dump) rev) parts) refl stands
    where
      parts : List (List ℕ)
      parts = components_of dump.names path ++ part ∷ []

      by : (entry : Option (Entry (List ℕ) (List ℕ))) → entry_at bytes_eq (tree_of (trees_in_bytes dump) rev) parts ≡ entry
          → option_map (λ (each : Standing (List ℕ)). each.kind) (option_map entry_standing entry) ≡ Some kind
          → (id : NameId) × (name dump is_dump id ≡ part)
      by None at stands = cc
      by (Some entry) at stands =
          let (whole, spells) = number_path rev parts entry at in
          let (rest, rest_is, _) = split_renamed (name dump is_dump) same_number path whole (part ∷ []) spells in
          renamed_part (name dump is_dump) rest part rest_is

  -- so the children by numbers are those by bytes
  pub AreChildrenIn-children : (path : List NameId) (rev : ℕ) (children : List Child) → AreChildren (by_number rev) path children → AreChildrenIn dump path rev children
  AreChildrenIn-children path rev children are = record {
    of_names = λ k d within.
        let child = get_or children k d in
        named-below path rev child.name child.kind (are.sound child (Contains-get_or children k d within));
    distinct = λ i j d less within same. are.distinct i j d less within (same_number (get_or children i d).name (get_or children j d).name same);
    sound = λ child has. kind-in_bytes path rev child.name ∙ are.sound child has;
    complete = λ part kind stands.
        let (id, is) = number-below path rev part kind stands in
        let there : kind_below (by_number rev) path id ≡ Some kind =
        sym (kind-in_bytes path rev id) ∙ ap (kind_below_in dump rev path) is ∙ stands in
        let small : id.0 < 2 ^ 32 = omega (arith, named-below path rev id kind there, is_dump.few_names) in
        (record { name = id; kind = kind }, are.complete id kind small there, is, refl);
  }

  -- and there are none past the youngest revision
  pub AreChildrenIn-past : (path : List NameId) (rev : ℕ) → length dump.counts ≤ rev → AreChildrenIn dump path rev []
  AreChildrenIn-past path rev past = record {
    of_names = λ k d within. absurd (omega (arith, within));
    distinct = λ i j d less within. absurd (omega (arith, within));
    sound = λ child has. absurd (omega (arith, has.1));
    complete = λ part kind stands.
        let none = standing-past (components_of dump.names path ++ part ∷ []) rev past in
        let never : None ≡ Some kind = sym (ap (option_map (λ (each : Standing (List ℕ)). each.kind)) none) ∙ stands in
        cc;
  }

  -- ---- mergeinfo below a path

  -- where the numbers have none the bytes have none
  pub HasNoMergeinfoBelow-none : (path : List NameId) (rev : ℕ) → ((name : NameId) (rest : List NameId) → own_mergeinfo_at same_name (revision_in dump rev) (path ++ name ∷ rest) ≡ None)
      → HasNoMergeinfoBelow dump path rev
  HasNoMergeinfoBelow-none path rev none = λ part more.
      by part more (entry_at bytes_eq (tree_of (trees_in_bytes dump) rev) (components_of dump.names path ++ part ∷ more)) refl
    where
      at_numbers : (part : List ℕ) (more : List (List ℕ)) (numbers : List NameId) → map (name dump is_dump) numbers ≡ part ∷ more
          → own_mergeinfo_at same_name (revision_in dump rev) (path ++ numbers) ≡ None
      at_numbers part more [] is = cc
      at_numbers part more (number ∷ numbers) is = none number numbers

      by : (part : List ℕ) (more : List (List ℕ)) (entry : Option (Entry (List ℕ) (List ℕ)))
          → entry_at bytes_eq (tree_of (trees_in_bytes dump) rev) (components_of dump.names path ++ part ∷ more) ≡ entry
          → own_mergeinfo bytes_eq (tree_of (trees_in_bytes dump) rev) (components_of dump.names path ++ part ∷ more) ≡ None
      by part more None at = ap (option_and_then (λ (each : Entry (List ℕ) (List ℕ)). each.mergeinfo)) at
      by part more (Some entry) at =
          let rest = part ∷ more in
          let (whole, spells) = number_path rev (components_of dump.names path ++ rest) entry at in
          let (numbers, numbers_are, whole_is) = split_renamed (name dump is_dump) same_number path whole rest spells in
          ap (λ tree. own_mergeinfo bytes_eq tree (components_of dump.names path ++ rest)) (tree-renamed rev)
          ∙ ap (own_mergeinfo bytes_eq (rename_tree (name dump is_dump) (text dump is_dump) (tree_by_number rev))) (sym spells ∙ ap (map (name dump is_dump)) whole_is)
          ∙ own_mergeinfo-rename (name dump is_dump) (text dump is_dump) same_name bytes_eq (alike dump is_dump) (tree_by_number rev) (path ++ numbers)
          ∙ ap (option_map (text dump is_dump)) (sym (own_mergeinfo-standing same_name (tree_by_number rev) (path ++ numbers)) ∙ at_numbers part more numbers numbers_are)

  -- and there is none past the youngest revision
  pub HasNoMergeinfoBelow-past : (path : List NameId) (rev : ℕ) → length dump.counts ≤ rev → HasNoMergeinfoBelow dump path rev
  HasNoMergeinfoBelow-past path rev past = λ part more.
      let rest = part ∷ more in
      ap (λ tree. own_mergeinfo bytes_eq tree (components_of dump.names path ++ rest))
      (tree_of_past (trees_in_bytes dump) rev (omega (arith, past, length-trees_in_bytes dump is_dump)))
      ∙ ap (option_and_then (λ (each : Entry (List ℕ) (List ℕ)). each.mergeinfo)) (entry_at-nil bytes_eq (components_of dump.names path ++ rest))
