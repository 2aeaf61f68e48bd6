-- What stands at a path of a repository and directly below it, in bytes.
use Rattle.std.specs.List.{AllPairs, Contains}
use Rattle.std.specs.Prelude.{◌≡◌, ◌≢◌, ℕ, ◌<◌, All, List, [], ◌∷◌, ◌++◌, Option, None, Some, bytes_eq, false, length, option_map}
use Rattle.svn_path.specs.Names.{name_of}
use Rattle.svn_path.specs.Path.{components_of}
use Rattle.svn_path.specs.declared.names.NameId.{NameId}
use Rattle.svn_dump.specs.Dump.{DumpValue, text_of}
use Rattle.svn_dump.specs.Tree.{is_there, tree_of}
use Rattle.svn_dump.specs.declared.record.Kind.{Kind}
use Rattle.block_map.specs.Standing.{Standing, standing_at}
use Rattle.block_map.specs.declared.entry.Child.{Child}
use Rattle.block_map.specs.declared.entry.Entry.{Entry}
use Rattle.query_answer.specs.Effective.{own_mergeinfo}
use Rattle.query_answer.specs.Repo.{trees_in_bytes}

-- no revision has a path of these components
abbrev pub IsNowhere : DumpValue → List (List ℕ) → Type 0
IsNowhere dump parts = (rev : ℕ) → is_there bytes_eq (tree_of (trees_in_bytes dump) rev) parts ≡ false

-- no path below the path of the dump has mergeinfo in the revision
abbrev pub HasNoMergeinfoBelow : DumpValue → List NameId → ℕ → Type 0
HasNoMergeinfoBelow dump path rev =
    (name : List ℕ) (rest : List (List ℕ))
    → own_mergeinfo bytes_eq (tree_of (trees_in_bytes dump) rev) (components_of dump.names path ++ name ∷ rest) ≡ None

-- what is kept of it, with the text of the mergeinfo
abbrev pub standing_in_bytes : DumpValue → Entry → Standing (List ℕ)
standing_in_bytes dump entry = record { kind = entry.kind; mergeinfo = option_map (λ id. text_of dump.values id.0) entry.mi }

-- what stands at a path of these components in a revision: nothing past the youngest one
abbrev pub standing_in : DumpValue → ℕ → List (List ℕ) → Option (Standing (List ℕ))
standing_in dump rev parts = standing_at bytes_eq (tree_of (trees_in_bytes dump) rev) parts

-- the text of the mergeinfo that a path of these components has itself in a revision
abbrev pub own_text_in : DumpValue → ℕ → List (List ℕ) → Option (List ℕ)
own_text_in dump rev parts = own_mergeinfo bytes_eq (tree_of (trees_in_bytes dump) rev) parts

-- the kind of what stands at a name directly below a path of the dump in a revision
abbrev pub kind_below_in : DumpValue → ℕ → List NameId → List ℕ → Option Kind
kind_below_in dump rev path name = option_map (λ each. each.kind) (standing_in dump rev (components_of dump.names path ++ name ∷ []))

-- what stands directly below a path of the dump in a revision: each name once, with its kind
pub record AreChildrenIn (dump : DumpValue) (path : List NameId) (rev : ℕ) (children : List Child) : Type 0 where
  pub of_names : All (λ child. child.name.0 < length dump.names) children
  pub distinct : AllPairs (λ one other. name_of dump.names one.name.0 ≢ name_of dump.names other.name.0) children
  pub sound : (child : Child) → Contains children child → kind_below_in dump rev path (name_of dump.names child.name.0) ≡ Some child.kind
  pub complete : (name : List ℕ) (kind : Kind) → kind_below_in dump rev path name ≡ Some kind
      → (child : Child) × Contains children child × (name_of dump.names child.name.0 ≡ name) × (child.kind ≡ kind)
