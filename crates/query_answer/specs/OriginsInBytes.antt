-- Where the paths of a dump came from, in bytes (Subversion book, "Copying branches").
use Rattle.std.specs.Prelude.{◌≡◌, ℕ, ◌<◌, ◌≤◌, pred, List, Option, Some, IsTrue, bytes_eq, option_map}
use Rattle.svn_path.specs.Path.{components_of}
use Rattle.svn_path.specs.declared.names.NameId.{NameId}
use Rattle.svn_dump.specs.Dump.{DumpValue}
use Rattle.svn_dump.specs.Location.{origin_of}
use Rattle.svn_dump.specs.Tree.{is_there, tree_of}
use Rattle.svn_dump.specs.declared.record.Origin.{Origin}
use Rattle.query_answer.specs.Repo.{trees_in_bytes}

-- the path is in the tree of the revision
abbrev pub IsThereIn : DumpValue → List NameId → ℕ → Type 0
IsThereIn dump path rev = IsTrue (is_there bytes_eq (tree_of (trees_in_bytes dump) rev) (components_of dump.names path))

-- where the path of a revision came from
abbrev pub origin_of_path : DumpValue → List NameId → ℕ → Option (List (List ℕ) × ℕ)
origin_of_path dump path rev = origin_of bytes_eq (trees_in_bytes dump) (components_of dump.names path) rev

-- an origin by the names of the dump
abbrev pub origin_in_bytes : DumpValue → Option Origin → Option (List (List ℕ) × ℕ)
origin_in_bytes dump origin = option_map (λ from. (components_of dump.names from.path, from.rev)) origin

-- after `from` and up to `to`, a path that is there was there in the revision before, from which it came
abbrev pub KeepsPathIn : DumpValue → List NameId → ℕ → ℕ → Type 0
KeepsPathIn dump path from to =
    (later : ℕ) → from < later → later ≤ to → IsThereIn dump path later
    → IsThereIn dump path (pred later)
    × (origin_of_path dump path later ≡ Some (components_of dump.names path, pred later))
