-- How the paths with mergeinfo of their own are found, one level of a tree after another.
use Rattle.std.specs.Prelude.{◌≡◌, ℕ, ◌<◌, true, Bool, All, List, [], ◌∷◌, ◌++◌, bytes_eq, is_some, length}
use Rattle.std.specs.List.{Contains}
use Rattle.svn_path.specs.Path.{IsPathOf, components_of}
use Rattle.svn_path.specs.declared.names.NameId.{NameId}
use Rattle.svn_dump.specs.Dump.{DumpValue}
use Rattle.svn_dump.specs.Tree.{is_there, tree_of}
use Rattle.query_answer.specs.Effective.{own_mergeinfo}
use Rattle.query_answer.specs.Repo.{trees_in_bytes}
use Rattle.branch_answer.specs.KeptExplicit.{HasOwnText, own_text}
use Rattle.branch_answer.specs.Life.{PathOfBytes}
use Rattle.branch_answer.specs.Presence.{is_present}

-- whether a path has mergeinfo of its own
abbrev pub has_own_text : DumpValue → ℕ → List NameId → Bool
has_own_text dump rev path = is_some (own_text dump rev path)

-- so for a path in bytes
abbrev pub has_own_at : DumpValue → ℕ → PathOfBytes → Bool
has_own_at dump rev parts = is_some (own_mergeinfo bytes_eq (tree_of (trees_in_bytes dump) rev) parts)

-- one of the paths has these components
abbrev pub HasPath : List (List ℕ) → List (List NameId) → PathOfBytes → Type 0
HasPath names paths parts = (path : List NameId) × Contains paths path × (components_of names path ≡ parts)

-- ---- one level below another

-- the path stands directly below another one
pub record IsChildIn (dump : DumpValue) (rev : ℕ) (path child : List NameId) : Type 0 where
  pub name : NameId
  pub is : child ≡ path ++ name ∷ []
  pub of_names : name.0 < length dump.names
  pub there : is_present dump child rev ≡ true

-- what stands directly below the path is among these, if it or a path below it has mergeinfo
abbrev pub HasOpen : DumpValue → ℕ → List NameId → List (List NameId) → Type 0
HasOpen dump rev path children =
    (name : List ℕ) (rest : PathOfBytes)
    → is_there bytes_eq (tree_of (trees_in_bytes dump) rev) (components_of dump.names path ++ name ∷ []) ≡ true
    → has_own_at dump rev (components_of dump.names path ++ name ∷ rest) ≡ true
    → HasPath dump.names children (components_of dump.names path ++ name ∷ [])

-- these stand directly below the path, and all that have mergeinfo at or below them are among them
pub record AreOpen (dump : DumpValue) (rev : ℕ) (path : List NameId) (children : List (List NameId)) : Type 0 where
  pub sound : All (IsChildIn dump rev path) children
  pub complete : HasOpen dump rev path children

-- it stands directly below one of these paths
abbrev pub IsChildOfAny : DumpValue → ℕ → List (List NameId) → List NameId → Type 0
IsChildOfAny dump rev level child = (path : List NameId) × Contains level path × IsChildIn dump rev path child

-- so for each path of a level
pub record AreOpenBelow (dump : DumpValue) (rev : ℕ) (level next : List (List NameId)) : Type 0 where
  pub sound : All (IsChildOfAny dump rev level) next
  pub complete : All (λ path. HasOpen dump rev path next) level

-- ---- all levels

-- the path is at or below another one, and has mergeinfo of its own
pub record IsFoundIn (dump : DumpValue) (path : List NameId) (rev : ℕ) (one : List NameId) : Type 0 where
  pub rest : List NameId
  pub is : one ≡ path ++ rest
  pub of_names : IsPathOf dump.names one
  pub own : HasOwnText dump rev one

-- these are such paths, and all of them
pub record AreFoundIn (dump : DumpValue) (path : List NameId) (rev : ℕ) (found : List (List NameId)) : Type 0 where
  pub sound : All (IsFoundIn dump path rev) found
  pub complete : (rest : PathOfBytes) → has_own_at dump rev (components_of dump.names path ++ rest) ≡ true
      → HasPath dump.names found (components_of dump.names path ++ rest)
