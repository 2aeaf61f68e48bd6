-- Paths with mergeinfo of their own as they are kept, by the names of a dump.
use Rattle.std.specs.Prelude.{◌≡◌, ℕ, All, List, [], Option, Some, map, unwrap_or}
use Rattle.svn_path.specs.Components.{path_text}
use Rattle.svn_path.specs.Path.{IsPathOf, components_of}
use Rattle.svn_path.specs.declared.names.NameId.{NameId}
use Rattle.svn_dump.specs.Dump.{DumpValue}
use Rattle.svn_dump.specs.Tree.{tree_of}
use Rattle.query_answer.specs.Repo.{trees_in_bytes}
use Rattle.query_answer.specs.Standings.{own_text_in}
use Rattle.branch_answer.specs.Explicit.{explicit_of, lines_of_path}
use Rattle.branch_answer.specs.QuestionAnswer.{lines_text}

-- the text of the mergeinfo of a path, if it has some of its own
abbrev pub own_text : DumpValue → ℕ → List NameId → Option (List ℕ)
own_text dump rev path = own_text_in dump rev (components_of dump.names path)

abbrev pub HasOwnText : DumpValue → ℕ → List NameId → Type 0
HasOwnText dump rev path = (text : List ℕ) × (own_text dump rev path ≡ Some text)

-- the text of a path, and that of its mergeinfo
abbrev pub explicit_text : DumpValue → ℕ → List NameId → List ℕ × List ℕ
explicit_text dump rev path = (path_text (components_of dump.names path), unwrap_or (own_text dump rev path) [])

-- the text of the lines of a path
abbrev pub own_lines : DumpValue → ℕ → List NameId → List ℕ
own_lines dump rev path = lines_text (lines_of_path (explicit_text dump rev path))

-- these are the paths at and below a path of a revision that have mergeinfo of their own, in the order of their bytes
pub record AreExplicitIn (dump : DumpValue) (path : List NameId) (rev : ℕ) (paths : List (List NameId)) : Type 0 where
  pub of_names : All (IsPathOf dump.names) paths
  pub own : All (HasOwnText dump rev) paths
  pub are : explicit_of (tree_of (trees_in_bytes dump) rev) (components_of dump.names path) ≡ map (explicit_text dump rev) paths
