-- The copies of a dump.
use Rattle.std.specs.Prelude.{ℕ, List}
use Rattle.svn_path.specs.Path.{IsPathOf}
use Rattle.path_index.specs.declared.copied.Copied.{Copied}

-- both paths of a copy are of these names
pub record IsCopyOf (names : List (List ℕ)) (copied : Copied) : Type 0 where
  pub to : IsPathOf names copied.to
  pub from : IsPathOf names copied.from
