-- Descendants and locations lead to each other, in whatever history.
use Rattle.std.specs.Prelude.{◌≡◌, ◌↔◌, ℕ, List, Some, bytes_eq, true}
use Rattle.std.specs.List.{Contains}
use Rattle.svn_path.specs.Components.{path_text}
use Rattle.svn_dump.specs.Location.{location}
use Rattle.svn_dump.specs.Tree.{is_there, tree_of}
use Rattle.query_answer.specs.Answer.{TreesOfBytes}
use Rattle.query_answer.specs.Peg.{Peg}
use Rattle.branch_answer.specs.Descendants.{descendants_of}
use Rattle.branch_answer.specs.Life.{PathOfBytes}

-- it is the text of a path of the revision that was located at the path of the peg in the revision of the peg
pub record IsDescendant (trees : TreesOfBytes) (peg : Peg) (rev : ℕ) (text : List ℕ) : Type 0 where
  pub path : PathOfBytes
  pub text_is : path_text path ≡ text
  pub there : is_there bytes_eq (tree_of trees rev) path ≡ true
  pub located : location bytes_eq trees path rev peg.rev ≡ Some peg.path

-- the descendants of each peg in each revision are these
abbrev pub HaveDescendants : TreesOfBytes → Type 0
HaveDescendants trees =
    (peg : Peg) (rev : ℕ) (text : List ℕ) → Contains (descendants_of trees peg rev) text ↔ IsDescendant trees peg rev text
