-- What holds of the lives of a path, of whatever history.
use Rattle.std.specs.Prelude.{◌≡◌, ℕ, ◌<◌, Bool, ◌&&◌, List, AllPairs, bytes_eq, nat_le}
use Rattle.std.specs.List.{list_any}
use Rattle.svn_dump.specs.Tree.{is_there, tree_of}
use Rattle.query_answer.specs.Answer.{TreesOfBytes}
use Rattle.branch_answer.specs.Life.{Life, PathOfBytes, lives_of}

-- the revision is one of the life's
abbrev pub has_revision : ℕ → Life → Bool
has_revision rev life = nat_le life.first rev && nat_le rev life.last

-- no two of them share a revision, and together they are the revisions up to the top in which the path is there
pub record AreLives (trees : TreesOfBytes) (path : PathOfBytes) (top : ℕ) (lives : List Life) : Type 0 where
  pub apart : AllPairs (λ newer older. older.last < newer.first) lives
  pub whole : (rev : ℕ) → list_any (has_revision rev) lives ≡ (nat_le rev top && is_there bytes_eq (tree_of trees rev) path)

-- so it is for each path, up to each revision
abbrev pub HaveLives : TreesOfBytes → Type 0
HaveLives trees = (path : PathOfBytes) (top : ℕ) → AreLives trees path top (lives_of trees path top)
