-- Where the node at a path went: the paths of a later revision that stood there once (Subversion book, "Peg and operative
-- revisions", "Copying branches").
use Rattle.std.specs.Prelude.{ℕ, Bool, false, List, Option, None, Some, bytes_eq, filter, map}
use Rattle.svn_path.specs.Below.{same_path}
use Rattle.svn_path.specs.Components.{path_text}
use Rattle.svn_dump.specs.Location.{location}
use Rattle.svn_dump.specs.Tree.{tree_of}
use Rattle.query_answer.specs.Answer.{TreesOfBytes}
use Rattle.query_answer.specs.Peg.{Peg}
use Rattle.branch_answer.specs.Life.{PathOfBytes}
use Rattle.branch_answer.specs.TextOrder.{sorted_by_text}

abbrev pub is_path : PathOfBytes → Option PathOfBytes → Bool
is_path path None = false
is_path path (Some other) = same_path bytes_eq other path

-- the path of a revision stood at the place of a peg
abbrev pub stood_at : TreesOfBytes → Peg → ℕ → PathOfBytes → Bool
stood_at trees peg rev path = is_path peg.path (location bytes_eq trees path rev peg.rev)

abbrev pub with_text_of_path : PathOfBytes → List ℕ × PathOfBytes
with_text_of_path path = (path_text path, path)

-- the paths of a revision that stood at the place of a peg, in the order of the bytes of their texts
unfoldable pub descendants_of : TreesOfBytes → Peg → ℕ → List (List ℕ)
descendants_of trees peg rev =
    map (λ each. each.0)
    (sorted_by_text (map with_text_of_path (filter (stood_at trees peg rev) (map (λ each. each.0) (tree_of trees rev)))))
