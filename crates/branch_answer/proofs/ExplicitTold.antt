-- What is told of the paths with mergeinfo of their own.
use Rattle.std.proofs.Common.{◌≡◌, ◌∙◌, ℕ, List, [], ◌∷◌, ◌++◌, ap, flat_map, map, refl}
use Rattle.std.proofs.lemmas.List.Concat.{flat_map-append}
use Rattle.svn_text.specs.Line.{line_text}
use Rattle.svn_path.specs.declared.names.NameId.{NameId}
use Rattle.svn_dump.specs.Dump.{DumpValue}
use Rattle.branch_answer.specs.Explicit.{explicit_lines, lines_of_path}
use Rattle.branch_answer.specs.KeptExplicit.{explicit_text, own_lines}
use Rattle.branch_answer.specs.QuestionAnswer.{lines_text}

module _ (dump : DumpValue) (rev : ℕ) where
  -- the lines of all paths are those of each path, one after another
  pub lines_text-explicit : (paths : List (List NameId)) → lines_text (explicit_lines (map (explicit_text dump rev) paths)) ≡ flat_map (own_lines dump rev) paths
  lines_text-explicit [] = refl
  lines_text-explicit (path ∷ paths) =
      flat_map-append line_text (lines_of_path (explicit_text dump rev path)) (explicit_lines (map (explicit_text dump rev) paths))
      ∙ ap (λ text. own_lines dump rev path ++ text) (lines_text-explicit paths)
