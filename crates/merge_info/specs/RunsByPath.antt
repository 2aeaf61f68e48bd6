-- The runs of several lines by their paths, as a map.
use Rattle.std.specs.Prelude.{◌≡◌, ℕ, List, [], ◌∷◌, ◌++◌, All, map}
use Rattle.std.specs.BTreeMap.{BTreeMap}
use Rattle.std.specs.Global.{Vec}
use Rattle.range_list.specs.declared.run.Run.{Run}
use Rattle.merge_info.specs.Line.{IsLine, Line}
use Rattle.merge_info.specs.Value.{AreRising, runs_at}

abbrev pub RunsByPath : Type 0
RunsByPath = BTreeMap (Vec ℕ) (Vec Run)

-- the map as one line for each path
abbrev pub lines_in : RunsByPath → List Line
lines_in by_path = map (λ entry. record { path = entry.0.items; runs = entry.1.items }) by_path.entries

-- each path has the runs of all its lines, in their order
pub record AreRunsByPath (lines : List Line) (by_path : RunsByPath) : Type 0 where
  pub rising : AreRising (lines_in by_path)
  pub kept : All IsLine (lines_in by_path)
  pub same : (path : List ℕ) → runs_at (lines_in by_path) path ≡ runs_at lines path

-- the new map has the line after those of the old one
abbrev pub AddsLine : Line → RunsByPath → RunsByPath → Type 0
AddsLine line old new = (lines : List Line) → AreRunsByPath lines old → AreRunsByPath (lines ++ line ∷ []) new
