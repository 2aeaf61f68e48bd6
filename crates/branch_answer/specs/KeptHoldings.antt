-- How a path holds neighbouring revisions, as it is kept, and how marks change it.
use Rattle.std.specs.Prelude.{◌≡◌, ℕ, suc, ◌+◌, ◌<◌, ◌≤◌, nat_le, ◌==◌, Bool, false, ◌&&◌, List, [], ◌∷◌, ◌++◌, Option, Some, None, length, map, if◌then◌else◌}
use Rattle.std.specs.List.{list_any}
use Rattle.svn_text.specs.Line.{line_text}
use Rattle.svn_path.specs.Components.{path_text}
use Rattle.svn_path.specs.Path.{components_of}
use Rattle.svn_path.specs.declared.names.NameId.{NameId}
use Rattle.range_list.specs.Rangelist.{is_in}
use Rattle.range_list.specs.declared.run.Run.{Run}
use Rattle.branch_answer.specs.Holding.{Holding, held_line}
use Rattle.branch_answer.specs.KeptHolding.{holding_view, stronger}
use Rattle.branch_answer.specs.declared.holding.Holding.{Holding as KeptHolding}
use Rattle.branch_answer.specs.declared.holding.Holding.TheVariants.{Not}
use Rattle.branch_answer.specs.declared.holdings.Holdings.{Holdings}

-- a mark for each revision
abbrev pub Mark : Type 0
Mark = ℕ → KeptHolding

-- the revisions from one on, each with its mark
unfoldable pub marked : Mark → ℕ → List KeptHolding → List KeptHolding
marked mark rev [] = []
marked mark rev (how ∷ others) = stronger how (mark rev) ∷ marked mark (suc rev) others

-- the same revisions, each with its mark
pub record AreMarked (old new : Holdings) (mark : Mark) : Type 0 where
  pub first : new.first ≡ old.first
  pub how : new.how.items ≡ marked mark old.first old.how.items

-- a mark for the revisions of a list
abbrev pub mark_of : List ℕ → Mark → Mark
mark_of revs mark rev = if list_any (λ each. each == rev) revs then mark rev else Not

-- ---- a part of the revisions

abbrev pub is_in_part : Option (ℕ × ℕ) → ℕ → Bool
is_in_part None rev = false
is_in_part (Some part) rev = nat_le part.0 rev && nat_le rev part.1

-- the revision is among them
pub record IsAmong (holdings : Holdings) (rev : ℕ) : Type 0 where
  pub from : holdings.first ≤ rev
  pub below : rev < holdings.first + length holdings.how.items

-- the part is among them, if there is one
pub record IsPartOf (holdings : Holdings) (part : ℕ × ℕ) : Type 0 where
  pub ordered : part.0 ≤ part.1
  pub from : holdings.first ≤ part.0
  pub below : part.1 < holdings.first + length holdings.how.items

-- the runs have those of the revisions alone that are in the part
abbrev pub HoldsRuns : Holdings → List Run → Option (ℕ × ℕ) → Type 0
HoldsRuns holdings runs part = (rev : ℕ) → IsAmong holdings rev → is_in_part part rev ≡ false → is_in runs rev ≡ false

-- ---- lines

-- the texts of paths
abbrev pub texts_of : List (List ℕ) → List (List NameId) → List (List ℕ)
texts_of names paths = map (λ path. path_text (components_of names path)) paths

abbrev pub held_text : ℕ → Option Holding → List ℕ
held_text rev None = []
held_text rev (Some how) = line_text (held_line (rev, how))

-- the lines of the revisions from one on, the newest first
unfoldable pub held_from : ℕ → List (Option Holding) → List ℕ
held_from rev [] = []
held_from rev (how ∷ others) = held_from (suc rev) others ++ held_text rev how

-- those of kept ones, given the texts of the paths below
abbrev pub holdings_text : List (List ℕ) → ℕ → List KeptHolding → List ℕ
holdings_text below first how = held_from first (map (holding_view below) how)
