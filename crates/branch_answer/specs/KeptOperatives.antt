-- The operative revisions of several paths, as they are kept.
use Rattle.std.specs.Prelude.{◌≡◌, ℕ, ◌+◌, ◌<◌, ◌≤◌, All, List, ◌++◌, Some, IsSome, length}
use Rattle.std.specs.BTreeMap as map
use Rattle.std.specs.Cmp.Lexicographic.{slice_cmp}
use Rattle.std.specs.Global.{Vec}
use Rattle.svn_path.specs.PathOrder.{name_cmp}
use Rattle.svn_path.specs.declared.names.NameId.{NameId}
use Rattle.svn_dump.specs.Dump.{DumpValue}
use Rattle.branch_answer.specs.HeldRevisions.{count_in}
use Rattle.branch_answer.specs.Operative.{operative_from_to}
use Rattle.branch_answer.specs.declared.holdings.Holdings.{Holdings}
use Rattle.branch_answer.specs.declared.operatives.Operatives.{Operatives}

-- ---- the list of a path

abbrev pub IsListOf : Operatives → List NameId → Vec ℕ → Type 0
IsListOf operatives path revs = map.get (slice_cmp name_cmp) operatives.by_path path ≡ Some revs

abbrev pub HasList : Operatives → List NameId → Type 0
HasList operatives path = IsSome (map.get (slice_cmp name_cmp) operatives.by_path path)

-- ---- those of a dump

-- each list has the operative revisions of its path in the range, all of which the dump has
pub record AreOperativesOf (dump : DumpValue) (operatives : Operatives) : Type 0 where
  pub within : operatives.range.1 < length dump.counts
  pub lists : (path : List NameId) (revs : Vec ℕ) → IsListOf operatives path revs
      → revs.items ≡ operative_from_to dump path operatives.range.0 operatives.range.1

-- and so many revisions, from a first one on, are in the range
pub record AreOperativesFrom (dump : DumpValue) (first count : ℕ) (operatives : Operatives) : Type 0 where
  pub kept : AreOperativesOf dump operatives
  pub from : 0 < count → operatives.range.0 ≤ first
  pub to : 0 < count → first + count ≤ operatives.range.1 + 1

-- those of a range that the dump has
abbrev pub AreOperativesIn : DumpValue → ℕ × ℕ → Operatives → Type 0
AreOperativesIn dump range operatives = AreOperativesFrom dump range.0 (count_in dump range) operatives

-- those of which it is kept how they are held
abbrev pub AreOperativesFor : DumpValue → Holdings → Operatives → Type 0
AreOperativesFor dump holdings operatives = AreOperativesFrom dump holdings.first (length holdings.how.items) operatives

-- ---- a part of a list

-- the first revisions are above `hi`, the next ones from `lo` to `hi`, and the last ones below `lo`
pub record AreCutAt (lo hi : ℕ) (newer among older : List ℕ) : Type 0 where
  pub ordered : lo ≤ hi
  pub above : All (λ rev. hi < rev) newer
  pub from : All (λ rev. lo ≤ rev) among
  pub to : All (λ rev. rev ≤ hi) among
  pub below : All (λ rev. rev < lo) older

-- where a list is cut so, these are its revisions from `lo` to `hi`
abbrev pub AreFromTo : List ℕ → ℕ → ℕ → List ℕ → Type 0
AreFromTo all lo hi revs =
    (newer among older : List ℕ) → AreCutAt lo hi newer among older → all ≡ newer ++ (among ++ older) → revs ≡ among

-- whichever dump the lists are of, these are its operative revisions of the path from `lo` to `hi`
abbrev pub IsPartOfList : Operatives → List NameId → ℕ → ℕ → List ℕ → Type 0
IsPartOfList operatives path lo hi revs =
    (dump : DumpValue) → AreOperativesOf dump operatives → revs ≡ operative_from_to dump path lo hi
