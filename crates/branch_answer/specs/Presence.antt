-- In which revisions a path of the dump is there, and where its lives begin and end.
use Rattle.std.specs.Prelude.{◌≡◌, ℕ, ◌+◌, ◌<◌, ◌≤◌, Bool, true, false, Option, Some, None, IfSome, List, bytes_eq, length, option_map}
use Rattle.svn_path.specs.Path.{IsPathOf, components_of}
use Rattle.svn_path.specs.declared.names.NameId.{NameId}
use Rattle.svn_dump.specs.Dump.{DumpValue, IsDump}
use Rattle.svn_dump.specs.Location.{origin_of}
use Rattle.svn_dump.specs.Tree.{is_there, tree_of}
use Rattle.svn_dump.specs.declared.record.Kind.{Kind}
use Rattle.svn_dump.specs.declared.record.Origin.{Origin}
use Rattle.query_answer.specs.OriginsInBytes.{KeepsPathIn, origin_in_bytes}
use Rattle.query_answer.specs.Repo.{trees_in_bytes}
use Rattle.query_answer.specs.Standings.{standing_in}
use Rattle.branch_answer.specs.KeptLife.{HasPathsOf, life_in_bytes}
use Rattle.branch_answer.specs.Life.{life_at, lives_on}
use Rattle.branch_answer.specs.declared.life.Life.{Life}

-- the dump is one, and has the revision and the names of the path
pub record IsKnownPath (dump : DumpValue) (path : List NameId) (rev : ℕ) : Type 0 where
  pub kept : IsDump dump
  pub of_names : IsPathOf dump.names path
  pub within : rev < length dump.counts

abbrev pub is_present : DumpValue → List NameId → ℕ → Bool
is_present dump path rev = is_there bytes_eq (tree_of (trees_in_bytes dump) rev) (components_of dump.names path)

abbrev pub lives_on_in : DumpValue → List NameId → ℕ → Bool
lives_on_in dump path rev = lives_on (trees_in_bytes dump) (components_of dump.names path) rev

-- after `from` and up to `to` the path is not there
abbrev pub IsGone : DumpValue → List NameId → ℕ → ℕ → Type 0
IsGone dump path from to = (rev : ℕ) → from < rev → rev ≤ to → is_present dump path rev ≡ false

-- the newest revision up to this one that has the path
pub record IsNewest (dump : DumpValue) (path : List NameId) (rev last : ℕ) : Type 0 where
  pub within : last ≤ rev
  pub there : is_present dump path last ≡ true
  pub gone : IsGone dump path last rev

-- the newest one that is not before `lo`, if there is one
abbrev pub IsNewestWith : DumpValue → List NameId → ℕ → ℕ → Option ℕ → Type 0
IsNewestWith dump path lo rev None = (each : ℕ) → lo ≤ each → each ≤ rev → is_present dump path each ≡ false
IsNewestWith dump path lo rev (Some last) = (lo ≤ last) × IsNewest dump path rev last

-- the path is there in the first of two revisions and not in the second one, and does not come back between them
pub record GoesBetween (dump : DumpValue) (path : List NameId) (with without : ℕ) : Type 0 where
  pub known : IsKnownPath dump path without
  pub ordered : with < without
  pub there : is_present dump path with ≡ true
  pub not_there : is_present dump path without ≡ false
  pub keeps : KeepsPathIn dump path with without

-- the path of the revision is there
pub record IsThereIn (dump : DumpValue) (path : List NameId) (rev : ℕ) : Type 0 where
  pub known : IsKnownPath dump path rev
  pub there : is_present dump path rev ≡ true

-- the path of the revision is there, and has this kind
abbrev pub HasKindIn : DumpValue → List NameId → ℕ → Kind → Type 0
HasKindIn dump path rev kind = option_map (λ each. each.kind) (standing_in dump rev (components_of dump.names path)) ≡ Some kind

-- the life of the path of a revision begins in `first`, and the path came from there
pub record IsFirstOfLife (dump : DumpValue) (path : List NameId) (rev first : ℕ) (origin : Option Origin) : Type 0 where
  pub within : first ≤ rev
  pub there : is_present dump path first ≡ true
  pub on : (each : ℕ) → first < each → each ≤ rev → lives_on_in dump path each ≡ true
  pub begins : lives_on_in dump path first ≡ false
  pub origin_is : origin_in_bytes dump origin ≡ origin_of bytes_eq (trees_in_bytes dump) (components_of dump.names path) first
  pub of_names : IfSome origin (λ from. IsPathOf dump.names from.path)

-- a life of the path, up to the top, ends in this revision
pub record IsLastOfLife (dump : DumpValue) (path : List NameId) (last top : ℕ) : Type 0 where
  pub known : IsKnownPath dump path top
  pub within : last ≤ top
  pub there : is_present dump path last ≡ true
  pub ends : last < top → lives_on_in dump path (last + 1) ≡ false

-- this is that life
pub record IsLifeIn (dump : DumpValue) (path : List NameId) (last top : ℕ) (life : Life) : Type 0 where
  pub of_names : HasPathsOf dump.names life
  pub within : life.first ≤ last
  pub is : life_at (trees_in_bytes dump) (components_of dump.names path) top life.first ≡ Some (life_in_bytes dump.names life)
  pub on : (each : ℕ) → life.first < each → each ≤ last → lives_on_in dump path each ≡ true
  pub begins : lives_on_in dump path life.first ≡ false
