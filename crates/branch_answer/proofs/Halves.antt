-- How far a search for a life of a path has come.
use Rattle.std.proofs.Common.{◌≡◌, ℕ, ◌<◌, ◌≤◌, true, false, List}
use Rattle.svn_path.specs.declared.names.NameId.{NameId}
use Rattle.svn_dump.specs.Dump.{DumpValue}
use Rattle.branch_answer.specs.Presence.{IsGone, is_present, lives_on_in}

-- between two revisions of the search the path goes, and it is gone from the second one on
pub record AreHalves (dump : DumpValue) (path : List NameId) (first last with without : ℕ) : Type 0 where
  pub low : first ≤ with
  pub ordered : with < without
  pub high : without ≤ last
  pub there : is_present dump path with ≡ true
  pub not_there : is_present dump path without ≡ false
  pub gone : IsGone dump path without last

-- the path is in none of the revisions after this one
pub record IsDownTo (dump : DumpValue) (path : List NameId) (top at : ℕ) : Type 0 where
  pub within : at ≤ top
  pub gone : IsGone dump path at top

-- the path is there in this revision and lives on from it
pub record IsLivingFrom (dump : DumpValue) (path : List NameId) (last rev : ℕ) : Type 0 where
  pub within : rev ≤ last
  pub there : is_present dump path rev ≡ true
  pub on : (each : ℕ) → rev < each → each ≤ last → lives_on_in dump path each ≡ true
