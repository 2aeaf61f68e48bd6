-- A whole dump, as `svnadmin dump` and `svnrdump dump` write it (Subversion's dump format notes, versions 2 and 3).
use Rattle.std.specs.Prelude.{◌≡◌, ◌≢◌, ℕ, ◌≤◌, List, [], ◌∷◌, ◌++◌, None, Some, codes, flat_map, length}
use Rattle.svn_path.specs.Names.{with_names}
use Rattle.svn_dump.specs.Block.{Block, AreBlocks}
use Rattle.svn_dump.specs.Format.{version}
use Rattle.svn_dump.specs.History.{Setting, keep, put, delete, change, add, copy}
use Rattle.svn_dump.specs.Record.{RecordOfBytes, ActionOfBytes, HistoryOfBytes, history_of}
use Rattle.svn_dump.specs.declared.grammar.format.Format.{Format}
use Rattle.svn_dump.specs.declared.grammar.format.Format.TheVariants.{Two, Three}

abbrev pub first_line : Format → List ℕ
first_line format = codes "SVN-fs-dump-format-version: " ++ (version format ++ 10 ∷ [])

-- the components of the paths that an action names, and that a record names
abbrev pub parts_of_action : ActionOfBytes → List (List ℕ)
parts_of_action delete = []
parts_of_action (change setting) = []
parts_of_action (add replace kind setting) = []
parts_of_action (copy replace from from_rev setting) = from

abbrev pub parts_of_record : RecordOfBytes → List (List ℕ)
parts_of_record each = each.path ++ parts_of_action each.action

abbrev pub all_records : HistoryOfBytes → List RecordOfBytes
all_records history = flat_map (λ records. records) history

-- the distinct names of a history
abbrev pub names_of : HistoryOfBytes → List (List ℕ)
names_of history = with_names [] (flat_map parts_of_record (all_records history))

-- the mergeinfo text that a record gives
abbrev pub texts_of_setting : Setting (List ℕ) → List (List ℕ)
texts_of_setting keep = []
texts_of_setting (put None) = []
texts_of_setting (put (Some text)) = text ∷ []

abbrev pub texts_of_action : ActionOfBytes → List (List ℕ)
texts_of_action delete = []
texts_of_action (change setting) = texts_of_setting setting
texts_of_action (add replace kind setting) = texts_of_setting setting
texts_of_action (copy replace from from_rev setting) = texts_of_setting setting

-- the distinct mergeinfo texts of a history, as first seen
abbrev pub values_of : HistoryOfBytes → List (List ℕ)
values_of history = with_names [] (flat_map (λ each. texts_of_action each.action) (all_records history))

-- how many names, records, revisions and texts a dump has at most
abbrev pub most_numbered : ℕ
most_numbered = 4294967294

pub record IsSmall (history : HistoryOfBytes) : Type 0 where
  pub names : length (names_of history) ≤ most_numbered
  pub records : length (all_records history) ≤ most_numbered
  pub revisions : length history ≤ most_numbered
  pub values : length (values_of history) ≤ most_numbered

-- the bytes are a dump of one of the formats, and tell this history
pub record IsDumpText (bytes : List ℕ) (history : HistoryOfBytes) : Type 0 where
  pub format : Format
  pub rest : List ℕ
  pub blocks : List Block
  pub begins : bytes ≡ first_line format ++ rest
  pub follows : AreBlocks rest blocks
  pub tells : history_of format blocks ≡ Some history
  pub some_revision : history ≢ []
  pub small : IsSmall history

-- a dump of format 2 under the first line of format 3 is a dump of the same history
abbrev pub FormatsAgree : Type 0
FormatsAgree =
    (rest : List ℕ) (history : HistoryOfBytes) →
    IsDumpText (first_line Two ++ rest) history → IsDumpText (first_line Three ++ rest) history
