-- The records of the history `MERGED` of the tests, and indexes of them.
use Rattle.std.specs.Prelude.{◌≡◌, ℕ, false, List, [], ◌∷◌, ◌++◌, Some}
use Rattle.svn_path.specs.declared.names.NameId.{NameId}
use Rattle.svn_dump.specs.declared.record.Kind.{Kind}
use Rattle.svn_dump.specs.declared.record.Act.{Act}
use Rattle.svn_dump.specs.declared.record.Mi.{Mi}
use Rattle.svn_dump.specs.declared.record.NodeRecord.{NodeRecord}
use Rattle.path_index.specs.Index.{IndexValue}

-- the numbers of its components
abbrev trunk : NameId
trunk = record { 0 = 0 }

abbrev branches : NameId
branches = record { 0 = 1 }

abbrev f : NameId
f = record { 0 = 2 }

abbrev b : NameId
b = record { 0 = 3 }

-- `branches/b`
abbrev pub the_branch : List NameId
the_branch = branches ∷ b ∷ []

-- ---- what a record does

abbrev pub added : ℕ → List NameId → Kind → NodeRecord
added rev path kind = record { rev = rev; path = path; act = Act.Add false kind Mi.Keep }

abbrev pub copied : ℕ → List NameId → List NameId → ℕ → NodeRecord
copied rev path from from_rev = record { rev = rev; path = path; act = Act.Copy false from from_rev Mi.Keep }

abbrev pub deleted : ℕ → List NameId → NodeRecord
deleted rev path = record { rev = rev; path = path; act = Act.Delete }

abbrev pub changed : ℕ → List NameId → Mi → NodeRecord
changed rev path mi = record { rev = rev; path = path; act = Act.Change mi }

-- the mergeinfo becomes the text of this number
abbrev pub text_put : ℕ → Mi
text_put number = Mi.Put (Some (record { 0 = number }))

-- ---- the history

-- the records of the revisions 1 to 5, and of those after them
abbrev pub first_records : List NodeRecord
first_records =
    added 1 (trunk ∷ []) Kind.Dir
    ∷ added 1 (branches ∷ []) Kind.Dir
    ∷ added 2 (trunk ∷ f ∷ []) Kind.File
    ∷ changed 3 (trunk ∷ f ∷ []) Mi.Keep
    ∷ copied 4 the_branch (trunk ∷ []) 2
    ∷ changed 5 (branches ∷ b ∷ f ∷ []) Mi.Keep
    ∷ []

abbrev pub last_records : List NodeRecord
last_records =
    changed 6 (trunk ∷ f ∷ []) Mi.Keep
    ∷ changed 7 (trunk ∷ []) (text_put 0)
    ∷ deleted 8 (trunk ∷ f ∷ [])
    ∷ changed 9 (branches ∷ []) (text_put 1)
    ∷ changed 10 the_branch (text_put 2)
    ∷ []

abbrev pub all_records : List NodeRecord
all_records = first_records ++ last_records

-- ---- indexes

-- the index is of these records, which so many others precede
abbrev pub IsIndexOf : List NodeRecord → ℕ → IndexValue → Type 0
IsIndexOf records first index = (index.records ≡ records) × (index.first ≡ first)
