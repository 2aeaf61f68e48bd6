-- What one worker knows of a memo: for each number the text that it was answered for and whether it keeps the reading
-- itself, and how many readings of texts it counted.
use Rattle.std.specs.Prelude.{◌≡◌, ◌≢◌, ℕ, ◌+◌, ◌≤◌, Bool, true, false, List, Option, Some, None, is_some, map, slice_get, slice_set}
use Rattle.std.specs.List.{count_by}
use Rattle.std.specs.Option.{ForSome, option_flatten}
use Rattle.value_memo.specs.KnownCellValue.{KnownCellValue}

pub record SeenValue : Type 0 where
  -- the memo
  pub memo : List ℕ
  -- the text that each number was answered for, if any
  pub texts : List (Option (List ℕ))
  -- which readings are the worker's own, and not those of the cells
  pub own : List Bool
  -- how many readings of texts it counted
  pub parses : ℕ

-- what is seen of what is known of each cell
abbrev pub seen_view : List KnownCellValue → ℕ → SeenValue
seen_view cells parses =
    record { memo = map (λ cell. cell.name) cells; texts = map (λ cell. cell.text) cells; own = map (λ cell. cell.own) cells; parses = parses }

-- a memo of which nothing is known
abbrev pub nothing_seen : List ℕ → SeenValue
nothing_seen memo = record { memo = memo; texts = map (λ cell. None) memo; own = map (λ cell. false) memo; parses = 0 }

-- the text that a number was answered for
abbrev pub text_at : SeenValue → ℕ → Option (List ℕ)
text_at seen id = option_flatten (slice_get seen.texts id)

-- how many numbers it was answered for
abbrev pub asked_of : SeenValue → ℕ
asked_of seen = count_by is_some seen.texts

-- a number is always asked for with the same text
abbrev pub MayAsk : SeenValue → ℕ → List ℕ → Type 0
MayAsk seen id text = ForSome (text_at seen id) (λ before. before ≡ text)

-- the worker asks for each number with its text in this list alone
abbrev pub AsksOnly : List (List ℕ) → SeenValue → Type 0
AsksOnly values seen = (id : ℕ) → ForSome (text_at seen id) (λ before. slice_get values id ≡ Some before)

-- the number was answered for with this text, and all others stay; at most one reading is counted, of a new number, and
-- one is where the worker keeps it itself
pub record IsAnswered (old : SeenValue) (id : ℕ) (text : List ℕ) (new : SeenValue) : Type 0 where
  pub memo : new.memo ≡ old.memo
  pub texts : new.texts ≡ slice_set old.texts id (Some text)
  pub others : (other : ℕ) → other ≢ id → slice_get new.own other ≡ slice_get old.own other
  pub known : text_at new id ≡ Some text
  pub again : text_at old id ≡ Some text → new ≡ old
  pub asked : text_at old id ≡ None → asked_of new ≡ asked_of old + 1
  pub parses : old.parses ≤ new.parses
  pub one_parse : new.parses ≤ old.parses + 1
  pub kept : text_at old id ≡ None → slice_get new.own id ≡ Some true → new.parses ≡ old.parses + 1
