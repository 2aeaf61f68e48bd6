-- A bundle: queries and a dump in one input. Its first line is three numbers with one space between them, the length
-- of a block, the number of workers and the number of queries; then each query line, ended by a newline; the rest is
-- the dump.
use Rattle.std.specs.Prelude.{◌≡◌, ℕ, ◌<◌, List, ◌∷◌, ◌++◌, Some, All, length, flat_map, IsFalse}
use Rattle.std.specs.List.{list_any}
use Rattle.svn_text.specs.Line.{is_newline, line_text}
use Rattle.svn_text.specs.Number.{number_up_to, greatest_revision}
use Rattle.query_pool.specs.Serving.{most_workers}
use Rattle.svn_report.specs.Report.{most_queries}
use Rattle.svnhist.specs.declared.bundle.Bundle.{Bundle}

-- the byte of the digit 0
abbrev pub first_digit : ℕ
first_digit = 48

pub record BundleValue : Type 0 where
  pub block : ℕ
  pub workers : ℕ
  pub queries : List ℕ
  pub dump : List ℕ

abbrev pub bundle_view : Bundle → BundleValue
bundle_view b = record { block = b.block; workers = b.workers; queries = b.queries.now; dump = b.dump.now }

-- so many lines, each ended by a newline
pub record AreLines (count : ℕ) (bytes : List ℕ) : Type 0 where
  pub lines : List (List ℕ)
  pub counted : length lines ≡ count
  pub one_line : All (λ line. IsFalse (list_any is_newline line)) lines
  pub joined : bytes ≡ flat_map line_text lines

-- the three numbers of the first line as they are written, and the number of queries
pub record IsBundle (bytes : List ℕ) (value : BundleValue) : Type 0 where
  pub first : List ℕ
  pub second : List ℕ
  pub third : List ℕ
  pub count : ℕ
  pub whole : bytes ≡ first ++ 32 ∷ (second ++ 32 ∷ (third ++ 10 ∷ (value.queries ++ value.dump)))
  pub block : number_up_to greatest_revision first ≡ Some value.block
  pub workers : number_up_to most_workers second ≡ Some value.workers
  pub some_worker : 0 < value.workers
  pub few : number_up_to most_queries third ≡ Some count
  pub lines : AreLines count value.queries

-- the bytes begin with a number and this byte, and the rest follows
abbrev pub IsNumberBefore : ℕ → ℕ → List ℕ → ℕ → List ℕ → Type 0
IsNumberBefore end most bytes value rest =
    (digits : List ℕ) × (bytes ≡ digits ++ end ∷ rest) × (number_up_to most digits ≡ Some value)

abbrev pub HasNoNumberBefore : ℕ → ℕ → List ℕ → Type 0
HasNoNumberBefore end most bytes =
    (digits rest : List ℕ) (n : ℕ) → bytes ≡ digits ++ end ∷ rest → number_up_to most digits ≡ Some n → ⊥
