-- What the reader finds at the front of the bytes.
use Rattle.std.specs.Prelude.{◌≡◌, ℕ, List, ◌∷◌, ◌++◌, MatchOption, Option, Some, All, IsFalse, flat_map, length, take}
use Rattle.std.specs.Borrow.{Bor}
use Rattle.std.specs.List.{list_any}
use Rattle.svn_dump.specs.Block.{Block, IsBlock, IsHeader, block_text, properties_length}
use Rattle.svn_text.specs.Line.{is_newline, line_text}
use Rattle.svn_dump.specs.Draft.{IsWholeHistory}
use Rattle.svn_dump.specs.Dump.{DumpValue, history_in_bytes}
use Rattle.svn_dump.specs.Field.{fields_of}
use Rattle.svn_dump.specs.FirstRefusal.{block_refusal}
use Rattle.svn_dump.specs.Headers.{AreHeaders}
use Rattle.svn_dump.specs.Node.{BlockContent}
use Rattle.svn_dump.specs.NumberedRecord.{IsFirstReason}
use Rattle.svn_dump.specs.Record.{HistoryOfBytes, with_block, with_content}
use Rattle.svn_dump.specs.Refusal.{content_refusals}
use Rattle.svn_dump.specs.declared.grammar.format.Format.{Format}
use Rattle.svn_dump.specs.declared.read_error.ReadError.{ReadError}
use Rattle.svn_dump.specs.declared.read_error.ReadError.TheVariants as read

-- the bytes begin with header lines of these values, and the rest follows
pub record BeginsWithLines (bytes : List ℕ) (values : List (Option (List ℕ))) (rest : List ℕ) : Type 0 where
  pub lines : List (List ℕ)
  pub all : All IsHeader lines
  pub fields : AreHeaders values lines
  pub whole : bytes ≡ flat_map line_text lines ++ rest

-- what follows is not a whole line
pub record IsUnfinished (bytes : List ℕ) (values : List (Option (List ℕ))) : Type 0 where
  pub rest : List ℕ
  pub lines : BeginsWithLines bytes values rest
  pub no_line : IsFalse (list_any is_newline rest)

-- header lines of these values, and what follows the empty line after them, if the bytes do not end before it
abbrev pub BeginsWithHeaders : List ℕ → List (Option (List ℕ)) → Option (Bor (List ℕ)) → Type 0
BeginsWithHeaders bytes values rest =
    MatchOption rest (IsUnfinished bytes values) (λ after. BeginsWithLines bytes values (10 ∷ after.now))

-- the bytes are a block, whose body begins with its property section, and the rest follows
pub record BeginsWithBlock (bytes : List ℕ) (values : List (Option (List ℕ))) (properties rest : List ℕ) : Type 0 where
  pub block : Block
  pub is_block : IsBlock block
  pub fields : values ≡ fields_of block.lines
  pub section : properties_length block.lines ≡ Some (length properties)
  pub front : properties ≡ take (length properties) block.body
  pub whole : bytes ≡ block_text block ++ rest

-- ---- what it makes of a history

-- the bytes begin with a block, and the rest follows; the block makes the new history of the old one
pub record AddsBlock (format : Format) (bytes rest : List ℕ) (old new : HistoryOfBytes) : Type 0 where
  pub block : Block
  pub is_block : IsBlock block
  pub whole : bytes ≡ block_text block ++ rest
  pub adds : with_block format old block ≡ Some new

-- the block makes the history of the new dump of that of the old one
abbrev pub AddsBlockTo : Format → DumpValue → DumpValue → List ℕ → List ℕ → Type 0
AddsBlockTo format old new bytes rest = AddsBlock format bytes rest (history_in_bytes old) (history_in_bytes new)

-- the error is the first reason against the block, of every input that begins with these bytes, or want of memory
abbrev pub IsBlockRefusalFrom : Format → HistoryOfBytes → List ℕ → ReadError → Type 0
IsBlockRefusalFrom format history bytes (read.Refused refusal) = (more : List ℕ) → block_refusal format history (bytes ++ more) ≡ Some refusal
IsBlockRefusalFrom format history bytes read.Memory = Unit {0}

-- the history of a dump that is being read gets a block with that content
abbrev pub AddsContent : DumpValue → BlockContent → DumpValue → Type 0
AddsContent old content new = with_content (history_in_bytes old) content ≡ Some (history_in_bytes new)

-- the error is the first reason against a block with that content, or want of memory
abbrev pub IsContentRefusal : DumpValue → BlockContent → ReadError → Type 0
IsContentRefusal old content error = IsWholeHistory old → IsFirstReason (content_refusals (history_in_bytes old) content) error
