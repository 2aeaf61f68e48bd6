-- A dump that is read in pieces: what its reader keeps of the bytes that have come.
use Rattle.std.specs.Prelude.{◌≡◌, ℕ, ◌<◌, List, [], ◌∷◌, ◌++◌, Option, None, Some, IsFalse, IsTrue, length}
use Rattle.std.specs.Borrow.{Bor}
use Rattle.svn_text.specs.Bytes.{is_not_empty}
use Rattle.svn_dump.specs.Block.{AreBlocks, Block, body_length, properties_length}
use Rattle.svn_dump.specs.Decided.{IsDecidedError}
use Rattle.svn_dump.specs.Draft.{IsWholeHistory, dump_of}
use Rattle.svn_dump.specs.FrontBlock.{AddsBlockTo, IsBlockRefusalFrom}
use Rattle.svn_dump.specs.ReadError.{dump_error_at}
use Rattle.svn_dump.specs.declared.read_error.ReadError.{ReadError}
use Rattle.svn_dump.specs.Dump.{DumpValue, history_in_bytes}
use Rattle.svn_dump.specs.DumpText.{first_line}
use Rattle.svn_dump.specs.FirstRefusal.{begins_with_newline, header_lines}
use Rattle.svn_dump.specs.PartialBody.{IsPartialBody}
use Rattle.svn_dump.specs.PartialHeader.{AreHeaderLines, IsHeaderFront, is_node}
use Rattle.svn_dump.specs.PartialLine.{IsPartialLine}
use Rattle.svn_dump.specs.Record.{history_of}
use Rattle.svn_dump.specs.declared.grammar.format.Format.{Format}
use Rattle.svn_dump.specs.declared.pieces.partial_body.PartialBody.{PartialBody}
use Rattle.svn_dump.specs.declared.pieces.partial_line.PartialLine.{PartialLine}
use Rattle.svn_dump.specs.declared.pieces.reader.Progress.{Progress}
use Rattle.svn_dump.specs.declared.pieces.reader.Progress.TheVariants as progress
use Rattle.svn_dump.specs.declared.pieces.reader.Reader.{Reader}

-- the bytes are the first line of a format and whole blocks, with empty lines beside them, which tell the history of
-- this dump
pub record IsReadAs (format : Format) (bytes : List ℕ) (draft : DumpValue) : Type 0 where
  pub rest : List ℕ
  pub blocks : List Block
  pub begins : bytes ≡ first_line format ++ rest
  pub follows : AreBlocks rest blocks
  pub tells : history_of format blocks ≡ Some (history_in_bytes draft)
  pub whole : IsWholeHistory draft

-- the bytes begin a block
pub record BeginsBlock (bytes : List ℕ) : Type 0 where
  pub some : IsTrue (is_not_empty bytes)
  pub not_empty_line : IsFalse (begins_with_newline bytes)

-- the bytes are read up to a block that begins there, of which so much has come
pub record IsReadTo (format : Format) (bytes : List ℕ) (draft : DumpValue) (at : ℕ) (block : List ℕ) : Type 0 where
  pub front : List ℕ
  pub whole : bytes ≡ front ++ block
  pub read : IsReadAs format front draft
  pub begins : at ≡ length front

-- so much of the body has come
pub record IsBodyTo (header : List ℕ) (body : PartialBody) (come : List ℕ) : Type 0 where
  pub lines : AreHeaderLines header
  pub section : ℕ
  pub whole : ℕ
  pub long : body_length (header_lines header) ≡ Some whole
  pub kept : IsTrue (is_node (header_lines header)) → properties_length (header_lines header) ≡ Some section
  pub so_far : IsPartialBody body section whole come

-- ---- by the part in progress

pub record IsInLine (reader : Reader) (line : PartialLine) (bytes : List ℕ) : Type 0 where
  pub so_far : IsPartialLine line bytes
  pub draft : reader.draft ≡ dump_of [] [] [] []
  pub at : reader.at ≡ 0

pub record IsInHeader (reader : Reader) (header bytes : List ℕ) : Type 0 where
  pub read : IsReadTo reader.format bytes reader.draft reader.at header
  pub some : BeginsBlock header
  pub front : IsHeaderFront header

pub record IsInBody (reader : Reader) (header : List ℕ) (body : PartialBody) (bytes : List ℕ) : Type 0 where
  pub come : List ℕ
  pub read : IsReadTo reader.format bytes reader.draft reader.at (header ++ 10 ∷ come)
  pub some : BeginsBlock header
  pub so_far : IsBodyTo header body come

abbrev pub IsIn : Progress → Reader → List ℕ → Type 0
IsIn (progress.Line line) reader bytes = IsInLine reader line bytes
IsIn progress.Blocks reader bytes = IsReadAs reader.format bytes reader.draft
IsIn (progress.Header header) reader bytes = IsInHeader reader header bytes
IsIn (progress.Body header body) reader bytes = IsInBody reader header body bytes × (0 < body.left)

-- the reader has read these bytes
abbrev pub HasReadAll : Reader → List ℕ → Type 0
HasReadAll reader bytes = IsIn reader.progress reader bytes

-- a piece that follows these bytes ends in a part of the dump, or in one that ends before the rest
abbrev pub ReadsPart : Reader → List ℕ → List ℕ → Option (Bor (List ℕ)) → Type 0
ReadsPart new bytes piece None = HasReadAll new (bytes ++ piece)
ReadsPart new bytes piece (Some rest) =
    (last : List ℕ) × (piece ≡ last ++ rest.now) × IsReadAs new.format (bytes ++ last) new.draft

-- ---- what a call promises of all bytes that were read before it

-- what comes after bytes of which this holds is read so
abbrev pub ReadsAfter : (List ℕ → Type 0) → Reader → List ℕ → Option (Bor (List ℕ)) → Type 0
ReadsAfter before new piece left = (bytes : List ℕ) → before bytes → ReadsPart new bytes piece left

-- what comes after bytes of which this holds decides this error
abbrev pub RefusesAfter : (List ℕ → Type 0) → Reader → List ℕ → ReadError → Type 0
RefusesAfter before new piece e = (bytes : List ℕ) → before bytes → IsDecidedError (bytes ++ piece) (dump_error_at new.at e)

-- a piece that ends at this offset is read
abbrev pub ReadsUpTo : Reader → Reader → ℕ → List ℕ → Type 0
ReadsUpTo old new end piece = (bytes : List ℕ) → HasReadAll old bytes → end ≡ length (bytes ++ piece) → HasReadAll new (bytes ++ piece)

abbrev pub RefusesUpTo : Reader → Reader → ℕ → List ℕ → ReadError → Type 0
RefusesUpTo old new end piece e =
    (bytes : List ℕ) → HasReadAll old bytes → end ≡ length (bytes ++ piece) → IsDecidedError (bytes ++ piece) (dump_error_at new.at e)

-- the bytes of a block that begins after all bytes so far are read, and what is left follows them
abbrev pub ReadsBlock : Reader → Reader → List ℕ → Option (Bor (List ℕ)) → Type 0
ReadsBlock old new block left = (bytes : List ℕ) → IsReadAs old.format bytes old.draft → old.at ≡ length bytes → ReadsPart new bytes block left

abbrev pub RefusesBlock : Reader → Reader → List ℕ → ReadError → Type 0
RefusesBlock old new block e =
    (bytes : List ℕ) → IsReadAs old.format bytes old.draft → old.at ≡ length bytes → IsDecidedError (bytes ++ block) (dump_error_at new.at e)

-- more of a header is read, and what is left follows it
abbrev pub ReadsHeader : Reader → List ℕ → Reader → List ℕ → Option (Bor (List ℕ)) → Type 0
ReadsHeader old header new piece left =
    (bytes : List ℕ) → IsReadTo old.format bytes old.draft old.at header → BeginsBlock (header ++ piece) → ReadsPart new bytes piece left

abbrev pub RefusesHeader : Reader → List ℕ → Reader → List ℕ → ReadError → Type 0
RefusesHeader old header new piece e =
    (bytes : List ℕ) → IsReadTo old.format bytes old.draft old.at header → BeginsBlock (header ++ piece) → IsDecidedError (bytes ++ piece) (dump_error_at new.at e)

-- a block whose last byte has come is added
abbrev pub AddsWholeBlock : Reader → List ℕ → PartialBody → Reader → Type 0
AddsWholeBlock old header body new =
    (come : List ℕ) → IsBodyTo header body come → body.left ≡ 0 → BeginsBlock header → AddsBlockTo old.format old.draft new.draft (header ++ 10 ∷ come) []

abbrev pub RefusesWholeBlock : Reader → List ℕ → PartialBody → ReadError → Type 0
RefusesWholeBlock old header body e =
    (come : List ℕ) → IsBodyTo header body come → body.left ≡ 0 → BeginsBlock header → IsWholeHistory old.draft →
    IsBlockRefusalFrom old.format (history_in_bytes old.draft) (header ++ 10 ∷ come) e
