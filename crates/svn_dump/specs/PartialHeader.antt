-- The header of a block, as far as it has come.
use Rattle.std.specs.Prelude.{◌≡◌, ℕ, Bool, ◌&&◌, is_none, is_some, IsTrue, List, [], ◌∷◌, ◌++◌, Option, Some, All, IsFalse, codes, flat_map, length, map}
use Rattle.std.specs.List.{list_any}
use Rattle.svn_dump.specs.Block.{IsHeader, body_length, field, header_name, properties_length}
use Rattle.svn_text.specs.Line.{is_newline, line_text}
use Rattle.svn_dump.specs.FirstRefusal.{front_refusals, header_lines}
use Rattle.svn_dump.specs.Headers.{AreHeaders, AreOnce}
use Rattle.svn_dump.specs.PartialBody.{IsPartialBody}
use Rattle.svn_dump.specs.Refusal.{first_holding}
use Rattle.svn_dump.specs.declared.pieces.partial_body.PartialBody.{PartialBody}
use Rattle.svn_dump.specs.declared.read_error.ReadError.{ReadError}
use Rattle.svn_dump.specs.declared.read_error.ReadError.TheVariants as read
use Rattle.svn_dump.specs.declared.refusal.Refusal.{Refusal}

-- the bytes are header lines, each listed name once
pub record AreHeaderLines (bytes : List ℕ) : Type 0 where
  pub lines : List (List ℕ)
  pub all : All IsHeader lines
  pub once : AreOnce lines
  pub whole : bytes ≡ flat_map line_text lines

-- the bytes are header lines, each listed name once, and the front of one more line
pub record IsHeaderFront (bytes : List ℕ) : Type 0 where
  pub lines : List (List ℕ)
  pub last : List ℕ
  pub all : All IsHeader lines
  pub once : AreOnce lines
  pub whole : bytes ≡ flat_map line_text lines ++ last
  pub no_line : IsFalse (list_any is_newline last)

-- the header of that name without a value
abbrev pub without_value : List ℕ → List ℕ
without_value line = header_name line ++ 58 ∷ []

-- the last line starts there, and these are the names of the lines before it
pub record IsPartialHeader (bytes : List ℕ) (start : ℕ) (names : List (Option (List ℕ))) : Type 0 where
  pub front : IsHeaderFront bytes
  pub named : AreHeaders names (map without_value front.lines)
  pub starts : start ≡ length (flat_map line_text front.lines)

-- ---- what a piece makes of it

-- every block that begins with these bytes is refused so
abbrev pub IsDecidedFront : List ℕ → Refusal → Type 0
IsDecidedFront bytes refusal = (more : List ℕ) → first_holding (front_refusals (bytes ++ more)) ≡ Some refusal

-- the error is how every block that begins with these bytes is refused, or want of memory
abbrev pub IsDecidedFrontError : List ℕ → ReadError → Type 0
IsDecidedFrontError bytes (read.Refused refusal) = IsDecidedFront bytes refusal
IsDecidedFrontError bytes read.Memory = Unit {0}

-- the piece doesn't end the header
pub record ExtendsHeader (old piece new : List ℕ) : Type 0 where
  pub kept : new ≡ old ++ piece
  pub front : IsHeaderFront new

-- an empty line in the piece ends the header, and the rest follows
pub record EndsHeader (old piece new rest : List ℕ) : Type 0 where
  pub last : List ℕ
  pub whole : piece ≡ last ++ 10 ∷ rest
  pub kept : new ≡ old ++ last
  pub lines : AreHeaderLines new

-- ---- the body that follows

-- a node's block, whose property section is read
abbrev pub is_node : List (List ℕ) → Bool
is_node lines = is_none (field (codes "Revision-number") lines) && is_some (field (codes "Node-path") lines)

-- nothing has come of the body, and its section is kept where it is read
pub record IsBodyAfter (header : List ℕ) (body : PartialBody) : Type 0 where
  pub section : ℕ
  pub whole : ℕ
  pub long : body_length (header_lines header) ≡ Some whole
  pub kept : IsTrue (is_node (header_lines header)) → properties_length (header_lines header) ≡ Some section
  pub empty : IsPartialBody body section whole []
