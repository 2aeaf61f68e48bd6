-- The blocks of a dump (Subversion's dump format notes, versions 2 and 3): header lines, an empty line, and a body.
use Rattle.std.specs.Prelude.{◌≡◌, ℕ, ◌+◌, ◌≤◌, ◌==◌, nat_lt, Bool, List, [], ◌∷◌, ◌++◌, Option, Some, None, All, length, replicate, flat_map, count_by, codes, bytes_eq, IsTrue, IsFalse, option_and_then, if◌then◌else◌}
use Rattle.std.specs.List.{list_any, before_first, after_first}
use Rattle.svn_text.specs.Bytes.{is_colon, is_not_empty}
use Rattle.svn_text.specs.Line.{is_newline, line_text}
use Rattle.svn_text.specs.Number.{number_up_to, greatest_length}

-- ---- header lines

-- the value without the one space that may stand before it
abbrev pub without_space : List ℕ → List ℕ
without_space [] = []
without_space (byte ∷ bytes) = if byte == 32 then bytes else byte ∷ bytes

abbrev pub header_name : List ℕ → List ℕ
header_name line = before_first is_colon line

abbrev pub header_value : List ℕ → List ℕ
header_value line = without_space (after_first is_colon line)

-- a name that isn't empty, a colon and a value, on one line
pub record IsHeader (line : List ℕ) : Type 0 where
  pub one_line : IsFalse (list_any is_newline line)
  pub colon : IsTrue (list_any is_colon line)
  pub named : IsTrue (is_not_empty (header_name line))

abbrev pub is_header_named : List ℕ → List ℕ → Bool
is_header_named name line = bytes_eq (header_name line) name

-- the value of the first line of that name
abbrev pub field : List ℕ → List (List ℕ) → Option (List ℕ)
field name [] = None
field name (line ∷ lines) = if is_header_named name line then Some (header_value line) else field name lines

-- the names that are read, each of which stands at most once in a block; others are ignored
abbrev pub listed_names : List (List ℕ)
listed_names =
    codes "UUID" ∷ codes "Revision-number" ∷ codes "Node-path" ∷ codes "Node-kind" ∷ codes "Node-action"
    ∷ codes "Node-copyfrom-rev" ∷ codes "Node-copyfrom-path" ∷ codes "Prop-content-length"
    ∷ codes "Text-content-length" ∷ codes "Content-length" ∷ codes "Prop-delta" ∷ codes "Text-delta" ∷ []

-- ---- bodies

-- a length, 0 where the header isn't there
abbrev pub length_or_zero : Option (List ℕ) → Option ℕ
length_or_zero None = Some 0
length_or_zero (Some value) = number_up_to greatest_length value

-- how long a body is, given the lengths of its property section and its text, and the value of the whole, if there is one
abbrev pub whole_length : ℕ → ℕ → Option (List ℕ) → Option ℕ
whole_length properties text None = if nat_lt greatest_length (properties + text) then None else Some (properties + text)
whole_length properties text (Some value) =
    if nat_lt greatest_length (properties + text) then None
    else option_and_then (λ whole. if nat_lt whole (properties + text) then None else Some whole) (number_up_to greatest_length value)

abbrev pub properties_length : List (List ℕ) → Option ℕ
properties_length lines = length_or_zero (field (codes "Prop-content-length") lines)

unfoldable pub body_length : List (List ℕ) → Option ℕ
body_length lines =
    option_and_then
    (λ properties. option_and_then
    (λ text. whole_length properties text (field (codes "Content-length") lines))
    (length_or_zero (field (codes "Text-content-length") lines)))
    (properties_length lines)

-- ---- blocks

pub record Block : Type 0 where
  pub lines : List (List ℕ)
  pub body : List ℕ

abbrev pub block_text : Block → List ℕ
block_text block = flat_map line_text block.lines ++ 10 ∷ block.body

pub record IsBlock (block : Block) : Type 0 where
  pub some_line : length block.lines ≡ 0 → ⊥
  pub headers : All IsHeader block.lines
  pub once : All (λ name. count_by (is_header_named name) block.lines ≤ 1) listed_names
  pub whole : body_length block.lines ≡ Some (length block.body)

-- the bytes are these blocks, with empty lines before, between and after them
abbrev pub AreBlocks : List ℕ → List Block → Type 0
AreBlocks bytes [] = (empty : ℕ) × (bytes ≡ replicate empty 10)
AreBlocks bytes (block ∷ blocks) =
    (empty : ℕ) × (rest : List ℕ) × IsBlock block × (bytes ≡ replicate empty 10 ++ block_text block ++ rest) × AreBlocks rest blocks
