-- The first reason against bytes as a dump: of the first block against which there is one, the first in their order.
use Rattle.std.specs.Prelude.{◌≡◌, ℕ, zero, suc, ◌-◌, ◌==◌, nat_eq, nat_lt, Bool, false, not, ◌&&◌, ◌||◌, List, [], ◌∷◌, ◌++◌, Option, Some, None, is_none, codes, count_by, drop, flat_map, length, option_and_then, take, unwrap_or, if◌then◌else◌}
use Rattle.std.specs.List.{after_first, before_first, list_any, slice_split, starts_with}
use Rattle.svn_text.specs.Bytes.{is_colon, is_not_empty}
use Rattle.svn_dump.specs.Block.{Block, body_length, header_name, is_header_named, listed_names}
use Rattle.svn_text.specs.Line.{is_newline, line_text}
use Rattle.svn_dump.specs.Format.{format_of_version}
use Rattle.svn_dump.specs.Record.{HistoryOfBytes, content_of, with_block}
use Rattle.svn_dump.specs.Refusal.{Reason, first_holding, reason, content_refusals}
use Rattle.svn_dump.specs.declared.grammar.format.Format.{Format}
use Rattle.svn_dump.specs.declared.refusal.Refusal.{Refusal}
use Rattle.svn_dump.specs.declared.refusal.Refusal.TheVariants.{Magic, Version, Header, Length, Truncated, Revision}

-- a reason, and where the block begins against which it holds
pub record RefusalAt : Type 0 where
  pub refusal : Refusal
  pub at : ℕ

-- ---- the first line

abbrev pub magic : List ℕ
magic = codes "SVN-fs-dump-format-version: "

-- the format that the first line gives
abbrev pub format_of : List ℕ → Option Format
format_of bytes = format_of_version (drop (length magic) (before_first is_newline bytes))

-- a line that isn't complete has no value yet
abbrev pub line_refusals : List ℕ → List Reason
line_refusals bytes =
    reason Magic (not (starts_with nat_eq bytes magic))
    ∷ reason Version (list_any is_newline bytes && is_none (format_of bytes))
    ∷ reason Truncated (not (list_any is_newline bytes))
    ∷ []

-- ---- the block at the front of the bytes

abbrev pub without_empty_lines : List ℕ → List ℕ
without_empty_lines [] = []
without_empty_lines (byte ∷ bytes) = if byte == 10 then without_empty_lines bytes else byte ∷ bytes

-- nothing but empty lines
abbrev pub IsEmptyLines : List ℕ → Type 0
IsEmptyLines bytes = without_empty_lines bytes ≡ []

abbrev pub begins_with_newline : List ℕ → Bool
begins_with_newline [] = false
begins_with_newline (byte ∷ bytes) = byte == 10

-- the lines before the first empty one; what follows the last newline is not a line yet
abbrev pub lines_before_empty : List (List ℕ) → List (List ℕ)
lines_before_empty [] = []
lines_before_empty (last ∷ []) = []
lines_before_empty (line ∷ more ∷ lines) = if is_not_empty line then line ∷ lines_before_empty (more ∷ lines) else []

unfoldable pub header_lines : List ℕ → List (List ℕ)
header_lines bytes = lines_before_empty (slice_split is_newline bytes)

-- what follows them: it begins with the empty line, if that is there
unfoldable pub after_lines : List ℕ → List ℕ
after_lines bytes = drop (length (flat_map line_text (header_lines bytes))) bytes

abbrev pub is_no_header : List ℕ → Bool
is_no_header line = not (list_any is_colon line) || not (is_not_empty (header_name line))

-- some listed name stands twice
abbrev pub has_twice : List (List ℕ) → Bool
has_twice lines = list_any (λ name. nat_lt 1 (count_by (is_header_named name) lines)) listed_names

abbrev pub body_length_at : List ℕ → ℕ
body_length_at bytes = unwrap_or (body_length (header_lines bytes)) 0

-- the bytes end before the empty line, or in the body
abbrev pub is_cut : List ℕ → Bool
is_cut bytes = not (begins_with_newline (after_lines bytes)) || nat_lt (length (drop 1 (after_lines bytes))) (body_length_at bytes)

-- the reasons against the form of a block: its header is judged by its complete lines
abbrev pub front_refusals : List ℕ → List Reason
front_refusals bytes =
    reason Header (list_any is_no_header (header_lines bytes) || has_twice (header_lines bytes))
    ∷ reason Length (is_none (body_length (header_lines bytes)))
    ∷ reason Truncated (is_cut bytes)
    ∷ []

abbrev pub block_at : List ℕ → Block
block_at bytes = record { lines = header_lines bytes; body = take (body_length_at bytes) (drop 1 (after_lines bytes)) }

-- what follows the block
abbrev pub after_block : List ℕ → List ℕ
after_block bytes = drop (body_length_at bytes) (drop 1 (after_lines bytes))

-- the first reason against it after a history
unfoldable pub block_refusal : Format → HistoryOfBytes → List ℕ → Option Refusal
block_refusal format history bytes = first_holding (front_refusals bytes ++ content_refusals history (content_of format (block_at bytes)))

-- ---- the whole dump

-- a dump has a revision
abbrev pub end_refusal : ℕ → HistoryOfBytes → Option RefusalAt
end_refusal total [] = Some (record { refusal = Revision; at = total })
end_refusal total (records ∷ history) = None

-- a refusal there, if there is one, else a later one
abbrev pub refusal_or : Option Refusal → ℕ → Option RefusalAt → Option RefusalAt
refusal_or None at later = later
refusal_or (Some refusal) at later = Some (record { refusal = refusal; at = at })

-- the first refusal in the blocks that the rest of so many bytes begins with, after a history; each block takes bytes, so there are fewer
-- blocks than bytes
unfoldable pub refusal_from : Format → ℕ → ℕ → HistoryOfBytes → List ℕ → Option RefusalAt
refusal_from format zero total history rest = None
refusal_from format (suc most) total history rest =
    let bytes = without_empty_lines rest in
    if is_not_empty bytes
    then refusal_or (block_refusal format history bytes) (total - length bytes)
    (option_and_then (λ after. refusal_from format most total after (after_block bytes)) (with_block format history (block_at bytes)))
    else end_refusal total history

unfoldable pub first_refusal : List ℕ → Option RefusalAt
first_refusal bytes =
    refusal_or (first_holding (line_refusals bytes)) 0
    (option_and_then (λ format. refusal_from format (length bytes) (length bytes) [] (after_first is_newline bytes)) (format_of bytes))
