-- What comes next in an input.
use Rattle.std.specs.Prelude.{◌≡◌, ℕ, All, List, [], ◌++◌, Some, ⊤}
use Rattle.std.specs.List.{flat_map}
use Rattle.devices.specs.Device.{PullState}
use Rattle.svn_text.specs.Line.{line_text}
use Rattle.svn_text.specs.Number.{greatest_length, number_up_to}
use Rattle.live_history.specs.ReadAhead.{AreNear, ReadAheadValue, stream}
use Rattle.live_history.specs.Stream.{AreLast, AreTaken, Stream}
use Rattle.live_history.specs.Turn.{IsTurn, piece_line, query}
use Rattle.live_history.specs.declared.turns.Next.{Next}
use Rattle.live_history.specs.declared.turns.Next.TheVariants as next

-- the bytes begin with this query, and this follows
pub record IsFirstQuery (bytes line rest : List ℕ) : Type 0 where
  pub whole : bytes ≡ line_text line ++ rest
  pub is : IsTurn (query line)

abbrev pub HasQuery : List ℕ → Type 0
HasQuery bytes = (line : List ℕ) × (rest : List ℕ) × IsFirstQuery bytes line rest

-- the line before a piece of so many bytes was taken
pub record IsLineTaken (old new : Stream) (size : ℕ) : Type 0 where
  pub digits : List ℕ
  pub number : number_up_to greatest_length digits ≡ Some size
  pub taken : AreTaken old new (line_text (piece_line digits))

abbrev pub IsNext : Stream → ReadAheadValue → PullState → Next → Type 0
IsNext old later after next.Query = HasQuery later.unread × AreNear later.unread × AreTaken old (stream later after) []
IsNext old later after (next.Piece size) = IsLineTaken old (stream later after) size
IsNext old later after next.End = AreLast old after []

-- what holds where a piece comes next
abbrev pub IfPiece : Next → Type 0 → Type 0
IfPiece next.Query P = ⊤
IfPiece (next.Piece size) P = P
IfPiece next.End P = ⊤

-- what holds where anything comes next
abbrev pub IfTurn : Next → Type 0 → Type 0
IfTurn next.Query P = P
IfTurn (next.Piece size) P = P
IfTurn next.End P = ⊤

-- these are the first queries, and then this follows
pub record AreQueries (bytes : List ℕ) (lines : List (List ℕ)) (rest : List ℕ) : Type 0 where
  pub whole : bytes ≡ flat_map line_text lines ++ rest
  pub are : All (λ line. IsTurn (query line)) lines
