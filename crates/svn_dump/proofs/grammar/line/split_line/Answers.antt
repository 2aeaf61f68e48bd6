use Rattle.svn_dump.proofs.Common.{ℕ, List, MatchOption, Option, Some, None}
use Rattle.std.specs.Borrow.{Bor}
use Rattle.svn_text.specs.Cut.{IsCutAt, Lacks}
use Rattle.svn_text.proofs.Lines.{list_any-Lacks}
use Rattle.svn_dump.specs.Line.{HasNoLine, IsFirstLine}
use Rattle.svn_dump.proofs.grammar.line.split_line.Goals as goal

-- a cut at the first newline gives the first line
IsFirstLine-IsCutAt : (bytes : List ℕ) (found : Option (Bor (List ℕ) × Bor (List ℕ))) → MatchOption found (Lacks 10 bytes) (λ parts. IsCutAt 10 bytes parts.0.now parts.1.now)
    → MatchOption found (HasNoLine bytes) (λ parts. IsFirstLine bytes parts.0.now parts.1.now)
IsFirstLine-IsCutAt bytes None none = list_any-Lacks 10 bytes none
IsFirstLine-IsCutAt bytes (Some parts) cut = (cut.first, cut.whole)

pub returns : goal.returns
returns c = IsFirstLine-IsCutAt c.args.bytes.now c.split_at_byte.result c.split_at_byte.ensures
