-- What a worker's knowledge of a memo is once a reading that borrows from it has ended.
use Rattle.std.specs.Prelude.{◌≡◌, ℕ, List, [], Result, MatchResult}
use Rattle.std.specs.Borrow.{Fml, MutBor}
use Rattle.std.specs.Io.BufRead.{Rests}
use mir.Syntax.{named}
use Rattle.value_memo.specs.SeenValue.{SeenValue, IsAnswered}
use Rattle.value_memo.specs.contracts.seen.Seen.{the_row}

-- It was answered for the number with the text, and after an error it is as before. `the_row` says of which type it is:
-- a `Seen` at the second lifetime of the signature of `value`, which is that of the texts.
abbrev pub ends_answered : {T E : Type 0} → MutBor SeenValue → ℕ → List ℕ → Result T E → Fml
ends_answered seen id text result =
    Rests (the_row (record { mir = named 1; lft = [] })) seen
    (λ new. MatchResult result (λ _. IsAnswered seen.now id text new) (λ _. new ≡ seen.now))
