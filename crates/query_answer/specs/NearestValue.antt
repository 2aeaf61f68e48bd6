-- The value of the nearest mergeinfo that a worker is told, and what it knows afterwards.
use Rattle.std.specs.Prelude.{ℕ, List, [], Option, Some, None, MatchResult, OnOk, Result, Err, option_map}
use Rattle.std.specs.Borrow.{Fml, MutBor}
use Rattle.std.specs.Io.BufRead.{Rests}
use mir.Syntax.{named}
use Rattle.svn_dump.specs.Dump.{DumpValue, text_of}
use Rattle.block_map.specs.declared.entry.Nearest.{Nearest}
use Rattle.merge_info.specs.CanonicalValue.{value_of}
use Rattle.merge_info.specs.Value.{MergeInfoValue}
use Rattle.value_memo.specs.SeenValue.{SeenValue}
use Rattle.value_memo.specs.contracts.seen.Seen.{the_row}
use Rattle.query_answer.specs.Worker.{Knows, MayLearn, Reads}
use Rattle.query_answer.specs.declared.unanswered.Unanswered.{Unanswered}

-- the text of the nearest mergeinfo, if there is any
abbrev pub text_found : DumpValue → Option Nearest → Option (List ℕ)
text_found dump nearest = option_map (λ found. text_of dump.values found.mi.0) nearest

-- what it says: the empty value, if there is none
abbrev pub value_said : Option (List ℕ) → Option MergeInfoValue
value_said None = Some []
value_said (Some text) = value_of text

-- Once the value has ended, the worker may have learnt the text, and knows it after no error. `the_row` is that of a
-- `Seen` at the second lifetime of the signature of `nearest_value`.
abbrev pub ends_told : {T E : Type 0} → MutBor SeenValue → DumpValue → List ℕ → Option (List ℕ) → Result T E → Fml
ends_told seen dump memo read result =
    Rests (the_row (record { mir = named 1; lft = [] })) seen
    (λ new. MayLearn dump.values memo read seen.now new × OnOk result (Knows read new))

-- once what a target holds has ended, the worker also knows the text after an error, unless memory ran out
abbrev pub ends_held : {T : Type 0} → MutBor SeenValue → DumpValue → List ℕ → Option (List ℕ) → Result T Unanswered → Fml
ends_held seen dump memo read result =
    Rests (the_row (record { mir = named 1; lft = [] })) seen
    (λ new. MatchResult result (λ held. MayLearn dump.values memo read seen.now new × Knows read new) (λ e. Reads dump memo read (Err e) seen.now new))
