-- What a mergeinfo text says: its value, unless it is malformed.
use Rattle.std.specs.Prelude.{Option, Some, None}
use Rattle.merge_info.specs.Value.{MergeInfoValue}
use Rattle.value_memo.specs.declared.reading.Parsed.{Parsed}
use Rattle.value_memo.specs.declared.reading.Parsed.TheVariants.{Good, Malformed}

abbrev pub parsed_view : Parsed → Option MergeInfoValue
parsed_view (Good value) = Some value.now
parsed_view Malformed = None
