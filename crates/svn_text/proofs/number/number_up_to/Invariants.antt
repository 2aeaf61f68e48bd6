use Rattle.std.proofs.Common.{◌≡◌, ◌-◌, ◌^◌, min, true, take}
use Rattle.std.specs.List.{list_all}
use Rattle.svn_text.specs.Number.{is_digit, value_of_digits}
use Rattle.svn_text.proofs.number.number_up_to.Given as goal

abbrev pub invariant-loop-byte : goal.invariant-loop-byte
invariant-loop-byte l = record {
  digits : list_all is_digit (take l.byte-index l.bytes) ≡ true;
  value : l.value ≡ min (value_of_digits (take l.byte-index l.bytes)) (2 ^ 64 - 1);
}
