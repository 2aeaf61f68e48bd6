-- Numbers of a dump and of its readers: one or more decimal digits, leading zeros accepted.
use Rattle.std.specs.Prelude.{ℕ, ◌+◌, ◌-◌, ◌*◌, nat_le, Bool, ◌&&◌, List, Option, Some, None, fold, option_and_then, if◌then◌else◌}
use Rattle.std.specs.List.{list_all}
use Rattle.svn_text.specs.Bytes.{is_not_empty}

abbrev pub is_digit : ℕ → Bool
is_digit byte = nat_le 48 byte && nat_le byte 57

abbrev pub value_of_digits : List ℕ → ℕ
value_of_digits digits = fold (λ value digit. value * 10 + (digit - 48)) 0 digits

-- the value of one or more digits
abbrev pub number_of : List ℕ → Option ℕ
number_of bytes = if is_not_empty bytes && list_all is_digit bytes then Some (value_of_digits bytes) else None

-- the value of one or more digits, where it is at most this
abbrev pub number_up_to : ℕ → List ℕ → Option ℕ
number_up_to most bytes = option_and_then (λ value. if nat_le value most then Some value else None) (number_of bytes)

-- the greatest length of a dump's parts, and the greatest revision
abbrev pub greatest_length : ℕ
greatest_length = 9223372036854775807

abbrev pub greatest_revision : ℕ
greatest_revision = 2147483647
