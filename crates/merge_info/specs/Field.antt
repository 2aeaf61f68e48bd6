-- Fields: what stands between the bytes that separate them.
use Rattle.std.specs.Prelude.{ℕ, ◌==◌, List, [], Option, Some, None}
use Rattle.std.specs.List.{slice_split}
use denote.Ref.{Bor}

-- the fields of the bytes that are left, if any are
abbrev pub fields_left : ℕ → Option (Bor (List ℕ)) → List (List ℕ)
fields_left byte None = []
fields_left byte (Some rest) = slice_split (λ each. each == byte) rest.now
