-- The arguments of a program.
use Rattle.std.specs.Prelude.{ℕ, List, Option, Some, None, Result, Ok, Err, String, Vec, map, string_bytes}
use Rattle.std.specs.declared.alloc.Global.{Global}

-- the arguments as bytes, where they are texts and there was memory for them
abbrev pub texts_of : {E : Type 0} → Result (Vec (String Global) Global) E → Option (List (List ℕ))
texts_of (Ok texts) = Some (map string_bytes texts.items)
texts_of (Err error) = None
