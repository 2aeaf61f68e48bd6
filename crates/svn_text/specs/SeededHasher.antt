-- What a seeded hash computes. No contract of a table depends on it.
use Rattle.std.specs.Prelude.{ℕ, zero, suc, ◌+◌, ◌-◌, ◌*◌, ◌/◌, ◌%◌, ◌^◌, List, length, if◌then◌else◌, nat_le, bit_xor}
use Rattle.std.specs.Hash.FoldHasher.{folded_multiply, read_short, read_u64}
use Rattle.svn_text.specs.declared.seeded_hasher.SeededHasher.{SeededHasher}

abbrev pub hasher_of : ℕ → ℕ → SeededHasher
hasher_of state factor = record { state = state; factor = factor }

-- the state after the words at i and at j
abbrev pub mix : List ℕ → ℕ → ℕ → ℕ → ℕ → ℕ
mix bytes factor state i j = folded_multiply (bit_xor (read_u64 bytes i) state) (bit_xor (read_u64 bytes j) factor)

-- the state after the first n blocks of 16 bytes
unfoldable pub mix_blocks : List ℕ → ℕ → ℕ → ℕ → ℕ
mix_blocks bytes factor state zero = state
mix_blocks bytes factor state (suc n) = mix bytes factor (mix_blocks bytes factor state n) (16 * n) (16 * n + 8)

-- the state after up to 8 bytes
abbrev pub after_short : ℕ → ℕ → List ℕ → ℕ
after_short factor state bytes = folded_multiply (bit_xor state (read_short bytes)) (bit_xor factor (length bytes))

-- the state after more than 8 bytes: all blocks but the last, and the last 16 bytes, which may overlap with the one before
abbrev pub after_long : ℕ → ℕ → List ℕ → ℕ
after_long factor state bytes =
    let n = length bytes in
    mix bytes factor (mix_blocks bytes factor ((state + n) % 2 ^ 64) ((n - 1) / 16)) (n - 16) (n - 8)

unfoldable pub state_after : ℕ → ℕ → List ℕ → ℕ
state_after factor state bytes =
    if nat_le (length bytes) 8 then after_short factor state bytes else after_long factor state bytes

abbrev pub finished : SeededHasher → ℕ
finished h = folded_multiply h.state h.factor

abbrev pub written : SeededHasher → List ℕ → SeededHasher
written h bytes = record { state = state_after h.factor h.state bytes; factor = h.factor }
