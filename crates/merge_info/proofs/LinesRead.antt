-- What a text says before one of its lines is read.
use Rattle.merge_info.proofs.Common.{◌≡◌, ℕ, ◌==◌, true, false, List, [], ◌∷◌, Some, length, refl, sym, arith, false≢true, strip_last, slice_split, is_newline, IsLine, line_of, lines_of}
use Rattle.std.proofs.Common.{eqb-true}
use Rattle.merge_info.proofs.Collected.{AreCollected, AreCollected-none}

-- a text without a line
pub lines_of-none : (text bytes : List ℕ) → bytes ≡ strip_last 10 text → true ≡ (length bytes == 0) → lines_of text ≡ Some []
unfolding lines_of
lines_of-none text [] is none = rw (← is) refl
lines_of-none text (byte ∷ bytes) is none = absurd (omega (arith, eqb-true (length (byte ∷ bytes)) 0 (sym none)))

-- any other text
pub lines_of-some : (text bytes : List ℕ) → bytes ≡ strip_last 10 text → false ≡ (length bytes == 0) → AreCollected line_of IsLine (lines_of text) [] (slice_split is_newline bytes)
unfolding lines_of
lines_of-some text [] is some = absurd (false≢true some)
lines_of-some text (byte ∷ bytes) is some = AreCollected-none (rw (← is) refl)
