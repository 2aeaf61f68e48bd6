-- Bundles: what stands before and behind the first of a byte is told by the bytes alone.
use Rattle.std.proofs.Common.{◌≡◌, ℕ, ◌+◌, ◌<◌, ◌==◌, leb, Bool, true, false, List, [], ◌∷◌, ◌++◌, Option, Some, None, length, option_and_then, ◌&&◌, if◌then◌else◌, refl, sym, ap, ◌∙◌, arith, length-append, append_assoc, append-nil, All, IsFalse, flat_map, lit<}
use Rattle.std.proofs.lemmas.Bool.{eq-eqb, lt-leb, both_ways}
use Rattle.std.proofs.lemmas.List.Elements.{All-get_or, All-nil, All-head, All-tail, All-push}
use Rattle.std.proofs.Math.Seq.{get_or-append_seam}
use Rattle.std.proofs.lemmas.Grind.{flat_map-append}
use Rattle.std.proofs.lemmas.List.Folds.{list_any_none}
use Rattle.std.proofs.lemmas.List.Splits.{slice_split_at, slice_split_none}
use Rattle.std.specs.List.{list_all, list_any, slice_split}
use Rattle.svn_text.specs.Line.{is_newline, line_text}
use Rattle.svn_text.specs.Number.{is_digit, number_up_to, greatest_revision}
use Rattle.svn_text.specs.Bytes.{is_not_empty}
use Rattle.query_pool.specs.Serving.{most_workers}
use Rattle.svnhist.specs.Bundle.{AreLines, BundleValue, IsBundle}
use Rattle.svn_report.specs.Report.{most_queries}
use Rattle.svn_text.specs.Cut.{Lacks}
use Rattle.svn_text.proofs.Lines.{Lacks-digits, Lacks-list_any}
use Rattle.svn_text.proofs.Cuts.{CutsFirst}
use Rattle.query_answer.proofs.Queries.{slice_split-some}

-- bytes that lack one are not cut at it
pub Lacks-cut : (byte : ℕ) (front back : List ℕ) → Lacks byte (front ++ byte ∷ back) → ⊥
Lacks-cut byte front back none =
    both_ways _
    (All-get_or (λ each. (each == byte) ≡ false) (front ++ byte ∷ back) (length front) 0 (omega (arith, length-append front (byte ∷ back))) none)
    (rw get_or-append_seam (eq-eqb byte byte refl))

-- there is one way to cut bytes at the first of a byte
pub cut_once : (byte : ℕ) (front back other rest : List ℕ) → Lacks byte front → Lacks byte other → front ++ byte ∷ back ≡ other ++ byte ∷ rest → (front ≡ other) × (back ≡ rest)
cut_once byte [] back [] rest no_front no_other same = (refl, cc)
cut_once byte [] back (b ∷ other) rest no_front no_other same =
    let head : byte ≡ b = cc in
    absurd (both_ways _ (All-head (λ each. (each == byte) ≡ false) b other no_other) (eq-eqb b byte (sym head)))
cut_once byte (b ∷ front) back [] rest no_front no_other same =
    let head : b ≡ byte = cc in
    absurd (both_ways _ (All-head (λ each. (each == byte) ≡ false) b front no_front) (eq-eqb b byte head))
cut_once byte (b ∷ front) back (d ∷ other) rest no_front no_other same =
    let head : b ≡ d = cc in
    let tails : front ++ byte ∷ back ≡ other ++ byte ∷ rest = cc in
    let more = cut_once byte front back other rest (All-tail (λ each. (each == byte) ≡ false) b front no_front) (All-tail (λ each. (each == byte) ≡ false) d other no_other) tails in
    (cc, more.1)

-- a number is digits, and so lacks what stands before the digits
number_given : (some all : Bool) (f : ℕ → Option ℕ) (value n : ℕ) → option_and_then f (if some && all then Some value else None) ≡ Some n → all ≡ true
number_given false all f value n found = cc
number_given true false f value n found = cc
number_given true true f value n found = refl

-- a byte below the first digit is none
low-digit : (byte : ℕ) → byte < 48 → is_digit byte ≡ false
low-digit byte low = ap (λ first. first && leb byte 57) (lt-leb 48 byte low)

pub Lacks-number : (byte most : ℕ) (digits : List ℕ) (n : ℕ) → byte < 48 → number_up_to most digits ≡ Some n → Lacks byte digits
Lacks-number byte most digits n low found = Lacks-digits byte digits (low-digit byte low) (number_given (is_not_empty digits) (list_all is_digit digits) _ _ n found)

-- no number stands before the first of a byte that isn't there, or before which no number stands
pub no_number-uncut : (byte most : ℕ) (bytes digits rest : List ℕ) (n : ℕ) → Lacks byte bytes → bytes ≡ digits ++ byte ∷ rest → ⊥
no_number-uncut byte most bytes digits rest n none whole = Lacks-cut byte digits rest (rw whole at none)

pub no_number-cut : (byte most : ℕ) (bytes front back digits rest : List ℕ) (n : ℕ) → byte < 48 → CutsFirst byte bytes front back → None ≡ number_up_to most front → bytes ≡ digits ++ byte ∷ rest → number_up_to most digits ≡ Some n → ⊥
no_number-cut byte most bytes front back digits rest n low cut none whole found =
    let same = cut_once byte front back digits rest cut.first (Lacks-number byte most digits n low found) (sym cut.whole ∙ whole) in
    let other : number_up_to most front ≡ Some n = ap (number_up_to most) same.0 ∙ found in
    cc

-- one number stands before the first of a byte
pub one_number : (byte most least : ℕ) (digits rest others more : List ℕ) (n m : ℕ) → byte < 48 → number_up_to most digits ≡ Some n → number_up_to least others ≡ Some m → digits ++ byte ∷ rest ≡ others ++ byte ∷ more → (digits ≡ others) × (rest ≡ more)
one_number byte most least digits rest others more n m low found again same =
    cut_once byte digits rest others more (Lacks-number byte most digits n low found) (Lacks-number byte least others m low again) same

-- ---- lines

-- lines, each ended by a newline, are the first parts round newlines
slice_split-lines : (lines : List (List ℕ)) (more : List ℕ) → All (λ line. IsFalse (list_any is_newline line)) lines → slice_split is_newline (flat_map line_text lines ++ more) ≡ lines ++ slice_split is_newline more
slice_split-lines [] more each = refl
slice_split-lines (line ∷ lines) more each =
    let one : Lacks 10 line = Lacks-list_any 10 line (All-head (λ line. IsFalse (list_any is_newline line)) line lines each) in
    let whole : flat_map line_text (line ∷ lines) ++ more ≡ line ++ 10 ∷ (flat_map line_text lines ++ more) = simp append_assoc in
    ap (slice_split is_newline) whole
    ∙ slice_split_at is_newline line 10 (flat_map line_text lines ++ more) one refl
    ∙ ap (λ parts. line ∷ parts) (slice_split-lines lines more (All-tail (λ line. IsFalse (list_any is_newline line)) line lines each))

-- bytes do not begin with more lines than they have
pub too_few_lines : (bytes taken rest queries dump : List ℕ) (n count : ℕ) → bytes ≡ taken ++ rest → AreLines n taken → Lacks 10 rest → n < count → bytes ≡ queries ++ dump → AreLines count queries → ⊥
too_few_lines bytes taken rest queries dump n count front few none less whole many =
    let (next, others, same) = slice_split-some is_newline dump in
    let counted : slice_split is_newline bytes ≡ few.lines ++ rest ∷ [] =
    ap (slice_split is_newline) front ∙ ap (λ bs. slice_split is_newline (bs ++ rest)) few.joined ∙ slice_split-lines few.lines rest few.one_line ∙ ap (λ parts. few.lines ++ parts) (slice_split_none is_newline rest none) in
    let asked : slice_split is_newline bytes ≡ many.lines ++ next ∷ others =
    ap (slice_split is_newline) whole ∙ ap (λ bs. slice_split is_newline (bs ++ dump)) many.joined ∙ slice_split-lines many.lines dump many.one_line ∙ ap (λ parts. many.lines ++ parts) same in
    absurd (omega (arith, ap length counted, ap length asked, length-append few.lines (rest ∷ []), length-append many.lines (next ∷ others), few.counted, many.counted))

pub AreLines-none : AreLines 0 []
AreLines-none = record { lines = []; counted = refl; one_line = All-nil (λ line. IsFalse (list_any is_newline line)); joined = refl }

-- one more line
pub AreLines_push : (taken rest front back : List ℕ) (n : ℕ) → AreLines n taken → CutsFirst 10 rest front back → AreLines (n + 1) (taken ++ line_text front)
AreLines_push taken rest front back n lines cut = record {
  lines = lines.lines ++ front ∷ [];
  counted = omega (arith, length-append lines.lines (front ∷ []), lines.counted);
  one_line = All-push (λ line. IsFalse (list_any is_newline line)) lines.lines front lines.one_line (list_any_none is_newline front cut.first);
  joined = ap (λ bs. bs ++ line_text front) lines.joined ∙ sym (flat_map-append line_text lines.lines (front ∷ []) ∙ ap (λ bs. flat_map line_text lines.lines ++ bs) (append-nil (line_text front)));
}

pub moved_line : (bytes taken rest front back : List ℕ) → bytes ≡ taken ++ rest → CutsFirst 10 rest front back → bytes ≡ (taken ++ line_text front) ++ back
moved_line bytes taken rest front back whole cut = whole ∙ ap (λ bs. taken ++ bs) cut.whole ∙ simp append_assoc

-- ---- the parts of a bundle are those that its numbers cut off

module _ (bytes : List ℕ) (value : BundleValue) (parts : IsBundle bytes value) where
  pub behind_first : (digits rest : List ℕ) (n : ℕ) → bytes ≡ digits ++ 32 ∷ rest → number_up_to greatest_revision digits ≡ Some n → rest ≡ parts.second ++ 32 ∷ (parts.third ++ 10 ∷ (value.queries ++ value.dump))
  behind_first digits rest n whole found =
      (one_number 32 greatest_revision greatest_revision digits rest parts.first _ n value.block (lit< tt) found parts.block (sym whole ∙ parts.whole)).1

  pub behind_second : (digits rest more : List ℕ) (n : ℕ) → more ≡ parts.second ++ 32 ∷ (parts.third ++ 10 ∷ (value.queries ++ value.dump)) → more ≡ digits ++ 32 ∷ rest → number_up_to most_workers digits ≡ Some n → (n ≡ value.workers) × (rest ≡ parts.third ++ 10 ∷ (value.queries ++ value.dump))
  behind_second digits rest more n behind whole found =
      let same = one_number 32 most_workers most_workers digits rest parts.second _ n value.workers (lit< tt) found parts.workers (sym whole ∙ behind) in
      let other : number_up_to most_workers digits ≡ Some value.workers = ap (number_up_to most_workers) same.0 ∙ parts.workers in
      (cc, same.1)

  pub behind_third : (digits rest more : List ℕ) (n : ℕ) → more ≡ parts.third ++ 10 ∷ (value.queries ++ value.dump) → more ≡ digits ++ 10 ∷ rest → number_up_to most_queries digits ≡ Some n → (parts.count ≡ n) × (rest ≡ value.queries ++ value.dump)
  behind_third digits rest more n behind whole found =
      let same = one_number 10 most_queries most_queries digits rest parts.third _ n parts.count (lit< tt) found parts.few (sym whole ∙ behind) in
      let other : number_up_to most_queries digits ≡ Some parts.count = ap (number_up_to most_queries) same.0 ∙ parts.few in
      (cc, same.1)
