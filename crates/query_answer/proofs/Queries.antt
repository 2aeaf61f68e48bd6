-- What a line asks, by the cuts of the line.
use Rattle.query_answer.proofs.Common.{◌≡◌, ℕ, Bool, List, [], ◌∷◌, Option, None, option_map, refl, sym, ap, ◌∙◌, inl, inr, cases_Bool, false_from_ne_true, slice_split, HasDot, PegValue, peg_value_of, bad, is_tab, query_of, query_of_fields}
use Rattle.svn_text.specs.Number.{number_up_to, greatest_revision}
use Rattle.svn_text.proofs.Lines.{list_any-Lacks}
use Rattle.svn_text.specs.Cut.{IsCutAt, IsCutAtLast, Lacks}
use Rattle.query_answer.specs.Range.{range_of}
use Rattle.svn_text.proofs.Cuts.{CutsFirst-IsCutAt, slice_split-cut, slice_split-uncut}
use Rattle.svn_text.proofs.Cuts.{list_any-cut, before_last-cut, after_last-cut}

-- the parts of bytes are never none
pub slice_split-some : (p : ℕ → Bool) (bytes : List ℕ) → (first : List ℕ) × (more : List (List ℕ)) × (slice_split p bytes ≡ first ∷ more)
slice_split-some p [] = ([], [], refl)
slice_split-some p (byte ∷ bytes) = elim (cases_Bool (p byte)) [
  | inl ends ↦ ([], slice_split p bytes, rw ends refl)
  | inr goes ↦ let (first, more, same) = slice_split-some p bytes in (byte ∷ first, more, rw (goes, same) refl)
]

-- the peg of a field, by the number that stands behind its last `@`
abbrev pub peg_with : List ℕ → ℕ → PegValue
peg_with path rev = record { path = path; rev = rev }

pub peg_value_of-cut : (field path rev : List ℕ) → IsCutAtLast 64 field path rev → (HasDot path → ⊥) → (found : Option ℕ) → found ≡ number_up_to greatest_revision rev → option_map (peg_with path) found ≡ peg_value_of field
peg_value_of-cut field path rev cut fine found number =
    sym (rw (list_any-cut 64 field path rev cut, after_last-cut 64 field path rev cut, before_last-cut 64 field path rev cut, false_from_ne_true _ fine)
    (ap (option_map (peg_with path)) (sym number)))

pub peg_value_of-dot : (field path rev : List ℕ) → IsCutAtLast 64 field path rev → HasDot path → None ≡ peg_value_of field
peg_value_of-dot field path rev cut dot = sym (rw (list_any-cut 64 field path rev cut, before_last-cut 64 field path rev cut, dot) refl)

pub peg_value_of-uncut : (field : List ℕ) → Lacks 64 field → None ≡ peg_value_of field
peg_value_of-uncut field none = sym (rw (list_any-Lacks 64 field none) refl)

-- a field without a colon is no range
pub range_of-uncut : (field : List ℕ) → Lacks 58 field → None ≡ range_of field
range_of-uncut field none = sym (rw (list_any-Lacks 58 field none) refl)

-- ---- fields

pub split-cut : {line field rest : List ℕ} → IsCutAt 9 line field rest
    → slice_split is_tab line ≡ field ∷ slice_split is_tab rest
split-cut {line} {field} {rest} cut = slice_split-cut 9 line field rest (CutsFirst-IsCutAt 9 line field rest cut)

-- those of a line without a tab, and of one with one tab, with two and with three
pub one_field : {line : List ℕ} → Lacks 9 line → slice_split is_tab line ≡ line ∷ []
one_field {line} none = slice_split-uncut 9 line none

pub two_fields : {line verb rest : List ℕ} → IsCutAt 9 line verb rest → Lacks 9 rest
    → slice_split is_tab line ≡ verb ∷ rest ∷ []
two_fields {verb = verb} cut none = split-cut cut ∙ ap (λ fields. verb ∷ fields) (one_field none)

pub three_fields : {line verb rest peg more : List ℕ} → IsCutAt 9 line verb rest → IsCutAt 9 rest peg more
    → Lacks 9 more → slice_split is_tab line ≡ verb ∷ peg ∷ more ∷ []
three_fields {verb = verb} cut again none = split-cut cut ∙ ap (λ fields. verb ∷ fields) (two_fields again none)

pub four_fields : {line verb rest peg more field last : List ℕ} → IsCutAt 9 line verb rest → IsCutAt 9 rest peg more
    → IsCutAt 9 more field last → Lacks 9 last → slice_split is_tab line ≡ verb ∷ peg ∷ field ∷ last ∷ []
four_fields {verb = verb} cut again third none =
    split-cut cut ∙ ap (λ fields. verb ∷ fields) (three_fields again third none)

-- a line with more tabs
pub query_of-more : {line verb rest peg more field last range others : List ℕ} → IsCutAt 9 line verb rest
    → IsCutAt 9 rest peg more → IsCutAt 9 more field last → IsCutAt 9 last range others → query_of line ≡ bad
query_of-more {verb = verb} {peg = peg} {field = field} {range = range} {others = others} cut again third fourth =
    let (next, fields, same) = slice_split-some is_tab others in
    ap query_of_fields
    (split-cut cut ∙ ap (λ all. verb ∷ all) (split-cut again ∙ ap (λ all. peg ∷ all) (split-cut third
    ∙ ap (λ all. field ∷ all) (split-cut fourth ∙ ap (λ all. range ∷ all) same))))
