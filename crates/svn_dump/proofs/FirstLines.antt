-- The first line of a dump, and what stands against it.
use Rattle.svn_dump.proofs.Common.{◌≡◌, ◌≢◌, ℕ, true, List, ◌∷◌, ◌++◌, length, take, drop, ◌&&◌, ◌||◌, refl, sym, ap, ap₂, ◌∙◌, take-append-drop, length-append, get_or, ◌-◌, arith, eq-eqb, Some, None, IsFalse, is_none, nat_eq, before_first, list_any, position_or_len, starts_with, cond-false, cond-true, not_from_false, not_from_true, false_from_ne_true, slice_eq-Decides, drop-append_seam, take-append_seam, get_or-append_right, get_or_append_left, list_any-append, position_or_len_is, is_newline, format_of, line_refusals, magic, format_of_version, first_holding, Magic, Truncated, Version}
use Rattle.std.proofs.Common.{eqb-true}
use Rattle.svn_dump.proofs.Fronts.{All-none}

-- bytes that begin so
magic_there : (bytes : List ℕ) → starts_with nat_eq bytes magic ≡ true → bytes ≡ magic ++ drop (length magic) bytes
magic_there bytes begins =
    sym (take-append-drop (length magic) bytes)
    ∙ ap (λ front. front ++ drop (length magic) bytes) (sym ((slice_eq-Decides (λ a b. (eqb-true a b, eq-eqb a b)) magic (take (length magic) bytes) (starts_with nat_eq bytes magic) refl).0 begins))

sub_self : (n : ℕ) → n - n ≡ 0
sub_self n = omega arith

-- what stands before the first newline
before_first-line : (line more : List ℕ) → IsFalse (list_any is_newline line) → before_first is_newline (line ++ 10 ∷ more) ≡ line
before_first-line line more none =
    let bytes = line ++ 10 ∷ more in
    let position : position_or_len is_newline bytes ≡ length line =
    position_or_len_is is_newline bytes (length line) 0 (omega (arith, length-append line (10 ∷ more)))
    (λ k h. ap is_newline (get_or_append_left line (10 ∷ more) 0 k h) ∙ All-none is_newline line none k 0 h)
    (λ _. ap is_newline (get_or-append_right line (10 ∷ more) (length line) (length line) 0 refl (omega arith) ∙ ap (λ n. get_or (10 ∷ more) n 0) (sub_self (length line)))) in
    ap (λ n. take n bytes) position ∙ take-append_seam line (10 ∷ more)

-- bytes that don't begin so
pub refused_magic : (bytes : List ℕ) → ((rest : List ℕ) → bytes ≢ magic ++ rest) → first_holding (line_refusals bytes) ≡ Some Magic
unfolding first_holding
refused_magic bytes other = cond-true _ _ _ (not_from_false _ (false_from_ne_true _ (λ begins. other _ (magic_there bytes begins))))

module _ (bytes rest : List ℕ) (begins : bytes ≡ magic ++ rest) where
  begins_so : starts_with nat_eq bytes magic ≡ true
  begins_so = ap (λ all. starts_with nat_eq all magic) begins

  newline_is : list_any is_newline bytes ≡ list_any is_newline rest
  newline_is = ap (list_any is_newline) begins

  -- a first line without a newline
  pub refused_cut : IsFalse (list_any is_newline rest) → first_holding (line_refusals bytes) ≡ Some Truncated
  unfolding first_holding
  refused_cut none =
      cond-false _ _ _ (not_from_true _ begins_so)
      ∙ cond-false _ _ _ (ap (λ b. b && is_none (format_of bytes)) (newline_is ∙ none))
      ∙ cond-true _ _ _ (not_from_false _ (newline_is ∙ none))

  module _ (version more : List ℕ) (cut : rest ≡ version ++ 10 ∷ more) (one_line : IsFalse (list_any is_newline version)) where
    version_is : drop (length magic) (before_first is_newline bytes) ≡ version
    version_is =
        ap (λ all. drop (length magic) (before_first is_newline all)) (begins ∙ ap (λ all. magic ++ all) cut)
        ∙ ap (drop (length magic)) (before_first-line (magic ++ version) more one_line) ∙ drop-append_seam magic version

    some_newline : list_any is_newline bytes ≡ true
    some_newline = newline_is ∙ ap (list_any is_newline) cut ∙ list_any-append is_newline version (10 ∷ more) ∙ ap (λ b. b || true) one_line

    -- the version of no format
    pub refused_version : format_of_version version ≡ None → first_holding (line_refusals bytes) ≡ Some Version
    unfolding first_holding
    refused_version other =
        cond-false _ _ _ (not_from_true _ begins_so)
        ∙ cond-true _ _ _ (ap₂ (λ a b. a && is_none (format_of_version b)) some_newline version_is ∙ ap is_none other)
