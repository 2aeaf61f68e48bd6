-- The body of a block as it comes, piece by piece.
use Rattle.svn_dump.proofs.Common.{◌≡◌, ℕ, zero, suc, ◌-◌, false, List, [], ◌∷◌, ◌++◌, length, take, drop, inl, inr, refl, sym, ap, ap₂, subst, ◌∙◌, arith, length-append, length-take, take-append-drop, Option, MatchOption, cases_lt, ne_eqb, PartialBody}
use Rattle.std.proofs.Common.{nat_eq}
use Rattle.std.specs.Bool.{then_some}
use Rattle.std.specs.Borrow.{Bor}
use Rattle.std.proofs.lemmas.Bool.{eq-eqb}
use Rattle.std.proofs.lemmas.List.{take_all}
use Rattle.svn_dump.specs.PartialBody.{EndsBody, ExtendsBody, IsPartialBody}

-- the front of a list and of what follows it
pub take-both : (n : ℕ) (front back : List ℕ) → take n (front ++ back) ≡ take n front ++ take (n - length front) back
take-both zero [] back = refl
take-both (suc n) [] back = ap (λ k. take k back) (let same : suc n ≡ suc n - 0 = omega arith in same)
take-both zero (byte ∷ front) back = ap (λ k. take k back) (let none : 0 ≡ 0 - suc (length front) = omega arith in none)
take-both (suc n) (byte ∷ front) back =
    ap (λ all. byte ∷ all)
    (take-both n front back ∙ ap (λ k. take n front ++ take k back) (let same : n - length front ≡ suc n - suc (length front) = omega arith in same))

module _ (old new : PartialBody) (piece : List ℕ) (kept : new.section.items ≡ old.section.items ++ take old.wanted (take old.left piece)) (wanted : new.wanted ≡ old.wanted - length (take old.wanted (take old.left piece))) (left : new.left ≡ old.left - length (take old.left piece)) where
  -- so much of the piece belongs to the body
  after_piece : (section whole : ℕ) (come : List ℕ) → IsPartialBody old section whole come → IsPartialBody new section whole (come ++ take old.left piece)
  after_piece section whole come is =
      let body = take old.left piece in
      let longer = length-append come body in
      let most = length-take old.left piece in
      let front = length-take old.wanted body in record {
        within = is.within;
        kept = kept ∙ ap₂ (λ first n. first ++ take n body) is.kept is.wanted ∙ sym (take-both section come body);
        wanted = omega (arith, wanted, is.wanted, longer, front);
        left = omega (arith, left, is.left, longer, most);
      }

  pub extended : (result : Option (Bor (List ℕ))) (rest : Bor (List ℕ)) → rest.now ≡ drop old.left piece → result ≡ then_some (nat_eq (old.left - length (take old.left piece)) 0) rest → MatchOption result (ExtendsBody old new piece) (λ after. EndsBody old new piece after.now)
  extended result rest back given = elim (cases_lt (length piece) old.left) [
    | inl short ↦
        let some : nat_eq (old.left - length (take old.left piece)) 0 ≡ false = ne_eqb _ 0 (λ none. omega (arith, none, short, length-take old.left piece)) in
        subst (λ o. MatchOption o (ExtendsBody old new piece) (λ after. EndsBody old new piece after.now)) (sym (given ∙ ap (λ b. then_some b rest) some))
        (record {
          short = short;
          extends = λ section whole come is.
              subst (λ all. IsPartialBody new section whole (come ++ all)) (take_all old.left piece (omega (arith, short))) (after_piece section whole come is);
        })
    | inr enough ↦
        let nothing : old.left - length (take old.left piece) ≡ 0 = omega (arith, length-take old.left piece, enough) in
        subst (λ o. MatchOption o (ExtendsBody old new piece) (λ after. EndsBody old new piece after.now)) (sym (given ∙ ap (λ b. then_some b rest) (eq-eqb _ 0 nothing)))
        (record {
          last = take old.left piece;
          whole = sym (take-append-drop old.left piece) ∙ ap (λ all. take old.left piece ++ all) (sym back);
          ends = after_piece;
          none = left ∙ nothing;
        })
  ]
