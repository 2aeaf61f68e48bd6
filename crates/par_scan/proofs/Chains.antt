-- What holds of chains and of what is joined of their runs.
use Rattle.std.proofs.Common.{◌≡◌, ℕ, suc, ◌+◌, ◌-◌, ◌<◌, List, [], ◌∷◌, ◌++◌, length, get_or, take, drop, refl, sym, ap, subst, ◌∙◌, arith, length-append, take-append-drop}
use Rattle.std.specs.List.{sum_by}
use Rattle.std.proofs.lemmas.List.{drop_more, get_or_append_left, get_or-append-add}
use Rattle.std.proofs.Math.Seq.{take-add}
use Rattle.std.proofs.lemmas.List.Sums.{sum_by-append, sum_by-cons}
use Rattle.par_scan.specs.Weightless.{no_weight}
use Rattle.par_scan.specs.Chain.{act_all, ActsAsAll, ActsLike, IsChain, IsJoined, Meet}

-- how runs act that stand one after the other
pub act_all-append : {M P : Type 0} (act : M → P → P) (xs ys : List M) (p : P) → act_all act (xs ++ ys) p ≡ act_all act xs (act_all act ys p)
act_all-append act [] ys p = refl
act_all-append act (x ∷ xs) ys p = ap (act x) (act_all-append act xs ys p)

-- the last of the elements after the first one
pub last-cons : {M : Type 0} (x y : M) (xs : List M) (d : M) → get_or (x ∷ y ∷ xs) (length (x ∷ y ∷ xs) - 1) d ≡ get_or (y ∷ xs) (length (y ∷ xs) - 1) d
last-cons x y xs d =
    let long : length (x ∷ y ∷ xs) - 1 ≡ suc (length xs) = omega arith in
    let short : length (y ∷ xs) - 1 ≡ length xs = omega arith in
    ap (λ i. get_or (x ∷ y ∷ xs) i d) long ∙ sym (ap (λ i. get_or (y ∷ xs) i d) short)

module _ {M : Type 0} (begin end : M → ℕ) where
  Meet-front : (xs ys : List M) → Meet begin end (xs ++ ys) → Meet begin end xs
  Meet-front [] ys m = tt
  Meet-front (x ∷ []) ys m = tt
  Meet-front (x ∷ y ∷ xs) ys m = (m.0, Meet-front (y ∷ xs) ys m.1)

  Meet-back : (xs ys : List M) → Meet begin end (xs ++ ys) → Meet begin end ys
  Meet-back [] ys m = m
  Meet-back (x ∷ []) [] m = tt
  Meet-back (x ∷ []) (y ∷ ys) m = m.1
  Meet-back (x ∷ y ∷ xs) ys m = Meet-back (y ∷ xs) ys m.1

  -- the first run ends where the second one begins
  Meet-seam : (xs ys : List M) (d e : M) → 0 < length xs → 0 < length ys → Meet begin end (xs ++ ys) → end (get_or xs (length xs - 1) d) ≡ begin (get_or ys 0 e)
  Meet-seam [] ys d e s t m = absurd (omega arith)
  Meet-seam (x ∷ []) [] d e s t m = absurd (omega arith)
  Meet-seam (x ∷ []) (y ∷ ys) d e s t m = m.0
  Meet-seam (x ∷ y ∷ xs) ys d e s t m = ap end (last-cons x y xs d) ∙ Meet-seam (y ∷ xs) ys d e (omega arith) t m.1

module _ {M : Type 0} (begin end weight : M → ℕ) where
  pub IsChain-front : (xs ys : List M) → IsChain begin end weight (xs ++ ys) → IsChain begin end weight xs
  IsChain-front xs ys c = record { meet = Meet-front begin end xs ys c.meet; light = omega (arith, c.light, sum_by-append weight xs ys) }

  pub IsChain-back : (xs ys : List M) → IsChain begin end weight (xs ++ ys) → IsChain begin end weight ys
  IsChain-back xs ys c = record { meet = Meet-back begin end xs ys c.meet; light = omega (arith, c.light, sum_by-append weight xs ys) }

  pub IsChain-take : (n : ℕ) (xs : List M) → IsChain begin end weight xs → IsChain begin end weight (take n xs)
  IsChain-take n xs c = IsChain-front (take n xs) (drop n xs) (subst (IsChain begin end weight) (sym (take-append-drop n xs)) c)

  pub IsChain-drop : (n : ℕ) (xs : List M) → IsChain begin end weight xs → IsChain begin end weight (drop n xs)
  IsChain-drop n xs c = IsChain-back (take n xs) (drop n xs) (subst (IsChain begin end weight) (sym (take-append-drop n xs)) c)

module _ {M P : Type 0} (act : M → P → P) (begin end : M → ℕ) where
  -- an item is a run of its own
  pub IsJoined-one : (x : M) → IsJoined act begin end (x ∷ []) x
  IsJoined-one x = record { some = omega arith; acts = λ p. refl; begins = λ d. refl; ends = λ d. refl }

  -- what acts as a joined element is joined too
  pub IsJoined-alike : (xs : List M) (x y : M) → IsJoined act begin end xs x → ActsLike act begin end x y → IsJoined act begin end xs y
  IsJoined-alike xs x y j l = record { some = j.some; acts = λ p. l.acts p ∙ j.acts p; begins = λ d. l.begins ∙ j.begins d; ends = λ d. l.ends ∙ j.ends d }

  -- the item at an index is a run of its own
  pub IsJoined-at : (items : List M) (index : ℕ) (x : M) → index < length items → x ≡ get_or items index x → IsJoined act begin end (take 1 (drop index items)) x
  IsJoined-at items index x within read =
      let is : drop index items ≡ x ∷ drop (index + 1) items = drop_more items index x within ∙ ap (λ y. y ∷ drop (index + 1) items) (sym read) in
      subst (λ l. IsJoined act begin end (take 1 l) x) (sym is) (IsJoined-one x)

  -- two runs that are neighbours, joined
  pub IsJoined-both : (xs ys : List M) (a b c : M) → IsJoined act begin end xs a → IsJoined act begin end ys b → IsJoined act begin end (a ∷ b ∷ []) c → IsJoined act begin end (xs ++ ys) c
  IsJoined-both xs ys a b c ja jb jc =
      let some : 0 < length xs = ja.some in
      let other : 0 < length ys = jb.some in
      record {
        some = omega (arith, length-append xs ys);
        acts = λ p. jc.acts p ∙ ja.acts (act b p) ∙ ap (act_all act xs) (jb.acts p) ∙ sym (act_all-append act xs ys p);
        begins = λ d. jc.begins d ∙ ja.begins d ∙ ap begin (sym (get_or_append_left xs ys d 0 some));
        ends = λ d.
            let last : length xs + (length ys - 1) ≡ length (xs ++ ys) - 1 = omega (arith, length-append xs ys) in
            jc.ends d ∙ jb.ends d ∙ ap end (sym (get_or-append-add xs ys (length ys - 1) d) ∙ ap (λ i. get_or (xs ++ ys) i d) last);
      }

module _ {M P : Type 0} (act : M → P → P) (begin end weight : M → ℕ) (weighs : (items : List M) (joined : M) → ActsAsAll act items joined → weight joined ≡ sum_by weight items) where
  -- two runs that are neighbours in a chain, each joined, make a chain
  pub IsChain-pair : (xs ys : List M) (a b : M) → IsChain begin end weight (xs ++ ys) → IsJoined act begin end xs a → IsJoined act begin end ys b → IsChain begin end weight (a ∷ b ∷ [])
  IsChain-pair xs ys a b c ja jb =
      record {
        meet = (ja.ends a ∙ Meet-seam begin end xs ys a b ja.some jb.some c.meet ∙ sym (jb.begins b), tt);
        light = omega (arith, c.light, sum_by-append weight xs ys, weighs xs a ja.acts, weighs ys b jb.acts, sum_by-cons weight a (b ∷ []), sum_by-cons weight b []);
      }

  -- the same of a first run and the next one of a list
  pub IsChain-next : (n m : ℕ) (items : List M) (a b : M) → IsChain begin end weight items → IsJoined act begin end (take n items) a → IsJoined act begin end (take m (drop n items)) b → IsChain begin end weight (a ∷ b ∷ [])
  IsChain-next n m items a b c ja jb =
      IsChain-pair (take n items) (take m (drop n items)) a b
      (subst (IsChain begin end weight) (take-add n m items) (IsChain-take begin end weight (n + m) items c)) ja jb

pub IsJoined-next : {M P : Type 0} (act : M → P → P) (begin end : M → ℕ) (n m : ℕ) (items : List M) (a b c : M) → IsJoined act begin end (take n items) a → IsJoined act begin end (take m (drop n items)) b → IsJoined act begin end (a ∷ b ∷ []) c → IsJoined act begin end (take (n + m) items) c
IsJoined-next act begin end n m items a b c ja jb jc =
    subst (λ l. IsJoined act begin end l c) (sym (take-add n m items))
    (IsJoined-both act begin end (take n items) (take m (drop n items)) a b c ja jb jc)

no_border-Meet : {M : Type 0} (items : List M) → Meet (λ (x : M). 0) (λ x. 0) items
no_border-Meet [] = tt
no_border-Meet (x ∷ []) = tt
no_border-Meet (x ∷ y ∷ xs) = (refl, no_border-Meet (y ∷ xs))

-- elements without weight and border are a chain
pub no_weight-IsChain : {M : Type 0} (items : List M) → IsChain (λ (x : M). 0) (λ x. 0) (λ x. 0) items
no_weight-IsChain items = record { meet = no_border-Meet items; light = omega (arith, no_weight items) }
