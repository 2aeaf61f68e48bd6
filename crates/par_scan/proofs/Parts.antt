-- What holds of the parts of a list and of what is made of them.
use Rattle.std.proofs.Common.{◌≡◌, ℕ, zero, suc, ◌+◌, ◌-◌, ◌*◌, ◌/◌, ◌%◌, ◌<◌, ◌≤◌, min, List, [], ◌∷◌, ◌++◌, length, get_or, take, drop, map, sym, ap, subst, ◌∙◌, arith, ⊎_elim, length-append, length-drop, length-take, take-append-drop, IfOk, Result, Ok}
use Rattle.std.proofs.lemmas.Result.{IfOk-at_ok}
use Rattle.std.proofs.Math.Seq.{get_or-append_right}
use Rattle.std.proofs.lemmas.List.{get_or_append_left, get_or_push, length_push, length-map, take_all, take-append-le}
use Rattle.std.proofs.Math.ListN.{get_or-map}
use Rattle.std.proofs.Math.Nat.{suc-mul, zero-mul, one-mul, add-mul, mul-le-mul_right}
use Rattle.std.proofs.lemmas.Bool.{cases_lt}
use Rattle.std.proofs.lemmas.Grind.{div_ceil_times}
use Rattle.std.specs.List.{flat_map, sum_by}
use Rattle.std.proofs.lemmas.List.Concat.{flat_map-cons}
use denote.Ref.{Bor}
use denote.Param.Members.{Shared}
use Rattle.std.specs.Fork.{GivesChunks, GivesEach, IsChunk, slice_chunk}
use Rattle.par_scan.specs.Chain.{ActsAsAll, ActsLike, AreJoinedUpTo, IsChain, IsJoined}
use Rattle.par_scan.specs.Making.{AreMade}
use Rattle.par_scan.specs.Parts.{AreOfParts, EachFits, IsAfter, IsFilled, IsScan, IsUpTo, IsUpToPart}
use Rattle.par_scan.proofs.Chains.{IsChain-drop, IsChain-next, IsChain-take, IsJoined-alike, IsJoined-next}

-- one element more
pub IsFilled-push : {M : Type 0} (Suits : ℕ → M → Type 0) (start count : ℕ) (xs : List M) (y : M) → IsFilled Suits start count xs → Suits (start + count) y → IsFilled Suits start (count + 1) (xs ++ y ∷ [])
IsFilled-push {M} Suits start count xs y f s =
    let len : length xs ≡ count = f.len in
    record {
      len = omega (arith, length_push xs y);
      each = λ index d below. ⊎_elim
          (λ h. subst (Suits (start + index)) (sym (get_or_append_left xs (y ∷ []) d index (omega arith))) (f.each index d h))
          (λ h.
          let is : index ≡ count = omega arith in
          subst (λ p. Suits (start + p) (get_or (xs ++ y ∷ []) p d)) (sym is) (subst (Suits (start + count)) (sym (get_or_push xs y d count len)) s))
          (cases_lt index count);
    }

-- lists of elements, each list filling a part, fill the whole one after the other
pub IsFilled-flat : {M X : Type 0} (Suits : ℕ → M → Type 0) (list_of : X → List M) (size : ℕ) (parts : List X) (start count : ℕ) → count ≤ length parts * size → ((part : ℕ) (d : X) → part < length parts → IsFilled Suits (start + part * size) (min size (count - part * size)) (list_of (get_or parts part d))) → IsFilled Suits start count (flat_map list_of parts)
IsFilled-flat Suits list_of size [] start count covers each =
    record { len = omega (arith, zero-mul size); each = λ index d below. absurd (omega (arith, zero-mul size)) }
IsFilled-flat {M} {X} Suits list_of size (part ∷ parts) start count covers each =
    let xs = list_of part in
    let zero_size : 0 * size ≡ 0 = zero-mul size in
    let one : IsFilled Suits (start + 0 * size) (min size (count - 0 * size)) xs = each 0 part (omega arith) in
    let len : length xs ≡ min size count = omega (arith, one.len) in
    let more : count ≤ length parts * size + size = omega (arith, suc-mul (length parts) size) in
    let others : IsFilled Suits (start + size) (count - size) (flat_map list_of parts) =
    IsFilled-flat Suits list_of size parts (start + size) (count - size) (omega arith)
    (λ k d below.
    let next : suc k * size ≡ k * size + size = suc-mul k size in
    let from : start + suc k * size ≡ start + size + k * size = omega arith in
    let left : min size (count - suc k * size) ≡ min size (count - size - k * size) = omega arith in
    subst (λ n. IsFilled Suits (start + size + k * size) n (list_of (get_or parts k d))) left
    (subst (λ s. IsFilled Suits s (min size (count - suc k * size)) (list_of (get_or parts k d))) from (each (suc k) d (omega arith)))) in
    let rest = flat_map list_of parts in
    let is : flat_map list_of (part ∷ parts) ≡ xs ++ rest = flat_map-cons list_of part parts in
    subst (IsFilled Suits start count) (sym is)
    (record {
      len = omega (arith, length-append xs rest, others.len);
      each = λ index d below. ⊎_elim
          (λ h.
          let here : start + 0 * size + index ≡ start + index = omega arith in
          subst (Suits (start + index)) (sym (get_or_append_left xs rest d index (omega arith)))
          (subst (λ p. Suits p (get_or xs index d)) here (one.each index d (omega arith))))
          (λ h.
          let there : start + size + (index - length xs) ≡ start + index = omega arith in
          subst (Suits (start + index)) (sym (get_or-append_right xs rest index d (omega arith)))
          (subst (λ p. Suits p (get_or rest (index - length xs) d)) there (others.each (index - length xs) d (omega arith))))
          (cases_lt index (min size count));
    })

-- n elements that are all items up to each of some cuts, joined, and the next run
module _ {M P : Type 0} (act : M → P → P) (begin end : M → ℕ) (cut : ℕ → ℕ) (items earlier : List M) (n m : ℕ) (x : M) (filled : IsFilled (λ k y. IsJoined act begin end (take (cut (k + 1)) items) y) 0 n earlier) (run : IsJoined act begin end (take m (drop (cut n) items)) x) where
  last-IsJoined : (d : M) → 0 < length earlier → IsJoined act begin end (take (cut n) items) (get_or earlier (length earlier - 1) d)
  last-IsJoined d some =
      let len : length earlier ≡ n = filled.len in
      let is : 0 + (length earlier - 1) + 1 ≡ n = omega arith in
      subst (λ k. IsJoined act begin end (take (cut k) items) (get_or earlier (length earlier - 1) d)) is (filled.each (length earlier - 1) d (omega arith))

  pub next-fits : (weight : M → ℕ) → ((l : List M) (j : M) → ActsAsAll act l j → weight j ≡ sum_by weight l) → IsChain begin end weight items → (d : M) → 0 < length earlier → IsChain begin end weight (get_or earlier (length earlier - 1) d ∷ x ∷ [])
  next-fits weight weighs chain d some = IsChain-next act begin end weight weighs (cut n) m items _ x chain (last-IsJoined d some) run

  pub next-IsJoined : (y : M) → cut 0 ≡ 0 → cut (n + 1) ≡ cut n + m → (length earlier ≡ 0 → ActsLike act begin end x y) → ((d : M) → 0 < length earlier → IsJoined act begin end (get_or earlier (length earlier - 1) d ∷ x ∷ []) y) → IsJoined act begin end (take (cut (n + 1)) items) y
  next-IsJoined y start step alike joined =
      let len : length earlier ≡ n = filled.len in
      ⊎_elim
      (λ some. subst (λ k. IsJoined act begin end (take k items) y) (sym step)
      (IsJoined-next act begin end (cut n) m items _ x y (last-IsJoined x some) run (joined x some)))
      (λ none.
      let empty : n ≡ 0 = omega arith in
      let from : cut n ≡ 0 = ap cut empty ∙ start in
      let to : m ≡ cut (n + 1) = omega arith in
      let same : take m (drop (cut n) items) ≡ take (cut (n + 1)) items = ap (λ k. take m (drop k items)) from ∙ ap (λ k. take k items) to in
      subst (λ l. IsJoined act begin end l y) same (IsJoined-alike act begin end _ x y run (alike (omega arith))))
      (cases_lt 0 (length earlier))

pub length-chunk : {M : Type 0} (items : List M) (size part : ℕ) → length (slice_chunk items size part) ≡ min size (length items - part * size)
length-chunk items size part = omega (arith, length-take size (drop (part * size) items), length-drop (part * size) items)

-- what std's threads give of the chunks of a list
pub AreOfParts-given : {M X : Type 0} (IsOf : List M → X → Type 0) (size : ℕ) (items : List M) (elements : List X) → 0 < size → length elements ≡ length items / size + min 1 (length items % size) → ((part : ℕ) (d : X) → part < length elements → IsOf (slice_chunk items size part) (get_or elements part d)) → AreOfParts IsOf size items elements
AreOfParts-given IsOf size items elements some count each =
    let bounds = div_ceil_times (length items) size some in
    let is : length elements * size ≡ (length items / size + min 1 (length items % size)) * size = ap (λ n. n * size) count in
    record {
      covers = omega (arith, is, bounds.0);
      inside = λ part below.
          let up : part + 1 ≤ length elements = omega arith in
          omega (arith, is, bounds.1, mul-le-mul_right size up, add-mul part 1 size, one-mul size);
      each = each;
    }

-- the same of the values of results
pub AreOfParts-oks : {M X E : Type 0} (IsOf : List M → X → Type 0) (size : ℕ) (items : List M) (results : List (Result X E)) (values : List X) → results ≡ map Ok values → AreOfParts (λ part r. IfOk r (IsOf part)) size items results → AreOfParts IsOf size items values
AreOfParts-oks {M} {X} {E} IsOf size items results values oks parts =
    let len : length results ≡ length values = ap length oks ∙ length-map values Ok in
    record {
      covers = subst (λ n. length items ≤ n * size) len parts.covers;
      inside = λ part below. parts.inside part (omega arith);
      each = λ part d below.
          let read : get_or results part (Ok d) ≡ Ok (get_or values part d) = ap (λ l. get_or l part (Ok d)) oks ∙ get_or-map Ok values part d in
          IfOk-at_ok (IsOf (slice_chunk items size part)) read (parts.each part (Ok d) (omega arith));
    }

-- the values of what threads gave of the chunks of a list
pub AreOfParts-threads : {F M X E : Type 0} (g : Shared F (ℕ × (Bor (List M) × Unit {0})) (Result X E)) (f : F) (IsOf : List M → X → Type 0) (size : ℕ) (items : List M) (results : List (Result X E)) (values : List X) → 0 < size → length results ≡ length items / size + min 1 (length items % size) → GivesChunks g f size items results → ((start : ℕ) (p : Bor (List M)) (r : Result X E) → g.post f (start, (p, tt)) r → IfOk r (IsOf p.now)) → results ≡ map Ok values → AreOfParts IsOf size items values
AreOfParts-threads {F} {M} {X} {E} g f IsOf size items results values some count gives says oks =
    AreOfParts-oks IsOf size items results values oks
    (AreOfParts-given (λ part r. IfOk r (IsOf part)) size items results some count
    (λ part d below.
    let call = (gives part d below).1 in
    subst (λ l. IfOk (get_or results part d) (IsOf l)) call.argument_is.value (says (part * size) call.argument (get_or results part d) call.call)))

-- the last element of a scan is all items, joined
pub scan-end : {M P : Type 0} (act : M → P → P) (begin end : M → ℕ) (items scanned : List M) (d : M) → 0 < length items → IsScan act begin end items scanned → IsJoined act begin end items (get_or scanned (length scanned - 1) d)
scan-end act begin end items scanned d some scan =
    let len : length scanned ≡ length items = scan.len in
    let is : 0 + (length scanned - 1) + 1 ≡ length items = omega arith in
    subst (λ l. IsJoined act begin end l (get_or scanned (length scanned - 1) d)) (ap (λ n. take n items) is ∙ take_all (length items) items (omega arith))
    (scan.each (length scanned - 1) d (omega arith))

-- a chunk of a chain is a chain
pub chunk-IsChain : {M : Type 0} (begin end weight : M → ℕ) (items : List M) (size start : ℕ) (chunk : List M) → IsChain begin end weight items → IsChunk items size start chunk → IsChain begin end weight chunk
chunk-IsChain begin end weight items size start chunk chain is =
    subst (IsChain begin end weight) (sym is.value) (IsChain-take begin end weight size (drop start items) (IsChain-drop begin end weight start items chain))

-- parts of some items have some size
pub some-size : (len parts size : ℕ) → 0 < len → 0 < parts → size ≡ len / parts + min 1 (len % parts) → 0 < size
some-size len parts zero some part is =
    omega (arith, (div_ceil_times len parts part).0, ap (λ n. n * parts) is, zero-mul parts)
some-size len parts (suc n) some part is = omega arith

-- the end of a part that was scanned on its own is the whole part, joined
pub part-end : {M P X : Type 0} (act : M → P → P) (begin end : M → ℕ) (list_of : X → List M) (size : ℕ) (items : List M) (scanned : List X) (part : ℕ) (x : X) (d : M) → 0 < size → AreOfParts (λ run each. IsScan act begin end run (list_of each)) size items scanned → part < length scanned → x ≡ get_or scanned part x → IsJoined act begin end (slice_chunk items size part) (get_or (list_of x) (length (list_of x) - 1) d)
part-end act begin end list_of size items scanned part x d some parts below read =
    let filled : 0 < length (slice_chunk items size part) = omega (arith, length-chunk items size part, parts.inside part below) in
    scan-end act begin end (slice_chunk items size part) (list_of x) d filled
    (subst (λ each. IsScan act begin end (slice_chunk items size part) (list_of each)) (sym read) (parts.each part x below))

-- the values of what threads gave of the numbers below n
pub Each-threads : {F X E : Type 0} (g : Shared F (ℕ × Unit {0}) (Result X E)) (f : F) (Is : ℕ → X → Type 0) (n : ℕ) (results : List (Result X E)) (values : List X) → length results ≡ n → GivesEach g f n results → ((i : ℕ) (r : Result X E) → g.post f (i, tt) r → IfOk r (Is i)) → results ≡ map Ok values → (i : ℕ) (d : X) → i < n → Is i (get_or values i d)
Each-threads g f Is n results values len gives says oks i d below =
    let read : get_or results i (Ok d) ≡ Ok (get_or values i d) = ap (λ l. get_or l i (Ok d)) oks ∙ get_or-map Ok values i d in
    IfOk-at_ok (Is i) read (says i (get_or results i (Ok d)) (gives i (Ok d) below).1.met)

-- parts that are filled in order fill the whole
pub IsFilled-parts : {M X : Type 0} (Suits : ℕ → M → Type 0) (list_of : X → List M) (size count : ℕ) (parts : List X) → count ≤ length parts * size → ((part : ℕ) (d : X) → part < length parts → IsFilled Suits (part * size) (min size (count - part * size)) (list_of (get_or parts part d))) → IsFilled Suits 0 count (flat_map list_of parts)
IsFilled-parts Suits list_of size count parts covers each =
    IsFilled-flat Suits list_of size parts 0 count covers
    (λ part d below.
    let start : part * size ≡ 0 + part * size = omega arith in
    subst (λ n. IsFilled Suits n (min size (count - part * size)) (list_of (get_or parts part d))) start (each part d below))

chunk-take : {M : Type 0} (items : List M) (size part n : ℕ) → n ≤ length (slice_chunk items size part) → take n (slice_chunk items size part) ≡ take n (drop (part * size) items)
chunk-take items size part n within =
    let rest = drop (part * size) items in
    sym (take-append-le n (take size rest) (drop size rest) within) ∙ ap (take n) (take-append-drop size rest)

some-of : {M : Type 0} (xs : List M) → 0 < length xs → M
some-of [] some = absurd (omega arith)
some-of (x ∷ xs) some = x

module _ {M P X : Type 0} (act : M → P → P) (begin end : M → ℕ) (list_of : X → List M) (size : ℕ) (items : List M) (scanned : List X) (parts : AreOfParts (λ run each. IsScan act begin end run (list_of each)) size items scanned) where
  -- an element of a part is the items of the part up to its index, joined
  scanned-run : (part index : ℕ) (p : X) (d : M) → part < length scanned → index < length (list_of (get_or scanned part p)) → IsJoined act begin end (take (index + 1) (drop (part * size) items)) (get_or (list_of (get_or scanned part p)) index d)
  scanned-run part index p d below within =
      let scan : IsScan act begin end (slice_chunk items size part) (list_of (get_or scanned part p)) = parts.each part p below in
      let len = scan.len in
      let is : 0 + index + 1 ≡ index + 1 = omega arith in
      subst (λ l. IsJoined act begin end l (get_or (list_of (get_or scanned part p)) index d))
      (ap (λ n. take n (slice_chunk items size part)) is ∙ chunk-take items size part (index + 1) (omega arith))
      (scan.each index d (omega arith))

  module _ (before : List M) (filled : IsFilled (IsUpToPart act begin end items size) 0 (length scanned - 1) before) where
    before-run : (part : ℕ) (b : M) → part < length before → IsJoined act begin end (take ((part + 1) * size) items) (get_or before part b)
    before-run part b below =
        let len = filled.len in
        let is : 0 + part + 1 ≡ part + 1 = omega arith in
        subst (λ n. IsJoined act begin end (take (n * size) items) (get_or before part b)) is (filled.each part b (omega arith))

    -- what stands before a part fits before each of its elements
    pub parts-fit : (weight : M → ℕ) → ((l : List M) (j : M) → ActsAsAll act l j → weight j ≡ sum_by weight l) → IsChain begin end weight items → (part : ℕ) → part < length before → (b : M) (p : X) → EachFits begin end weight (get_or before part b) (list_of (get_or scanned (part + 1) p))
    parts-fit weight weighs chain part below b p index d within =
        let len = filled.len in
        IsChain-next act begin end weight weighs ((part + 1) * size) (index + 1) items _ _ chain (before-run part b below)
        (scanned-run (part + 1) index p d (omega arith) within)

    module _ (first : X) (later : List X) (some : 0 < length scanned) (read : first ≡ get_or scanned 0 first) (count : length later ≡ length before) (joined : (part : ℕ) (x : X) → part < length before → (b : M) (p : X) → IsFilled (IsAfter act begin end (get_or before part b) (list_of (get_or scanned (part + 1) p))) 0 (length (list_of (get_or scanned (part + 1) p))) (list_of (get_or later part x))) where
      whole-part : (part : ℕ) (x : X) → part < length (first ∷ later) → IsFilled (IsUpTo act begin end items) (part * size) (min size (length items - part * size)) (list_of (get_or (first ∷ later) part x))
      whole-part zero x below =
          let scan : IsScan act begin end (slice_chunk items size 0) (list_of (get_or scanned 0 first)) = parts.each 0 first some in
          let len = ap (λ each. length (list_of each)) read in
          let scan_len = scan.len in
          record {
            len = omega (arith, length-chunk items size 0);
            each = λ index d within.
                let is : index + 1 ≡ 0 * size + index + 1 = omega (arith, zero-mul size) in
                subst (λ n. IsJoined act begin end (take n items) (get_or (list_of first) index d)) is
                (subst (λ each. IsJoined act begin end (take (index + 1) items) (get_or (list_of each) index d)) (sym read)
                (subst (λ n. IsJoined act begin end (take (index + 1) (drop n items)) (get_or (list_of (get_or scanned 0 first)) index d)) (zero-mul size)
                (scanned-run 0 index first d some (omega (arith, length-chunk items size 0)))));
          }
      whole-part (suc part) x below =
          let early : part < length before = omega arith in
          let filled_len = filled.len in
          let there : part + 1 < length scanned = omega arith in
          let next : (part + 1) * size ≡ suc part * size = omega (arith, suc-mul part size, add-mul part 1 size, one-mul size) in
          let made : IsFilled (IsAfter act begin end (get_or before part (some-of before (omega arith))) (list_of (get_or scanned (part + 1) x))) 0 (length (list_of (get_or scanned (part + 1) x))) (list_of (get_or later part x)) =
          joined part x early (some-of before (omega arith)) x in
          let scan : IsScan act begin end (slice_chunk items size (part + 1)) (list_of (get_or scanned (part + 1) x)) = parts.each (part + 1) x there in
          let made_len = made.len in
          let scan_len = scan.len in
          let b = some-of before (omega arith) in
          record {
            len = omega (arith, length-chunk items size (part + 1));
            each = λ index d within.
                let inside : index < length (list_of (get_or scanned (part + 1) x)) = omega (arith, length-chunk items size (part + 1)) in
                let is : (part + 1) * size + (index + 1) ≡ suc part * size + index + 1 = omega arith in
                let at : 0 + index ≡ index = omega arith in
                subst (λ n. IsJoined act begin end (take n items) (get_or (list_of (get_or later part x)) index d)) is
                (IsJoined-next act begin end ((part + 1) * size) (index + 1) items _ _ _ (before-run part b early)
                (scanned-run (part + 1) index x d there inside)
                (subst (λ i. IsJoined act begin end (get_or before part b ∷ get_or (list_of (get_or scanned (part + 1) x)) i d ∷ []) (get_or (list_of (get_or later part x)) index d)) at
                (made.each index d inside d)));
          }

      -- the first part and the joined others are a scan of the whole
      pub parts-scan : IsScan act begin end items (list_of first ++ flat_map list_of later)
      parts-scan =
          let filled_len = filled.len in
          let all : length scanned ≤ suc (length later) = omega arith in
          let covers : length items ≤ length (first ∷ later) * size = omega (arith, parts.covers, mul-le-mul_right size all) in
          subst (IsScan act begin end items) (flat_map-cons list_of first later)
          (IsFilled-parts (IsUpTo act begin end items) list_of size (length items) (first ∷ later) covers whole-part)

pub scan-AreJoinedUpTo : {M P : Type 0} (act : M → P → P) (begin end : M → ℕ) (items joined : List M) → IsScan act begin end items joined → AreJoinedUpTo act begin end items joined
scan-AreJoinedUpTo act begin end items joined scan index d below =
    let is : 0 + index + 1 ≡ index + 1 = omega arith in
    subst (λ n. IsJoined act begin end (take n items) (get_or joined index d)) is (scan.each index d below)

pub IsFilled-AreMade : {K M : Type 0} (gives : K → ℕ → M → Type 0) (maker : K) (n : ℕ) (made : List M) → IsFilled (gives maker) 0 n made → AreMade gives maker made
IsFilled-AreMade gives maker n made filled i d below =
    let is : 0 + i ≡ i = omega arith in
    let len = filled.len in
    subst (λ k. gives maker k (get_or made i d)) is (filled.each i d (omega arith))
