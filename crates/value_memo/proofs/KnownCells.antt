-- What is seen of what is known of each cell, and what changes where one of them is answered.
use Rattle.std.proofs.Common.{◌≡◌, ◌≢◌, ℕ, ◌+◌, ◌<◌, ◌≤◌, arith, Bool, List, [], ◌∷◌, length, map, get_or, zero, suc, cond, true, false, Option, Some, None, is_some, slice_get, slice_set, refl, sym, ap, ◌∙◌}
use mir.Val.{bool_byte}
use Rattle.std.specs.Option.{ForSome, option_flatten}
use Rattle.std.proofs.Math.Seq.{map-set_same}
use Rattle.std.proofs.lemmas.Bool.{both_ways}
use Rattle.std.proofs.lemmas.List.{get_or-set_same, length-map, length-set, map-set, set-get_or}
use Rattle.std.proofs.lemmas.List.Sums.{sum_by-set, count_by-le-length}
use Rattle.std.proofs.lemmas.Option.{get_or_from_slice_get, same_Some, slice_get-get_or, slice_get-map, none-some, slice_get_read, slice_get_within}
use Rattle.std.proofs.lemmas.Simd.{map-map}
use Rattle.value_memo.specs.KnownCellValue.{KnownCellValue, IsAnsweredCell, unanswered}
use Rattle.value_memo.specs.SeenValue.{SeenValue, IsAnswered, asked_of, nothing_seen, seen_view, text_at}

-- ---- lists

set_same : {X : Type 0} (xs : List X) (i : ℕ) (x : X) → slice_get xs i ≡ Some x → slice_set xs i x ≡ xs
set_same xs i x there = ap (slice_set xs i) (sym (get_or_from_slice_get xs i x x there)) ∙ set-get_or xs i x

slice_get-set_same : {X : Type 0} (xs : List X) (i : ℕ) (x y : X) → slice_get xs i ≡ Some x → slice_get (slice_set xs i y) i ≡ Some y
slice_get-set_same xs i x y there =
    let within = slice_get_within xs i x there in
    slice_get-get_or (slice_set xs i y) i x (omega (arith, within, length-set xs i y)) ∙ ap Some (get_or-set_same xs i y x within)

map-unchanged : {X Y : Type 0} (f : X → Y) (xs : List X) (i : ℕ) (x y : X) → slice_get xs i ≡ Some x → f y ≡ f x → map f (slice_set xs i y) ≡ map f xs
map-unchanged f xs i x y there same = map-set_same f xs i y x (same ∙ ap f (sym (get_or_from_slice_get xs i x x there)))

map-id : (xs : List ℕ) → map (λ x. x) xs ≡ xs
map-id [] = refl
map-id (x ∷ xs) = ap (λ l. x ∷ l) (map-id xs)

slice_get-set_other : {X : Type 0} (xs : List X) (i other : ℕ) (y : X) → other ≢ i → slice_get (slice_set xs i y) other ≡ slice_get xs other
slice_get-set_other [] i other y apart = refl
slice_get-set_other (x ∷ xs) zero zero y apart = absurd (apart refl)
slice_get-set_other (x ∷ xs) zero (suc other) y apart = refl
slice_get-set_other (x ∷ xs) (suc i) zero y apart = refl
slice_get-set_other (x ∷ xs) (suc i) (suc other) y apart = slice_get-set_other xs i other y (λ same. apart (ap suc same))

-- ---- before anything was asked

pub asked_of-nothing_seen : (memo : List ℕ) → asked_of (nothing_seen memo) ≡ 0
asked_of-nothing_seen [] = refl
asked_of-nothing_seen (cell ∷ memo) = asked_of-nothing_seen memo

pub seen_view-unanswered : (memo : List ℕ) → seen_view (map unanswered memo) 0 ≡ nothing_seen memo
seen_view-unanswered memo =
    rw (map-map (λ cell. cell.name) unanswered memo, map-map (λ cell. cell.text) unanswered memo, map-map (λ cell. cell.own) unanswered memo, map-id memo) refl

-- ---- one cell

module _ (cells : List KnownCellValue) (parses at : ℕ) (cell : KnownCellValue) (there : slice_get cells at ≡ Some cell) where
  pub text_at-cell : text_at (seen_view cells parses) at ≡ cell.text
  text_at-cell = rw (slice_get-map (λ p. p.text) cells at, there) refl

  pub name-cell : slice_get (seen_view cells parses).memo at ≡ Some cell.name
  name-cell = rw (slice_get-map (λ p. p.name) cells at, there) refl

  module _ (text : List ℕ) (new : KnownCellValue) (answered : IsAnsweredCell cell text new) (unknown : cell.text ≡ None) where
    texts-set : map (λ p. p.text) (slice_set cells at new) ≡ slice_set (map (λ p. p.text) cells) at (Some text)
    texts-set = map-set (λ p. p.text) cells at new ∙ ap (slice_set (map (λ p. p.text) cells) at) answered.text

    pub asked_of-answered : (more : ℕ) → asked_of (seen_view (slice_set cells at new) more) ≡ asked_of (seen_view cells parses) + 1
    asked_of-answered more =
        let texts = map (λ p. p.text) cells in
        let here : slice_get texts at ≡ Some None = slice_get-map (λ p. p.text) cells at ∙ rw (there, unknown) refl in
        let changed = sum_by-set (λ o. cond (is_some o) 1 0) texts at (Some text) None (slice_get_within texts at None here) in
        let before = get_or_from_slice_get texts at None None here in
        rw texts-set (omega (arith, rw before at changed))

    text_at-answered : (more : ℕ) → text_at (seen_view (slice_set cells at new) more) at ≡ Some text
    text_at-answered more = rw (slice_get-map (λ p. p.text) (slice_set cells at new) at, slice_get-set_same cells at cell new there, answered.text) refl

    own-answered : (more : ℕ) → slice_get (seen_view (slice_set cells at new) more).own at ≡ Some new.own
    own-answered more = rw (slice_get-map (λ p. p.own) (slice_set cells at new) at, slice_get-set_same cells at cell new there) refl

    pub IsAnswered-cell : (more : ℕ) → parses ≤ more → more ≤ parses + 1 → (new.own ≡ true → more ≡ parses + 1) → IsAnswered (seen_view cells parses) at text (seen_view (slice_set cells at new) more)
    IsAnswered-cell more least most counted = record {
      memo = map-unchanged (λ p. p.name) cells at cell new there answered.name;
      texts = texts-set;
      others = λ other apart. ap (λ own. slice_get own other) (map-set (λ p. p.own) cells at new) ∙ slice_get-set_other (map (λ p. p.own) cells) at other new.own apart;
      known = text_at-answered more;
      again = λ before. absurd (none-some text (sym (text_at-cell ∙ unknown) ∙ before));
      asked = λ _. asked_of-answered more;
      parses = least;
      one_parse = most;
      kept = λ _ own. counted (same_Some new.own true (sym (own-answered more) ∙ own));
    }

-- ---- a number that was answered for before

slice_get-answered : (texts : List (Option (List ℕ))) (at : ℕ) (text : List ℕ) → option_flatten (slice_get texts at) ≡ Some text → slice_get texts at ≡ Some (Some text)
slice_get-answered [] at text known = absurd (none-some text known)
slice_get-answered (first ∷ texts) zero text known = ap Some known
slice_get-answered (first ∷ texts) (suc at) text known = slice_get-answered texts at text known

pub IsAnswered-again : (seen : SeenValue) (id : ℕ) (text : List ℕ) → text_at seen id ≡ Some text → IsAnswered seen id text seen
IsAnswered-again seen id text known = record {
  memo = refl;
  texts = sym (set_same seen.texts id (Some text) (slice_get-answered seen.texts id text known));
  others = λ other apart. refl;
  known = known;
  again = λ _. refl;
  asked = λ unknown. absurd (none-some text (sym unknown ∙ known));
  parses = omega arith;
  one_parse = omega arith;
  kept = λ unknown. absurd (none-some text (sym unknown ∙ known));
}

-- a number that may be asked for with the text was answered for with this text, or not at all
pub MayAsk-cases : (before : Option (List ℕ)) (text : List ℕ) → ForSome before (λ t. t ≡ text) → is_some before ≡ true → before ≡ Some text
MayAsk-cases None text may answered = cc
MayAsk-cases (Some t) text may answered = ap Some (may t refl)

pub None-unless : (o : Option (List ℕ)) → false ≡ is_some o → o ≡ None
None-unless None unknown = refl
None-unless (Some text) unknown = cc

pub bool_byte-le-1 : (b : Bool) → bool_byte b ≤ 1
bool_byte-le-1 true = omega arith
bool_byte-le-1 false = omega arith

-- a reading that the worker keeps itself is counted
pub own-counted : (is_read own : Bool) (parses : ℕ) → (is_read ≡ false → own ≡ false) → own ≡ true → parses + bool_byte is_read ≡ parses + 1
own-counted true own parses shared is_own = refl
own-counted false own parses shared is_own = absurd (both_ways own (shared refl) is_own)

-- what is known of the cell of a number of the memo
pub cell_at : (cells : List KnownCellValue) (parses : ℕ) (seen : SeenValue) (memo : List ℕ) (at : ℕ) (cell : KnownCellValue) → seen_view cells parses ≡ seen → seen.memo ≡ memo → at < length memo → cell ≡ get_or cells at cell → slice_get cells at ≡ Some cell
cell_at cells parses seen memo at cell view same within read =
    slice_get_read cells (length cells) at cell refl (omega (arith, within, ap length same, ap (λ s. length s.memo) view, length-map cells (λ p. p.name))) read

-- it stays as it was
pub seen_view-same : (cells : List KnownCellValue) (parses at : ℕ) (cell : KnownCellValue) → slice_get cells at ≡ Some cell → seen_view (slice_set cells at cell) parses ≡ seen_view cells parses
seen_view-same cells parses at cell there = ap (λ p. seen_view p parses) (set_same cells at cell there)

pub asked_of-fits : (cells : List KnownCellValue) (parses : ℕ) → asked_of (seen_view cells parses) ≤ length cells
asked_of-fits cells parses = let texts = map (λ p. p.text) cells in omega (arith, count_by-le-length is_some texts, length-map cells (λ p. p.text))
