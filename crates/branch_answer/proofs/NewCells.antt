-- What is new of neighbouring revisions, one by one.
use Rattle.std.proofs.Common.{◌≡◌, ◌∙◌, ℕ, ◌+◌, ◌<◌, Bool, true, false, List, Option, None, Some, refl, sym, ap, ap₂, arith, get_or, is_some, length, map, nat_lt, if◌then◌else◌}
use Rattle.std.specs.List.{range_with_len}
use Rattle.std.proofs.lemmas.List.{get_or-map, length-map, same_lists}
use Rattle.std.proofs.lemmas.List.FromFn.{get_or-map-range_with_len, length-map-range_with_len}
use Rattle.range_list.specs.Rangelist.{inheritability_of, is_in, is_inheritable}
use Rattle.range_list.specs.declared.run.Run.{Run}
use Rattle.branch_answer.specs.Holding as view
use Rattle.branch_answer.specs.KeptHolding.{holding_view}
use Rattle.branch_answer.specs.KeptNew.{AreNewOnly, is_more, kept_extent, new_cell}
use Rattle.branch_answer.specs.NewRevisions.{extent, more_held}
use Rattle.branch_answer.specs.declared.holding.Holding.{Holding}
use Rattle.branch_answer.specs.declared.holding.Holding.TheVariants.{Below, InHistory, InPart, Merged, Not}
use Rattle.branch_answer.specs.declared.holdings.Holdings.{Holdings}

-- ---- one revision

pub extent-view : (texts : List (List ℕ)) (how : Holding) → extent (holding_view texts how) ≡ kept_extent how
extent-view texts Not = refl
extent-view texts (Below index) = refl
extent-view texts InPart = refl
extent-view texts Merged = refl
extent-view texts InHistory = refl

is_more-view : (texts other_texts : List (List ℕ)) (one other : Holding) → nat_lt (extent (holding_view texts one)) (extent (holding_view other_texts other)) ≡ is_more one other
is_more-view texts other_texts one other = ap₂ nat_lt (extent-view texts one) (extent-view other_texts other)

-- how a kept cell is seen
pub view-new_cell : (texts other_texts : List (List ℕ)) (uncounted : Bool) (one other : Holding)
    → holding_view other_texts (new_cell uncounted one other) ≡ (if uncounted then None else more_held (holding_view texts one) (holding_view other_texts other))
view-new_cell texts other_texts true one other = refl
view-new_cell texts other_texts false one other =
    by (is_more one other) ∙ ap (λ b. if b then holding_view other_texts other else None) (sym (is_more-view texts other_texts one other))
  where
    by : (more : Bool) → holding_view other_texts (if more then other else Not) ≡ (if more then holding_view other_texts other else None)
    by true = refl
    by false = refl

-- it makes no difference
pub either_way : (how : Option view.Holding) (b : Bool) → (if b then how else how) ≡ how
either_way how true = refl
either_way how false = refl

-- something is held where more of it is held
is_some-more : (how : view.Holding) (more : Bool) → is_some (if more then Some how else None) ≡ more
is_some-more how true = refl
is_some-more how false = refl

pub is_some-more_held : (one other : Option view.Holding) → is_some (more_held one other) ≡ nat_lt (extent one) (extent other)
is_some-more_held one (Some how) = is_some-more how (nat_lt (extent one) (extent (Some how)))
is_some-more_held None None = refl
is_some-more_held (Some view.in_history) None = refl
is_some-more_held (Some view.merged) None = refl
is_some-more_held (Some view.in_part) None = refl
is_some-more_held (Some (view.in_part_below path)) None = refl

-- a revision has an inheritability if the runs have it
pub is_some-inheritability : (runs : List Run) (rev : ℕ) → is_some (inheritability_of runs rev) ≡ is_in runs rev
is_some-inheritability runs rev = by (is_in runs rev)
  where
    by : (has : Bool) → is_some (if has then Some (is_inheritable runs rev) else None) ≡ has
    by true = refl
    by false = refl

-- ---- neighbouring revisions

-- what is new of a revision, given how it is held
abbrev pub newly : (one other : ℕ → Option view.Holding) → List Run → ℕ → Option view.Holding
newly one other uncounted rev = if is_in uncounted rev then None else more_held (one rev) (other rev)

module _ (first count : ℕ) (how : ℕ → Option view.Holding) (texts : List (List ℕ)) (cells : List Holding)
    (are : map (holding_view texts) cells ≡ map how (range_with_len first count)) where
  pub length-cells : length cells ≡ count
  length-cells = sym (length-map cells (holding_view texts)) ∙ ap length are ∙ length-map-range_with_len how first count

  pub view-cell : (k : ℕ) → k < count → holding_view texts (get_or cells k Not) ≡ how (first + k)
  view-cell k within =
      let some : k < length cells = omega (arith, within, length-cells) in
      sym (get_or-map (holding_view texts) cells k Not None some)
      ∙ ap (λ all. get_or all k None) are ∙ get_or-map-range_with_len how first count k (first + k) None within refl

module _ (first count : ℕ) (one other : ℕ → Option view.Holding) (texts other_texts : List (List ℕ)) (uncounted : List Run) where
  -- the cells that are kept are those that are new
  pub cells-new : (ones old new : Holdings) → old.first ≡ first
      → map (holding_view texts) ones.how.items ≡ map one (range_with_len first count)
      → map (holding_view other_texts) old.how.items ≡ map other (range_with_len first count)
      → AreNewOnly ones uncounted old new
      → map (holding_view other_texts) new.how.items ≡ map (newly one other uncounted) (range_with_len first count)
  cells-new ones old new begin one_are other_are are =
      let view = holding_view other_texts in
      let many : length old.how.items ≡ count = length-cells first count other other_texts old.how.items other_are in
      let all : length (map view new.how.items) ≡ count = length-map new.how.items view ∙ are.count ∙ many in
      same_lists (map view new.how.items) (map (newly one other uncounted) (range_with_len first count)) (all ∙ sym (length-map-range_with_len (newly one other uncounted) first count))
      (λ k d within.
      let some : k < count = omega (arith, within, all) in
      let old_cell = get_or old.how.items k Not in
      let one_cell = get_or ones.how.items k Not in
      get_or-map view new.how.items k Not d (omega (arith, some, many, are.count))
      ∙ ap view (are.how k (omega (arith, some, many)))
      ∙ view-new_cell texts other_texts (is_in uncounted (old.first + k)) one_cell old_cell
      ∙ (λ i. if is_in uncounted (begin i + k) then None
      else more_held (view-cell first count one texts ones.how.items one_are k some i) (view-cell first count other other_texts old.how.items other_are k some i))
      ∙ sym (get_or-map-range_with_len (newly one other uncounted) first count k (first + k) d some refl))
