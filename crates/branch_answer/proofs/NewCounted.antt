-- How many revisions are new.
use Rattle.std.proofs.Common.{◌≡◌, ◌∙◌, ℕ, zero, suc, ◌+◌, ◌-◌, ◌<◌, ◌≤◌, Bool, true, false, not, ◌&&◌, List, [], ◌∷◌, ◌++◌, Option, None, Some, refl, sym, ap, arith, filter_map, get_or, is_some, length, length-append, map, if◌then◌else◌}
use Rattle.std.specs.Prelude.{count_by, nat_lt, option_map}
use Rattle.std.specs.Int.{from_bool}
use Rattle.std.specs.List.{cons_option, range_with_len}
use Rattle.std.proofs.Math.Nat.{add_comm}
use Rattle.std.proofs.lemmas.List.Elements.{filter_map-append}
use Rattle.std.proofs.lemmas.List.FromFn.{fill_by_all, get_or-map-range_with_len, length-map-range_with_len, sum_by-map-range_with_len_more}
use Rattle.std.proofs.lemmas.List.Sums.{count_by-le-length, sum_by-cons}
use Rattle.path_index.specs.Operative.{down_from}
use Rattle.range_list.specs.Rangelist.{is_in}
use Rattle.range_list.specs.declared.run.Run.{Run}
use Rattle.branch_answer.specs.Holding as view
use Rattle.branch_answer.specs.Holding.{those_held}
use Rattle.branch_answer.specs.KeptHolding.{holding_view}
use Rattle.branch_answer.specs.KeptNew.{count_new, is_new_at}
use Rattle.branch_answer.specs.NewRevisions.{extent, more_held}
use Rattle.branch_answer.specs.declared.holding.Holding.{Holding}
use Rattle.branch_answer.specs.declared.holding.Holding.TheVariants.{Not}
use Rattle.branch_answer.proofs.HeldLines.{held}
use Rattle.path_index.proofs.DownFrom.{down_from_more}
use Rattle.branch_answer.proofs.NewCells.{extent-view, is_some-more_held, newly, view-cell}

-- ---- of those that are held

module _ (how : ℕ → Option view.Holding) where
  abbrev is_held : ℕ → Bool
  is_held rev = is_some (how rev)

  length-one : (rev : ℕ) → length (cons_option (held how rev) []) ≡ (if is_held rev then 1 else 0)
  length-one rev = by (how rev)
    where
      by : (each : Option view.Holding) → length {A = ℕ × view.Holding} (cons_option (option_map (λ one. (rev, one)) each) []) ≡ (if is_some each then 1 else 0)
      by None = refl
      by (Some each) = refl

  -- so many revisions up, and down
  pub count-down : (first n top : ℕ) → top + 1 ≡ first + n → count_by (λ each. each) (map is_held (range_with_len first n)) ≡ length (filter_map (held how) (down_from n top))
  count-down first zero top is = refl
  count-down first (suc n) top is =
      let last : top - n ≡ first = omega (arith, is) in
      let others : ℕ = length (filter_map (held how) (down_from n top)) in
      let here : ℕ = if is_held first then 1 else 0 in
      sum_by-cons (λ (each : Bool). if each then 1 else 0) (is_held first) (map is_held (range_with_len (first + 1) n))
      ∙ ap (λ count. here + count) (count-down (first + 1) n top (omega (arith, is)))
      ∙ add_comm here others
      ∙ ap (λ count. others + count) (sym (length-one first))
      ∙ sym (length-append (filter_map (held how) (down_from n top)) (cons_option (held how first) []))
      ∙ ap length (sym (filter_map-append (held how) (down_from n top) (first ∷ [])))
      ∙ ap (λ revs. length (filter_map (held how) revs)) (sym (down_from_more n top ∙ ap (λ rev. down_from n top ++ rev ∷ []) last))

-- ---- of those that are new

module _ (count : ℕ) (one other : ℕ → Option view.Holding) (texts other_texts : List (List ℕ)) (uncounted : List Run)
    (counts : List Bool) (ones others : List Holding) (counts_are : counts ≡ map (λ rev. not (is_in uncounted rev)) (range_with_len 0 count))
    (one_are : map (holding_view texts) ones ≡ map one (range_with_len 0 count)) (other_are : map (holding_view other_texts) others ≡ map other (range_with_len 0 count)) where
  is_some-newly : (rev : ℕ) → is_some (newly one other uncounted rev) ≡ (not (is_in uncounted rev) && nat_lt (extent (one rev)) (extent (other rev)))
  is_some-newly rev = by (is_in uncounted rev)
    where
      by : (out : Bool) → is_some (if out then None else more_held (one rev) (other rev)) ≡ (not out && nat_lt (extent (one rev)) (extent (other rev)))
      by true = refl
      by false = is_some-more_held (one rev) (other rev)

  is_new_at-newly : (k : ℕ) → k < count → is_new_at counts ones others k ≡ is_some (newly one other uncounted k)
  is_new_at-newly k within =
      let from : 0 + k ≡ k = omega arith in
      let counted : get_or counts k false ≡ not (is_in uncounted k) =
      ap (λ all. get_or all k false) counts_are ∙ get_or-map-range_with_len (λ rev. not (is_in uncounted rev)) 0 count k k false within from in
      let extent_one = sym (extent-view texts (get_or ones k Not)) ∙ ap extent (view-cell 0 count one texts ones one_are k within ∙ ap one from) in
      let extent_other = sym (extent-view other_texts (get_or others k Not)) ∙ ap extent (view-cell 0 count other other_texts others other_are k within ∙ ap other from) in
      (λ i. counted i && nat_lt (extent_one i) (extent_other i)) ∙ sym (is_some-newly k)

  pub count_new-held : (top : ℕ) → top + 1 ≡ count → count_new counts ones others ≡ length (those_held (newly one other uncounted) (0, top))
  count_new-held top last =
      let all : length counts ≡ count = ap length counts_are ∙ length-map-range_with_len (λ rev. not (is_in uncounted rev)) 0 count in
      let many : top + 1 - 0 ≡ count = omega (arith, last) in
      ap (λ n. count_by (λ each. each) (map (is_new_at counts ones others) (range_with_len 0 n))) all
      ∙ ap (count_by (λ each. each)) (fill_by_all (λ k. is_some (newly one other uncounted k)) (map (is_new_at counts ones others) (range_with_len 0 count)) count false
      (length-map-range_with_len (is_new_at counts ones others) 0 count)
      (λ k within. get_or-map-range_with_len (is_new_at counts ones others) 0 count k k false within (omega arith) ∙ is_new_at-newly k within))
      ∙ count-down (newly one other uncounted) 0 count top (omega (arith, last))
      ∙ ap (λ n. length (filter_map (held (newly one other uncounted)) (down_from n top))) (sym many)

-- one revision more
from_bool-cond : (b : Bool) → from_bool b ≡ (if b then 1 else 0)
from_bool-cond true = refl
from_bool-cond false = refl

module _ (counts : List Bool) (ones others : List Holding) (i : ℕ) where
  abbrev pub counted_to : ℕ → ℕ
  counted_to k = count_by (λ each. each) (map (is_new_at counts ones others) (range_with_len 0 k))

  pub count_new-more : (count one : ℕ) → count ≡ counted_to i → one ≡ from_bool (is_new_at counts ones others i) → count + one ≡ counted_to (i + 1)
  count_new-more count one count_is one_is =
      (λ k. count_is k + (one_is ∙ from_bool-cond (is_new_at counts ones others i)) k)
      ∙ sym (sum_by-map-range_with_len_more (λ (b : Bool). if b then 1 else 0) (is_new_at counts ones others) 0 i i (omega arith))

  pub counted_to-le : (k : ℕ) → counted_to k ≤ k
  counted_to-le k =
      let news = map (is_new_at counts ones others) (range_with_len 0 k) in
      omega (arith, count_by-le-length (λ each. each) news, length-map-range_with_len (is_new_at counts ones others) 0 k)
