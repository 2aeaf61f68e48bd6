-- What a record of a dump does to the origin of a path, by its act.
use Rattle.path_index.proofs.Common.{◌≡◌, ◌≢◌, inl, inr, ℕ, Bool, true, List, ◌++◌, length, drop, Option, None, Some, is_some, refl, sym, ap, subst, ◌∙◌, true≢false, below, is_below, same_name, NameId, IsSame-same_name, drop-from_below, record_view, setting_view, Act, NodeRecord, IsAddition, IsCopy, SetsOrigin, SetsPath}
use Rattle.svn_dump.specs.declared.record.Kind.{Kind}
use Rattle.svn_dump.specs.declared.record.Act.TheVariants as act
use Rattle.svn_dump.specs.declared.record.Mi.{Mi}
use Rattle.path_index.proofs.Steps.{KeepsOrigin, KeepsOrigin-delete, KeepsOrigin-change, KeepsOrigin-add, SetsOrigin-add, KeepsOrigin-copy, SetsOrigin-copy}

pub not_IsAddition : (a : Act) → ((replace : Bool) (kind : Kind) (mi : Mi) → a ≢ act.Add replace kind mi) → IsAddition a → ⊥
not_IsAddition act.Delete not_so so = so
not_IsAddition (act.Change mi) not_so so = so
not_IsAddition (act.Add replace kind mi) not_so so = not_so replace kind mi refl
not_IsAddition (act.Copy replace from from_rev mi) not_so so = so

pub not_IsCopy : (a : Act) → ((replace : Bool) (from : List NameId) (from_rev : ℕ) (mi : Mi) → a ≢ act.Copy replace from from_rev mi) → IsCopy a → ⊥
not_IsCopy act.Delete not_so so = so
not_IsCopy (act.Change mi) not_so so = so
not_IsCopy (act.Add replace kind mi) not_so so = so
not_IsCopy (act.Copy replace from from_rev mi) not_so so = not_so replace from from_rev mi refl

module _ (each : NodeRecord) (path : List NameId) where
  -- an addition elsewhere keeps it
  KeepsOrigin-Add : (replace : Bool) (kind : Kind) (mi : Mi) → each.act ≡ act.Add replace kind mi → each.path ≢ path → KeepsOrigin same_name path (record_view each)
  KeepsOrigin-Add replace kind mi is other =
      rw is (KeepsOrigin-add same_name IsSame-same_name path each.path replace kind (setting_view mi) (λ here. other (sym here)))

  -- one of the path leaves it without an origin
  SetsOrigin-Add : (replace : Bool) (kind : Kind) (mi : Mi) → each.act ≡ act.Add replace kind mi → each.path ≡ path → SetsOrigin same_name path None (record_view each)
  SetsOrigin-Add replace kind mi is here =
      rw is (SetsOrigin-add same_name IsSame-same_name path each.path replace kind (setting_view mi) (sym here))

  module _ (replace : Bool) (from : List NameId) (from_rev : ℕ) (mi : Mi) (is : each.act ≡ act.Copy replace from from_rev mi) where
    -- a copy to elsewhere keeps it
    KeepsOrigin-Copy : (is_below same_name each.path path ≡ true → ⊥) → KeepsOrigin same_name path (record_view each)
    KeepsOrigin-Copy other =
        rw is (KeepsOrigin-copy same_name IsSame-same_name path each.path replace from from_rev (setting_view mi) other)

    -- after another copy it is as far below the source as the path is below the copy
    pub SetsOrigin-Copy : (source : List NameId) → is_below same_name each.path path ≡ true → source ≡ from ++ drop (length each.path) path
        → SetsOrigin same_name path (Some (source, from_rev)) (record_view each)
    SetsOrigin-Copy source under at = by (below same_name each.path path) refl under
      where
        by : (b : Option (List NameId)) → below same_name each.path path ≡ b → is_some b ≡ true → SetsOrigin same_name path (Some (source, from_rev)) (record_view each)
        by None apart some = absurd (true≢false (sym some))
        by (Some rest) left some =
            subst (λ p. SetsOrigin same_name path (Some (p, from_rev)) (record_view each))
            (sym (at ∙ ap (λ more. from ++ more) (drop-from_below IsSame-same_name each.path path rest left)))
            (rw is
            (SetsOrigin-copy same_name IsSame-same_name path each.path replace from from_rev (setting_view mi) rest left))

  -- a record that does not set it keeps it
  pub KeepsOrigin-unset : (SetsPath each path → ⊥) → KeepsOrigin same_name path (record_view each)
  KeepsOrigin-unset unset = by each.act refl
    where
      by : (a : Act) → each.act ≡ a → KeepsOrigin same_name path (record_view each)
      by act.Delete is = rw is (KeepsOrigin-delete same_name IsSame-same_name path each.path)
      by (act.Change mi) is = rw is (KeepsOrigin-change same_name IsSame-same_name path each.path (setting_view mi))
      by (act.Add replace kind mi) is = KeepsOrigin-Add replace kind mi is (λ own. unset (inl (rw is tt, own)))
      by (act.Copy replace from from_rev mi) is = KeepsOrigin-Copy replace from from_rev mi is (λ under. unset (inr (rw is tt, under)))

  -- one that sets it without a copy leaves the path without an origin
  pub SetsOrigin-no_copy : ((replace : Bool) (from : List NameId) (from_rev : ℕ) (mi : Mi) → each.act ≢ act.Copy replace from from_rev mi) → SetsPath each path → SetsOrigin same_name path None (record_view each)
  SetsOrigin-no_copy no_copy sets = elim sets [ inl (adds, own) ↦ by each.act refl adds own | inr (copies, under) ↦ absurd (not_IsCopy each.act no_copy copies) ]
    where
      by : (a : Act) → each.act ≡ a → IsAddition a → each.path ≡ path → SetsOrigin same_name path None (record_view each)
      by act.Delete is so own = absurd so
      by (act.Change mi) is so own = absurd so
      by (act.Add replace kind mi) is so own = SetsOrigin-Add replace kind mi is own
      by (act.Copy replace from from_rev mi) is so own = absurd so

  -- a copy that sets it is to the path or to a path above it
  pub below_from_copy : (replace : Bool) (from : List NameId) (from_rev : ℕ) (mi : Mi) → each.act ≡ act.Copy replace from from_rev mi → SetsPath each path → is_below same_name each.path path ≡ true
  below_from_copy replace from from_rev mi is sets = elim sets [ inl (adds, own) ↦ absurd (subst IsAddition is adds) | inr (copies, under) ↦ under ]
