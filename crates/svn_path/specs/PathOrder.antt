-- Paths are compared component by component, and components by their numbers.
use Rattle.std.specs.Prelude.{◌≡◌, List}
use Rattle.std.specs.Cmp.{IsEquivalence, IsTotalOrder, unsigned_ties}
use Rattle.std.specs.Cmp.Lexicographic.{pointwise, slice_cmp, lists_ties}
use Rattle.std.specs.Ordering.{nat_cmp, eq_by_cmp}
use Rattle.std.specs.declared.cmp.Ordering.{Ordering}
use Rattle.std.proofs.lemmas.Cmp.{nat_eq_equiv, nat_cmp_total, on_equiv, on_total, lists_equiv, lists_total}
use Rattle.svn_path.specs.Path.{same_name}
use Rattle.svn_path.specs.declared.names.NameId.{NameId}

-- the order of two names is that of their numbers
abbrev pub name_cmp : NameId → NameId → Ordering
name_cmp a b = nat_cmp a.0 b.0

-- the laws that `Eq` and `Ord` ask of paths
pub paths_equiv : IsEquivalence (pointwise same_name)
paths_equiv = lists_equiv (on_equiv (λ name. name.0) nat_eq_equiv)

pub paths_total : IsTotalOrder (slice_cmp name_cmp)
paths_total = lists_total (on_total (λ name. name.0) nat_cmp_total)

pub paths_ties : (p q : List NameId) → pointwise same_name p q ≡ eq_by_cmp (slice_cmp name_cmp) p q
paths_ties = lists_ties name_cmp (λ a b. unsigned_ties a.0 b.0)
