-- Printed paths.
use Rattle.merge_info.proofs.Common.{◌≡◌, ℕ, List, All, ap, sym, subst, false, All-weaker, parts_of-path_text, IsComponent, is_dot, parts_of, path_text, IsPrintedPath}

-- what is printed of components is a printed path
pub IsPrintedPath-path_text : (parts : List (List ℕ)) → All IsComponent parts → IsPrintedPath (path_text parts)
IsPrintedPath-path_text parts components =
    let same : parts_of (path_text parts) ≡ parts = parts_of-path_text parts components in
    record {
      printed = ap path_text same;
      no_dot = subst (All (λ part. is_dot part ≡ false)) (sym same)
          (All-weaker IsComponent (λ part. is_dot part ≡ false) (λ part component. component.not_dot) parts components);
    }
