-- What a mergeinfo says of a path below its own.
use Rattle.query_answer.proofs.Common.{◌≡◌, ◌≢◌, ℕ, ◌-◌, ◌<◌, ◌≤◌, ◌==◌, false, List, [], ◌∷◌, Option, Some, None, IfSome, bytes_eq, drop, take, length, refl, ap, sym, ◌∙◌, arith, eq-eqb, eqb-true, false_from_ne_true, drop-map, length-drop, length-map, DumpValue, IsDump, text_of, tree_of, path_text, name_of, components_of, same_name, NameId, MergeInfoValue, NearestMergeinfo, effective_of, nearest, own_or_inherited, own_or_below, depth_in, text_found, value_said, PegValue, peg_view, IsNearestIn, IsTargetFound, effective_in, nearest_text_at, nearest_text_in, nearest_by_number, trees_in_bytes, revision_in}
use Rattle.std.specs.Prelude.{option_map}
use Rattle.merge_info.specs.CanonicalValue.{inherited_value}
use Rattle.query_answer.specs.declared.target.Target.{Target}
use Rattle.block_map.specs.declared.entry.Nearest.{Nearest}
use Rattle.query_answer.proofs.InBytes.{nearest-in_bytes}
use Rattle.query_answer.proofs.NearestMergeinfo.{own-nearest_from, with_mergeinfo_by}
use Rattle.query_answer.proofs.TreeValues.{mergeinfo-within}

-- ---- by what the path has below

module _ (names : List (List ℕ)) (path : List NameId) (depth : ℕ) (value : MergeInfoValue) where
  pub own_or_inherited-own : depth ≡ length path → own_or_inherited (components_of names path) depth value ≡ value
  own_or_inherited-own same = rw (eq-eqb depth (length (components_of names path)) (same ∙ sym (length-map path (λ name. name_of names name.0)))) refl

  pub own_or_inherited-inherited : depth ≢ length path → own_or_inherited (components_of names path) depth value ≡ inherited_value (path_text (drop depth (components_of names path))) value
  own_or_inherited-inherited other =
      let apart : (depth == length (components_of names path)) ≡ false =
      false_from_ne_true _ (λ same. other (eqb-true depth (length (components_of names path)) same ∙ length-map path (λ name. name_of names name.0))) in
      rw apart refl

  -- what follows the path that has the value tells what is inherited
  own_or_inherited-below : depth ≤ length path → own_or_inherited (components_of names path) depth value ≡ own_or_below (components_of names (drop depth path)) value
  own_or_inherited-below within = by_rest (drop depth path) refl
    where
      left : length (drop depth path) ≡ length path - depth
      left = length-drop depth path

      by_rest : (rest : List NameId) → drop depth path ≡ rest → own_or_inherited (components_of names path) depth value ≡ own_or_below (components_of names rest) value
      by_rest [] is = own_or_inherited-own (omega (arith, left, ap length is, within))
      by_rest (part ∷ rest) is =
          own_or_inherited-inherited (λ same. omega (arith, left, ap length is, same))
          ∙ ap (λ parts. inherited_value (path_text parts) value) (drop-map (λ name. name_of names name.0) depth path ∙ ap (components_of names) is)

-- ---- by the trees of the dump

module _ (dump : DumpValue) (kept : IsDump dump) (path : List NameId) (rev : ℕ) (found : Option Nearest) (is : IsNearestIn dump path rev found) where
  -- the nearest mergeinfo in bytes
  abbrev found_text : Option (NearestMergeinfo (List ℕ))
  found_text = option_map (with_mergeinfo_by (λ id. text_of dump.values id.0)) (option_map nearest_by_number found)

  nearest-found : nearest bytes_eq (tree_of (trees_in_bytes dump) rev) (components_of dump.names path) ≡ found_text
  nearest-found =
      nearest-in_bytes dump kept path rev ∙ ap (option_map (with_mergeinfo_by (λ id. text_of dump.values id.0))) (sym is.nearest_is)

  -- its text is one of the dump
  pub mergeinfo-found : IfSome found (λ each. each.mi.0 < length dump.values)
  mergeinfo-found = by found is.nearest_is
    where
      by : (each : Option Nearest) → option_map nearest_by_number each ≡ nearest same_name (revision_in dump rev) path → IfSome each (λ one. one.mi.0 < length dump.values)
      by None none = tt
      by (Some one) some =
          mergeinfo-within dump kept (take one.depth path) rev one.mi
          (own-nearest_from same_name (revision_in dump rev) path one.mi one.depth (length path) (sym some))

  -- and it is the text that is read for the path
  pub nearest_text-found : nearest_text_in dump path rev ≡ text_found dump found
  nearest_text-found = ap (option_map (λ each. each.mergeinfo)) nearest-found ∙ by found
    where
      by : (each : Option Nearest) → option_map (λ one. one.mergeinfo) (option_map (with_mergeinfo_by (λ id. text_of dump.values id.0)) (option_map nearest_by_number each)) ≡ text_found dump each
      by None = refl
      by (Some one) = refl

  -- what the text says holds for the path or is inherited
  pub effective_in-found : effective_in dump path rev ≡ option_map (own_or_inherited (components_of dump.names path) (depth_in path found)) (value_said (text_found dump found))
  effective_in-found = ap (effective_of (components_of dump.names path)) nearest-found ∙ by found
    where
      by : (each : Option Nearest) → effective_of (components_of dump.names path) (option_map (with_mergeinfo_by (λ id. text_of dump.values id.0)) (option_map nearest_by_number each))
          ≡ option_map (own_or_inherited (components_of dump.names path) (depth_in path each)) (value_said (text_found dump each))
      by None = ap Some (sym (own_or_inherited-own dump.names path (length path) [] refl))
      by (Some one) = refl

  pub effective_in-below : effective_in dump path rev ≡ option_map (own_or_below (components_of dump.names (drop (depth_in path found) path))) (value_said (text_found dump found))
  effective_in-below = effective_in-found ∙ by (value_said (text_found dump found))
    where
      by : (value : Option MergeInfoValue) → option_map (own_or_inherited (components_of dump.names path) (depth_in path found)) value
          ≡ option_map (own_or_below (components_of dump.names (drop (depth_in path found) path))) value
      by None = refl
      by (Some value) = ap Some (own_or_inherited-below dump.names path (depth_in path found) value is.depth)

-- the text that is read for a peg is that of its target
pub nearest_text-target : (dump : DumpValue) (peg : PegValue) (target : Target) → IsTargetFound dump peg target → nearest_text_at dump (peg_view peg) ≡ text_found dump target.nearest
nearest_text-target dump peg target found =
    sym (ap (nearest_text_at dump) found.peg_is.spells)
    ∙ nearest_text-found dump found.peg_is.is_in.kept target.at.path target.at.rev target.nearest found.nearest
