-- The effective value of a path with mergeinfo of its own.
use Rattle.std.proofs.Common.{◌≡◌, ◌∙◌, ℕ, zero, suc, List, [], Option, None, Some, refl, sym, ap, arith, bytes_eq, eq-eqb, length, drop, option_map, unwrap_or, if◌then◌else◌}
use Rattle.std.proofs.lemmas.List.{take_all}
use Rattle.svn_path.specs.Components.{path_text}
use Rattle.svn_path.specs.Path.{components_of}
use Rattle.svn_path.specs.declared.names.NameId.{NameId}
use Rattle.svn_dump.specs.Dump.{DumpValue}
use Rattle.svn_dump.specs.Tree.{tree_of}
use Rattle.merge_info.specs.CanonicalValue.{inherited_value, value_of}
use Rattle.merge_info.specs.Value.{MergeInfoValue}
use Rattle.query_answer.specs.Effective.{effective_of, effective_value, own_mergeinfo, own_or, own_or_inherited}
unfoldable use Rattle.query_answer.specs.Effective.{nearest_from}
use Rattle.query_answer.specs.Repo.{effective_in, trees_in_bytes}
use Rattle.branch_answer.specs.KeptExplicit.{HasOwnText, explicit_text}
use Rattle.branch_answer.specs.Listing.{TreeOfBytes}

module _ (tree : TreeOfBytes) (path : List (List ℕ)) (text : List ℕ) (own : own_mergeinfo bytes_eq tree path ≡ Some text) where
  -- it is the nearest one
  nearest_from-own : (depth : ℕ) → length path ≡ depth → nearest_from bytes_eq tree path depth ≡ Some (record { mergeinfo = text; depth = depth })
  unfolding nearest_from
  nearest_from-own zero is =
      ap (λ found. own_or found 0 None) (ap (own_mergeinfo bytes_eq tree) (take_all 0 path (omega (arith, is))) ∙ own)
  nearest_from-own (suc depth) is =
      ap (λ found. own_or found (suc depth) (nearest_from bytes_eq tree path depth)) (ap (own_mergeinfo bytes_eq tree) (take_all (suc depth) path (omega (arith, is))) ∙ own)

  -- so the value is that of its text
  effective_value-own : effective_value tree path ≡ value_of text
  effective_value-own = ap (effective_of path) (nearest_from-own (length path) refl) ∙ by (value_of text)
    where
      by : (value : Option MergeInfoValue) → option_map (own_or_inherited path (length path)) value ≡ value
      by None = refl
      by (Some value) = ap (λ b. Some (if b then value else inherited_value (path_text (drop (length path) path)) value)) (eq-eqb (length path) (length path) refl)

-- that of a path of a dump
pub effective_in-own : (dump : DumpValue) (path : List NameId) (rev : ℕ) → HasOwnText dump rev path → effective_in dump path rev ≡ value_of (explicit_text dump rev path).1
effective_in-own dump path rev (text, own) =
    effective_value-own (tree_of (trees_in_bytes dump) rev) (components_of dump.names path) text own
    ∙ ap (λ found. value_of (unwrap_or found [])) (sym own)
