-- A life by its parts.
use Rattle.std.proofs.Common.{◌≡◌, ◌∙◌, ℕ, suc, ◌+◌, ◌-◌, true, false, Option, None, Some, List, arith, ap, refl, sym, subst, bytes_eq, is_some, option_map}
use Rattle.std.proofs.lemmas.Bool.{both_ways}
use Rattle.std.proofs.lemmas.Option.{same_Some}
use Rattle.block_map.specs.Standing.{Standing}
use Rattle.svn_path.specs.Path.{components_of}
use Rattle.svn_path.specs.declared.names.NameId.{NameId}
use Rattle.svn_dump.specs.Dump.{DumpValue}
use Rattle.svn_dump.specs.Tree.{Entry, entry_at, tree_of}
use Rattle.svn_dump.specs.declared.record.Kind.{Kind}
use Rattle.query_answer.specs.Answer.{TreesOfBytes}
use Rattle.query_answer.specs.OriginsInBytes.{origin_in_bytes}
use Rattle.query_answer.specs.Repo.{trees_in_bytes}
use Rattle.branch_answer.specs.KeptLife.{life_in_bytes}
use Rattle.branch_answer.specs.Life.{PathOfBytes, last_from, life_at, life_from, next_path}
use Rattle.branch_answer.specs.Life as life
use Rattle.branch_answer.specs.Presence.{HasKindIn, IsFirstOfLife, IsLastOfLife, lives_on_in}
use Rattle.branch_answer.specs.declared.life.Life.{Life}
use Rattle.branch_answer.proofs.Begun.{last_from-run, life_at-begins}

module _ (dump : DumpValue) (path : List NameId) (last top : ℕ) (at : IsLastOfLife dump path last top) (one : Life)
    (is : IsFirstOfLife dump path last one.first one.origin) (ended : one.last ≡ last) (kind : HasKindIn dump path one.first one.kind)
    (next : option_map (components_of dump.names) one.next ≡ next_path (trees_in_bytes dump) (components_of dump.names path) top last) where
  abbrev trees : TreesOfBytes
  trees = trees_in_bytes dump

  abbrev parts : PathOfBytes
  parts = components_of dump.names path

  abbrev with_parts : Kind → Option (PathOfBytes × ℕ) → ℕ → Option PathOfBytes → life.Life
  with_parts k o n p = record { first = one.first; last = n; kind = k; origin = o; next = p }

  ran : last_from trees parts (top - one.first) one.first ≡ last
  ran =
      let number : one.first + (last - one.first) ≡ last = omega (arith, is.within) in
      let after : suc (one.first + (last - one.first)) ≡ last + 1 = omega (arith, is.within) in
      last_from-run trees parts (last - one.first) (top - one.first) one.first (omega (arith, is.within, at.within))
      (λ each low below. is.on each low (omega (arith, below, is.within)))
      (λ less. subst (λ rev. lives_on_in dump path rev ≡ false) (sym after) (at.ends (omega (arith, less, is.within, at.within))))
      ∙ number

  pub life_at-made : life_at trees parts top one.first ≡ Some (life_in_bytes dump.names one)
  life_at-made = by (entry_at bytes_eq (tree_of trees one.first) parts) refl is.there
    where
      by : (found : Option (Entry (List ℕ) (List ℕ))) → entry_at bytes_eq (tree_of trees one.first) parts ≡ found → is_some found ≡ true
          → life_at trees parts top one.first ≡ Some (life_in_bytes dump.names one)
      by None found none = absurd (both_ways _ refl none)
      by (Some entry) found there =
          let kinds : entry.kind ≡ one.kind = same_Some entry.kind one.kind
          (ap (λ e. option_map (λ (each : Standing (List ℕ)). each.kind) (option_map (λ (each : Entry (List ℕ) (List ℕ)). record { kind = each.kind; mergeinfo = each.mergeinfo }) e)) (sym found) ∙ kind) in
          let origins : entry.origin ≡ origin_in_bytes dump one.origin = sym (is.origin_is ∙ ap (λ (e : Option (Entry (List ℕ) (List ℕ))). elim e [ None ↦ None | Some each ↦ each.origin ]) found) in
          life_at-begins trees parts top one.first entry found is.begins
          ∙ ap (λ k. Some (with_parts k entry.origin (last_from trees parts (top - one.first) one.first) (next_path trees parts top (last_from trees parts (top - one.first) one.first)))) kinds
          ∙ ap (λ o. Some (with_parts one.kind o (last_from trees parts (top - one.first) one.first) (next_path trees parts top (last_from trees parts (top - one.first) one.first)))) origins
          ∙ ap (λ n. Some (with_parts one.kind (origin_in_bytes dump one.origin) n (next_path trees parts top n))) ran
          ∙ ap (λ p. Some (with_parts one.kind (origin_in_bytes dump one.origin) last p)) (sym next)
          ∙ ap (λ n. Some (with_parts one.kind (origin_in_bytes dump one.origin) n (option_map (components_of dump.names) one.next))) (sym ended)
