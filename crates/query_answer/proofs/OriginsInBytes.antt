-- Where the paths of a dump came from, by numbers and by bytes.
use Rattle.query_answer.proofs.Common.{◌≡◌, ℕ, ◌<◌, ◌≤◌, arith, bytes_eq, List, length, Option, Some, None, IfSome, option_map, pred, refl, sym, ap, ◌∙◌, trees_to, IsPathIn, components_of, same_name, NameId, IsSame-same_name, DumpValue, IsDump, history_view, is_there, origin_of, tree_of, trees_of, trees_in_bytes}
use Rattle.path_index.specs.LastSet.{KeepsPath, origin_in}
use Rattle.path_index.specs.RecordEffect.{origin_view}
use Rattle.svn_dump.specs.declared.record.Origin.{Origin}
use Rattle.svn_dump.proofs.FirstRevisions.{origin_of-take}
use Rattle.svn_dump.proofs.Origins.{OriginsAreThere-trees_of, OriginsFall-trees_of}
use Rattle.svn_dump.proofs.Renaming.Locations.{origin_of-rename}
use Rattle.svn_dump.proofs.Renaming.Trees.{rename_origin}
use Rattle.query_answer.specs.OriginsInBytes.{IsThereIn, origin_in_bytes, origin_of_path}
use Rattle.query_answer.proofs.InBytes.{IsThere-there, alike, front_is, in_history, is_there-index, name, text, there-in_bytes, trees-renamed, trees_by_number}
use Rattle.query_answer.proofs.TreePaths.{HistoryHas-names, origin_has}

module _ (dump : DumpValue) (kept : IsDump dump) (rev : ℕ) (within : rev < length dump.counts) (path : List NameId) where
  -- what the records tell up to a revision is what the trees of all revisions tell
  origin-index : origin_in dump.records path rev ≡ origin_of same_name (trees_by_number dump kept) path rev
  origin-index =
      ap (λ front. origin_of same_name (trees_of same_name front) path rev) (front_is dump kept rev within)
      ∙ origin_of-take same_name (history_view dump) rev (in_history dump kept rev within) path rev (omega arith)

  -- and what the trees in bytes tell
  origin-renamed : origin_of_path dump path rev ≡ option_map (rename_origin (name dump kept)) (origin_in dump.records path rev)
  origin-renamed =
      ap (λ trees. origin_of bytes_eq trees (components_of dump.names path) rev) (trees-renamed dump kept)
      ∙ origin_of-rename (name dump kept) (text dump kept) same_name bytes_eq (alike dump kept) (trees_by_number dump kept) path rev
      ∙ ap (option_map (rename_origin (name dump kept))) (sym origin-index)

  there-index : is_there bytes_eq (tree_of (trees_in_bytes dump) rev) (components_of dump.names path) ≡ is_there same_name (tree_of (trees_to dump.records rev) rev) path
  there-index = there-in_bytes dump kept path rev ∙ sym (is_there-index dump kept rev within path)

  -- ---- the origin that the index finds

  pub origin-in_bytes : (origin : Option Origin) → origin_view origin ≡ origin_in dump.records path rev → origin_in_bytes dump origin ≡ origin_of_path dump path rev
  origin-in_bytes origin is =
      renamed origin ∙ ap (option_map (rename_origin (name dump kept))) is ∙ sym origin-renamed
    where
      renamed : (o : Option Origin) → origin_in_bytes dump o ≡ option_map (rename_origin (name dump kept)) (origin_view o)
      renamed None = refl
      renamed (Some from) = refl

  -- it is a path of an earlier revision
  pub origin-there : (origin : Option Origin) → origin_view origin ≡ origin_in dump.records path rev
      → IfSome origin (λ from. IsPathIn dump (record { path = from.path; rev = from.rev }))
  origin-there None is = tt
  origin-there (Some from) is =
      let came : origin_of same_name (trees_by_number dump kept) path rev ≡ Some (from.path, from.rev) = sym (is ∙ origin-index) in
      let fell = (OriginsFall-trees_of same_name (history_view dump)).falls path rev from.path from.rev came in
      let low : from.rev < length dump.counts = omega arith in
      record {
        kept = kept;
        of_names = origin_has same_name (λ name. name.0 < length dump.names) IsSame-same_name (history_view dump) (HistoryHas-names dump kept) path rev from.path from.rev came;
        within = low;
        there = IsThere-there dump kept from.path from.rev low
            ((OriginsAreThere-trees_of same_name IsSame-same_name (history_view dump)).there path rev from.path from.rev came);
      }

-- ---- revisions that do not set a path

pub KeepsPath-in_bytes : (dump : DumpValue) → IsDump dump → (path : List NameId) (from to : ℕ) → to < length dump.counts → KeepsPath dump.records path from to
    → (later : ℕ) → from < later → later ≤ to → IsThereIn dump path later
    → IsThereIn dump path (pred later) × (origin_of_path dump path later ≡ Some (components_of dump.names path, pred later))
KeepsPath-in_bytes dump kept path from to within keeps later past low there =
    let here : later < length dump.counts = omega arith in
    let (before, came) = keeps later past low (sym (there-index dump kept later here path) ∙ there) in (
      there-index dump kept (pred later) (omega arith) path ∙ before,
      origin-renamed dump kept later here path ∙ ap (option_map (rename_origin (name dump kept))) came,
    )
