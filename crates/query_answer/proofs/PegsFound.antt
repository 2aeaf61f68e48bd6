-- Whether the path of a peg is in the tree of its revision, by what the map says there, and what is below the path of its
-- nearest mergeinfo.
use Rattle.query_answer.proofs.Common.{◌≡◌, ℕ, ◌<◌, true, false, List, Option, is_some, option_map, bytes_eq, length, refl, subst, ◌∙◌, arith, All-drop, IsPathOf, same_name, NameId, DumpValue, is_there, tree_of, IndexValue, MapValue, revision_in, entry_view, standing_at, depth_in, rest_of, PathRev, if_peg_exists, refused_answer, PegValue, IsPegFound, IsPegKnown, IsPegRefused, IsRepo, peg_in_bytes, trees_in_bytes, Refused}
use Rattle.block_map.specs.declared.entry.Entry as kept
use Rattle.query_answer.specs.declared.target.Target.{Target}
use Rattle.query_answer.specs.declared.status.Status.TheVariants as status
use Rattle.query_answer.proofs.AnswerTexts.{if_peg_exists-absent, if_peg_exists-present}
use Rattle.query_answer.proofs.InBytes.{IsThere-there, length-trees_in_bytes, there-in_bytes}
use Rattle.query_answer.proofs.RevisionTicks.{is_there-entry}

module _ (dump : DumpValue) (index : IndexValue) (map : MapValue) (ends : List ℕ) (repo : IsRepo dump index map ends)
    (peg : PegValue) (at : PathRev) (tick : ℕ) (known : IsPegKnown dump peg at tick) (found : Option kept.Entry)
    (is : option_map entry_view found ≡ standing_at same_name (revision_in dump at.rev) at.path) where
  within_trees : at.rev < length (trees_in_bytes dump)
  within_trees = omega (arith, length-trees_in_bytes dump repo.dump_is, known.ends.within)

  there_if : is_there bytes_eq (tree_of (trees_in_bytes dump) at.rev) (peg_in_bytes dump at).path ≡ is_some found
  there_if = there-in_bytes dump repo.dump_is at.path at.rev ∙ is_there-entry (revision_in dump at.rev) at.path found is

  pub IsPegFound-known : is_some found ≡ true → IsPegFound dump peg at
  IsPegFound-known some = record {
    is_in = record {
      kept = repo.dump_is;
      of_names = known.of_names;
      within = known.ends.within;
      there = IsThere-there dump repo.dump_is at.path at.rev known.ends.within (is_there-entry (revision_in dump at.rev) at.path found is ∙ some);
    };
    spells = known.spells;
    answered = λ answer.
        subst (λ one. if_peg_exists (trees_in_bytes dump) one (answer one) ≡ answer (peg_in_bytes dump at)) known.spells
        (if_peg_exists-present (trees_in_bytes dump) (peg_in_bytes dump at) (answer (peg_in_bytes dump at)) within_trees (there_if ∙ some));
  }

  pub IsPegRefused-known : is_some found ≡ false → IsPegRefused dump peg (Refused status.NoSuchPath)
  IsPegRefused-known none = (
    λ answer. subst (λ one. if_peg_exists (trees_in_bytes dump) one answer ≡ refused_answer status.NoSuchPath) known.spells
        (if_peg_exists-absent (trees_in_bytes dump) (peg_in_bytes dump at) answer within_trees (there_if ∙ none)),
    refl,
  )

-- what a target's path has below the one that has its mergeinfo is of the table
pub IsPathOf-rest : (names : List (List ℕ)) (target : Target) → IsPathOf names target.at.path → IsPathOf names (rest_of target)
IsPathOf-rest names target of = All-drop (λ (name : NameId). name.0 < length names) (depth_in target.at.path target.nearest) target.at.path of
