use Rattle.std.proofs.Common.{◌≡◌, ◌++◌, ◌∙◌, ◌+◌, ◌<◌, [], ◌∷◌, ap, arith, bytes_eq, eq-eqb, inl, inr, length, sym, subst}
use Rattle.std.proofs.lemmas.Bool.{both_ways, cases_lt}
use Rattle.svn_dump.specs.Dump.{history_in_bytes}
use Rattle.query_answer.proofs.InBytes.{first_fault-in_bytes}
use Rattle.query_answer.proofs.StandingsInBytes.{IsSame-bytes_eq}
use Rattle.branch_answer.proofs.LevelsWalked.{AreWalked, AreWalked-next, AreWalked-start, levels_left-falls}
use Rattle.branch_answer.proofs.Origins.{present-IsPathIn}
use Rattle.branch_answer.proofs.TreeParents.{HasParents-trees_of}
use Rattle.branch_answer.specs.ExplicitFound.{AreOpenBelow}
use Rattle.branch_answer.proofs.explicit.found_below.Goals as goal

pub levels-init : goal.levels-init
levels-init c =
    let dump = c.args.repo.now in
    let at = c.args.at.now in
    let level : c.push.new.self.items ≡ at.path ∷ [] =
    c.in_ok-push.ensures.items ∙ ap (λ before. before ++ c.in_ok-dup.field-0 ∷ []) c.new-level.ensures.items ∙ ap (λ one. one ∷ []) c.in_ok-dup.ensures in
    let parents = HasParents-trees_of bytes_eq IsSame-bytes_eq (history_in_bytes dump) (first_fault-in_bytes dump c.requires.kept ∙ c.names.ensures.lawful) at.rev in (
      0,
      subst (AreWalked dump at.rev at.path 0 c.new-found.result.items) (sym level)
          (subst (λ found. AreWalked dump at.rev at.path 0 found (at.path ∷ [])) (sym c.new-found.ensures.items)
          (AreWalked-start dump at.rev at.path parents c.requires.of_names (present-IsPathIn dump c.requires.kept at c.requires))),
    )

pub levels-smaller : goal.levels-smaller
levels-smaller c =
    let dump = c.args.repo.now in
    let at = c.args.at.now in
    let level = c.levels.level in
    let (depth, walked) = c.levels.invariant in
    let below = subst (λ all. AreOpenBelow dump at.rev all c.in_ok-level.level.items) c.as_slice-in-levels.ensures.value c.in_ok-level.ensures in
    let some : 0 < length level.items = elim (cases_lt 0 (length level.items)) [
      | inl some ↦ some
      | inr none ↦ absurd (both_ways _ (sym c.is_empty.ensures ∙ c.levels-test.true) (eq-eqb level.len 0 (omega (arith, none, level.ok.0))))
    ] in
    levels_left-falls dump at.rev at.path depth c.levels.found.items level.items walked c.in_ok-level.level.items below some

pub levels-preserved : goal.levels-preserved
levels-preserved c =
    let dump = c.args.repo.now in
    let at = c.args.at.now in
    let level = c.levels.level.items in
    let (depth, walked) = c.levels.invariant in
    let below = subst (λ all. AreOpenBelow dump at.rev all c.in_ok-level.level.items) c.as_slice-in-levels.ensures.value c.in_ok-level.ensures in
    let found = rw c.as_slice.ensures.value at c.in_ok-append_own.ensures in (
      depth + 1,
      subst (λ all. AreWalked dump at.rev at.path (depth + 1) all c.in_ok-level.level.items) (sym found)
          (AreWalked-next dump at.rev at.path depth c.levels.found.items level walked c.in_ok-level.level.items below),
    )
