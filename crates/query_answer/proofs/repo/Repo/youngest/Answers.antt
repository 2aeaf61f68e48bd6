use Rattle.query_answer.proofs.Common.{◌≡◌, ◌<◌, List, ℕ, [], ◌∷◌, length, refl, ap, arith, history_in_bytes}
use Rattle.svn_dump.proofs.Histories.{length-history_in_bytes}
use Rattle.query_answer.proofs.repo.Repo.youngest.Goals as goal

some-length : (counts : List ℕ) → (counts ≡ [] → ⊥) → 0 < length counts
some-length [] some = absurd (some refl)
some-length (count ∷ counts) some = omega arith

pub overflow_sub-result : goal.overflow_sub-result
overflow_sub-result c = omega (arith, some-length c.self.inside.dump.counts c.counts.ensures.kept.some_revision, ap length c.counts.ensures.value)

pub overflow_cast-result : goal.overflow_cast-result
overflow_cast-result c = omega (arith, c.counts.ensures.kept.few_revisions, ap length c.counts.ensures.value)

pub returns : goal.returns
returns c =
    let dump = c.self.inside.dump in
    let long = length-history_in_bytes dump.names dump.records dump.counts dump.values in
    let same = ap (λ each. length (history_in_bytes each)) c.self.view_is in
    omega (arith, some-length dump.counts c.counts.ensures.kept.some_revision, ap length c.counts.ensures.value, long, same, c.counts.ensures.kept.few_revisions)
