-- Lines of a list of queries, by the cuts of the list.
use Rattle.svn_report.proofs.Common.{◌≡◌, ℕ, ◌==◌, List, [], ◌∷◌, length, false, true≢false, refl, query_lines, without_last_empty}
use Rattle.svn_text.specs.Cut.{Lacks}
use Rattle.svn_text.proofs.Cuts.{CutsFirst, slice_split-cut, slice_split-uncut}
use Rattle.query_answer.proofs.Queries.{slice_split-some}

-- a line before others stays
without_last_empty-cons : (line next : List ℕ) (lines : List (List ℕ)) → without_last_empty (line ∷ next ∷ lines) ≡ line ∷ without_last_empty (next ∷ lines)
without_last_empty-cons [] next lines = refl
without_last_empty-cons (byte ∷ line) next lines = refl

pub query_lines-cut : (bytes front back : List ℕ) → CutsFirst 10 bytes front back → query_lines bytes ≡ front ∷ query_lines back
query_lines-cut bytes front back cut =
    let (first, more, same) = slice_split-some (λ each. each == 10) back in
    rw (slice_split-cut 10 bytes front back cut, same) (without_last_empty-cons front first more)

pub query_lines-uncut : (bytes : List ℕ) → (length bytes == 0) ≡ false → Lacks 10 bytes → query_lines bytes ≡ bytes ∷ []
query_lines-uncut [] some none = absurd (true≢false some)
query_lines-uncut (byte ∷ bytes) some none = rw (slice_split-uncut 10 (byte ∷ bytes) none) refl
