-- Where a path of one revision stood in another, by following origins (Subversion book, "Peg and operative
-- revisions").
use Rattle.std.specs.Prelude.{ℕ, zero, suc, ◌==◌, nat_lt, Bool, List, Option, Some, None, option_and_then, if◌then◌else◌}
use Rattle.svn_dump.specs.Tree.{Tree, entry_at, tree_of}

-- the path and the revision that a path of a revision came from
abbrev pub origin_of : {C M : Type 0} → (C → C → Bool) → List (Tree C M) → List C → ℕ → Option (List C × ℕ)
origin_of same trees path rev = option_and_then (λ entry. entry.origin) (entry_at same (tree_of trees rev) path)

-- where the path of the revision stood in the wanted one, found in at most so many steps back
unfoldable pub location_within : {C M : Type 0} → (C → C → Bool) → List (Tree C M) → ℕ → List C → ℕ → ℕ → Option (List C)
location_within same trees zero path rev wanted = if rev == wanted then Some path else None
location_within same trees (suc steps) path rev wanted =
    if rev == wanted then Some path
    else option_and_then (λ from. if nat_lt from.1 wanted then None else location_within same trees steps from.0 from.1 wanted) (origin_of same trees path rev)

-- a revision above the path's own has no location; each step goes to a smaller revision, so there are no more steps than the revision's number
abbrev pub location : {C M : Type 0} → (C → C → Bool) → List (Tree C M) → List C → ℕ → ℕ → Option (List C)
location same trees path rev wanted = location_within same trees rev path rev wanted
