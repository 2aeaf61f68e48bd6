-- The body of a block, as far as it has come.
use Rattle.std.specs.Prelude.{◌≡◌, ℕ, ◌+◌, ◌-◌, ◌<◌, ◌≤◌, List, ◌++◌, length, take}
use Rattle.svn_dump.specs.declared.pieces.partial_body.PartialBody.{PartialBody}

-- so much of the body has come, of which a section of this length is kept
pub record IsPartialBody (body : PartialBody) (section whole : ℕ) (come : List ℕ) : Type 0 where
  pub within : section ≤ whole
  pub kept : body.section.items ≡ take section come
  pub wanted : body.wanted ≡ section - length come
  pub left : length come + body.left ≡ whole

-- a piece goes on with the body, and doesn't end it
pub record ExtendsBody (old new : PartialBody) (piece : List ℕ) : Type 0 where
  pub short : length piece < old.left
  pub extends : (section whole : ℕ) (come : List ℕ) → IsPartialBody old section whole come → IsPartialBody new section whole (come ++ piece)

-- a piece ends the body, and the rest follows
pub record EndsBody (old new : PartialBody) (piece rest : List ℕ) : Type 0 where
  pub last : List ℕ
  pub whole : piece ≡ last ++ rest
  pub ends : (section whole : ℕ) (come : List ℕ) → IsPartialBody old section whole come → IsPartialBody new section whole (come ++ last)
  pub none : new.left ≡ 0
