-- What is kept of a life, whose paths are numbers of a table of names.
use Rattle.std.specs.Prelude.{ℕ, List, Option, IfSome, flat_map, map, option_map}
use Rattle.std.specs.Borrow.{Bor}
use Rattle.svn_text.specs.Line.{line_text}
use Rattle.svn_path.specs.Path.{IsPathOf, components_of}
use Rattle.svn_path.specs.declared.names.NameId.{NameId}
use Rattle.svn_dump.specs.declared.record.Origin.{Origin}
use Rattle.branch_answer.specs.Life as life
use Rattle.branch_answer.specs.Life.{PathOfBytes, lines_of_life}
use Rattle.branch_answer.specs.declared.life.Life.{Life}

abbrev pub place_in_bytes : List (List ℕ) → Origin → PathOfBytes × ℕ
place_in_bytes names from = (components_of names from.path, from.rev)

-- the place that is lent
abbrev pub lent_origin : Option (Bor Origin) → Option (List NameId × ℕ)
lent_origin origin = option_map (λ from. (from.now.path, from.now.rev)) origin

abbrev pub life_in_bytes : List (List ℕ) → Life → life.Life
life_in_bytes names one = record {
  first = one.first;
  last = one.last;
  kind = one.kind;
  origin = option_map (place_in_bytes names) one.origin;
  next = option_map (components_of names) one.next;
}

abbrev pub lives_in_bytes : List (List ℕ) → List Life → List life.Life
lives_in_bytes names lives = map (life_in_bytes names) lives

-- its paths are of the table
pub record HasPathsOf (names : List (List ℕ)) (one : Life) : Type 0 where
  pub origin : IfSome one.origin (λ from. IsPathOf names from.path)
  pub next : IfSome one.next (IsPathOf names)

abbrev pub life_text : List (List ℕ) → Life → List ℕ
life_text names one = flat_map line_text (lines_of_life (life_in_bytes names one))
