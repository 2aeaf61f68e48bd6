-- What a path holds of the value of mergeinfo of a path above it, or of its own.
use Rattle.std.specs.Prelude.{ℕ, ◌-◌, List, [], ◌∷◌, Option, Some, None, drop, length, take, if◌then◌else◌}
use Rattle.std.specs.Cmp.Lexicographic.{pointwise}
use Rattle.svn_path.specs.Components.{path_text}
use Rattle.svn_path.specs.Path.{components_of, same_name}
use Rattle.svn_path.specs.declared.names.NameId.{NameId}
use Rattle.range_list.specs.declared.run.Run.{Run}
use Rattle.merge_info.specs.CanonicalValue.{inherited_value}
use Rattle.merge_info.specs.Value.{MergeInfoValue, ranges_of}

-- the value itself, if the path has nothing below that of the value; otherwise what is inherited
abbrev pub own_or_below : List (List ℕ) → MergeInfoValue → MergeInfoValue
own_or_below [] value = value
own_or_below (part ∷ rest) value = inherited_value (path_text (part ∷ rest)) value

-- the path without the rest at its end, if it ends so
abbrev pub path_above : List NameId → List NameId → Option (List NameId)
path_above rest path =
    if pointwise same_name (drop (length path - length rest) path) rest then Some (take (length path - length rest) path) else None

-- the revisions of a path that a value has, if it has any
abbrev pub ranges_at : List (List ℕ) → MergeInfoValue → List NameId → Option (List Run)
ranges_at names value path = ranges_of value (path_text (components_of names path))
