-- The kind and the mergeinfo of what stands at a path.
use Rattle.std.specs.Prelude.{Bool, List, Option, Some, None, option_and_then, option_map}
use Rattle.svn_dump.specs.Tree.{Tree, entry_at}
use Rattle.svn_dump.specs.declared.record.Kind.{Kind}
use Rattle.svn_dump.specs.declared.record.ValueId.{ValueId}
use Rattle.block_map.specs.Look.{Found, at, at_with, is, absent}
use Rattle.block_map.specs.declared.entry.Entry.{Entry}

pub record Standing (M : Type 0) : Type 0 where
  pub kind : Kind
  pub mergeinfo : Option M

-- what stands at a path of a tree
abbrev pub standing_at : {C M : Type 0} → (C → C → Bool) → Tree C M → List C → Option (Standing M)
standing_at same tree path =
    option_map (λ entry. record { kind = entry.kind; mergeinfo = entry.mergeinfo }) (entry_at same tree path)

abbrev pub own_mergeinfo_at : {C M : Type 0} → (C → C → Bool) → Tree C M → List C → Option M
own_mergeinfo_at same tree path = option_and_then (λ standing. standing.mergeinfo) (standing_at same tree path)

-- what stands there by what was found; nothing, where only what stood before the records says it
abbrev pub standing_of : {C M : Type 0} → Found C M → Option (Standing M)
standing_of (at path tick) = None
standing_of (at_with path tick mergeinfo) = None
standing_of (is kind mergeinfo) = Some (record { kind = kind; mergeinfo = mergeinfo })
standing_of absent = None

abbrev pub mergeinfo_of : {C M : Type 0} → Found C M → Option M
mergeinfo_of found = option_and_then (λ standing. standing.mergeinfo) (standing_of found)

-- what is kept of it
abbrev pub entry_view : Entry → Standing ValueId
entry_view entry = record { kind = entry.kind; mergeinfo = entry.mi }
