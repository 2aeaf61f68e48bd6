-- What looking a path up in a table gives.
use Rattle.std.specs.Prelude.{◌≡◌, ℕ, List}
use Rattle.svn_path.specs.Path.{IsPathOf, components_of, HasUnknown}
use Rattle.svn_path.specs.declared.path.Lookup.{Lookup}
use Rattle.svn_path.specs.declared.path.Lookup.TheVariants.{Known, Unknown}

-- the path of these parts in the table, or that the table lacks one of them
abbrev pub IsLookup : List (List ℕ) → List (List ℕ) → Lookup → Type 0
IsLookup names parts (Known path) = IsPathOf names path × (components_of names path ≡ parts)
IsLookup names parts Unknown = HasUnknown names parts
