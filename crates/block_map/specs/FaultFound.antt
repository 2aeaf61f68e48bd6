-- The first fault of a record, by what stands at ticks.
use Rattle.std.specs.Prelude.{ℕ, Bool, true, false, List, Option, Some, None, is_some, if◌then◌else◌}
use Rattle.std.specs.Option.{option_or}
use Rattle.svn_path.specs.Below.{parent_of}
use Rattle.svn_dump.specs.Fault.{Fault, missing, exists, no_parent, no_source}
use Rattle.svn_dump.specs.History.{Action, delete, change, add, copy}
use Rattle.svn_dump.specs.declared.record.Kind.TheVariants.{File, Dir}
use Rattle.block_map.specs.Standing.{Standing}

-- a number that no record has
abbrev pub no_record : ℕ
no_record = 4294967295

-- what stands at each path at each tick
abbrev pub Standings : Type 0 → Type 0 → Type 0
Standings C M = ℕ → List C → Option (Standing M)

abbrev pub is_dir_standing : {M : Type 0} → Option (Standing M) → Bool
is_dir_standing None = false
is_dir_standing (Some standing) = elim standing.kind [ File ↦ false | Dir ↦ true ]

abbrev pub has_parent_standing : {C M : Type 0} → Standings C M → ℕ → List C → Bool
has_parent_standing standings tick path =
    elim (parent_of path) [ None ↦ false | Some above ↦ is_dir_standing (standings tick above) ]

abbrev pub missing_found : {C M : Type 0} → Standings C M → ℕ → List C → Option Fault
missing_found standings tick path = if is_some (standings tick path) then None else Some missing

abbrev pub target_found : {C M : Type 0} → Standings C M → ℕ → Bool → List C → Option Fault
target_found standings tick replace path =
    if replace then missing_found standings tick path
    else (if is_some (standings tick path) then Some exists
    else (if has_parent_standing standings tick path then None else Some no_parent))

abbrev pub source_found : {C M : Type 0} → Standings C M → List C → ℕ → Option Fault
source_found standings from from_tick = if is_some (standings from_tick from) then None else Some no_source

-- the first fault of a record that so many others precede; the source of a copy is at a tick
abbrev pub fault_found : {C M : Type 0} → Standings C M → ℕ → List C → Action C M → Option Fault
fault_found standings tick path delete = missing_found standings tick path
fault_found standings tick path (change setting) = missing_found standings tick path
fault_found standings tick path (add replace kind setting) = target_found standings tick replace path
fault_found standings tick path (copy replace from from_tick setting) =
    option_or (target_found standings tick replace path) (source_found standings from from_tick)
