-- How many records a history has up to the end of each revision.
use Rattle.std.specs.Prelude.{◌≡◌, ℕ, ◌+◌, ◌<◌, sum, List, Some, length, map, slice_get, slice_index_or, take}
use Rattle.std.specs.List.{range_with_len}
use Rattle.svn_dump.specs.History.{Action, delete, change, add, copy, Record}
use Rattle.svn_dump.specs.declared.record.Act.{Act}
use Rattle.svn_dump.specs.declared.record.Act.TheVariants as act
use Rattle.svn_dump.specs.declared.record.NodeRecord.{NodeRecord}
use Rattle.par_scan.specs.declared.sum.Sum.{Sum}

-- how many the revisions up to that one have, given how many each has
abbrev pub end_of : List ℕ → ℕ → ℕ
end_of counts rev = sum (take (rev + 1) counts)

abbrev pub ends_of : List ℕ → List ℕ
ends_of counts = map (end_of counts) (range_with_len 0 (length counts))

-- the numbers that are kept
abbrev pub ends_view : List Sum → List ℕ
ends_view sums = map (λ each. each.0) sums

-- the action with the tick at which the source of a copy stands, in place of its revision
abbrev pub action_at_tick : {C M : Type 0} → List ℕ → Action C M → Action C M
action_at_tick ends delete = delete
action_at_tick ends (change setting) = change setting
action_at_tick ends (add replace kind setting) = add replace kind setting
action_at_tick ends (copy replace from from_rev setting) = copy replace from (slice_index_or ends from_rev 0) setting

abbrev pub record_at_tick : {C M : Type 0} → List ℕ → Record C M → Record C M
record_at_tick ends each = record { path = each.path; action = action_at_tick ends each.action }

-- the source of a copy is of a revision that ends before this tick
abbrev pub HasSourceBefore : List ℕ → ℕ → Act → Type 0
HasSourceBefore ends tick (act.Copy replace from from_rev mi) = (from_rev < length ends) × (slice_index_or ends from_rev 0 < tick)
HasSourceBefore ends tick _ = Unit {0}

-- the source of each copy stands before it, where the records follow a tick
abbrev pub HaveSources : ℕ → List ℕ → List NodeRecord → Type 0
HaveSources start ends records =
    (index : ℕ) (each : NodeRecord) → slice_get records index ≡ Some each → HasSourceBefore ends (start + index + 1) each.act
