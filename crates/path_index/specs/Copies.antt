-- The copies among records.
use Rattle.std.specs.Prelude.{ℕ, ◌&&◌, nat_le, nat_lt, Bool, List, Option, None, Some, filter, filter_map}
use Rattle.svn_path.specs.declared.names.NameId.{NameId}
use Rattle.svn_dump.specs.declared.record.Act.{Act}
use Rattle.svn_dump.specs.declared.record.Act.TheVariants as act
use Rattle.svn_dump.specs.declared.record.NodeRecord.{NodeRecord}
use Rattle.path_index.specs.declared.copied.Copied.{Copied}

-- where a record copies to, and from where
pub record Copy : Type 0 where
  pub to : List NameId
  pub from : List NameId
  pub from_rev : ℕ

abbrev pub copy_view : Copied → Copy
copy_view copied = record { to = copied.to; from = copied.from; from_rev = copied.from_rev }

abbrev pub copy_by : List NameId → Act → Option Copy
copy_by to (act.Copy replace from from_rev mi) = Some (record { to = to; from = from; from_rev = from_rev })
copy_by to _ = None

-- the copy of a record, if it copies
abbrev pub copy_of : NodeRecord → Option Copy
copy_of each = copy_by each.path each.act

abbrev pub copies_of : List NodeRecord → List Copy
copies_of records = filter_map copy_of records

abbrev pub is_up_to : ℕ → NodeRecord → Bool
is_up_to rev each = nat_le each.rev rev

-- the copies of the revisions up to this one, in the order of their records
abbrev pub copies_up_to : ℕ → List NodeRecord → List Copy
copies_up_to rev records = copies_of (filter (is_up_to rev) records)

-- the record is of a revision after `above` and up to `up_to`
abbrev pub is_between : ℕ → ℕ → NodeRecord → Bool
is_between above up_to each = nat_lt above each.rev && nat_le each.rev up_to

-- the copies of the revisions after `above` and up to `up_to`, in the order of their records
abbrev pub copies_between : ℕ → ℕ → List NodeRecord → List Copy
copies_between above up_to records = copies_of (filter (is_between above up_to) records)
