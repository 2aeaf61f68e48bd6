use Rattle.merge_info.proofs.Common.{map, arith, common_steps, IsEntry, entry_view}
use Rattle.svn_text.proofs.Appended.{BeginsWith-append, BeginsWith-trans}
use Rattle.merge_info.proofs.InheritedEntries.{inherited_entries-canonical, inherited_entries-next}
use Rattle.merge_info.proofs.Each.{All-from_map_at}
use Rattle.merge_info.proofs.text.append_inherited.Goals as goal
use Rattle.merge_info.proofs.text.append_inherited.Goals.{then-has_inheritable+in_ok-append_inherited, else-has_inheritable}

-- the entry has a printed path
pub append_inherited-requires-clause-path : goal.append_inherited-requires-clause-path
append_inherited-requires-clause-path c =
    (All-from_map_at IsEntry entry_view c.args.entries.now c.requires.value.entries _ c.entry-item.result
    c.loop-entry-test.true c.entry-item.is).path

-- the line of one more entry, if it has inheritable runs
pub loop-entry-preserved : goal.loop-entry-preserved
loop-entry-preserved c =
    let next = inherited_entries-next c.args.rest.now c.args.entries.now c.loop-entry.entry-index c.entry-item.result
    c.loop-entry-test.true c.entry-item.is in
    grind (arith, common_steps)

-- the paths keep their order, so these are the entries of what is inherited
pub returns-clause-ok : goal.returns-clause-ok
returns-clause-ok c =
    let rest = c.args.rest.now in
    let value = map entry_view c.args.entries.now in
    let exact = inherited_entries-canonical rest value c.requires.rest c.requires.value (c.requires.order rest) in
    grind (arith, common_steps)

pub returns-in_err-append_inherited-clause-begins : goal.returns-in_err-append_inherited-clause-begins
returns-in_err-append_inherited-clause-begins c =
    BeginsWith-trans (BeginsWith-append _ c.loop-entry.invariant) c.append_inherited.ensures.begins
