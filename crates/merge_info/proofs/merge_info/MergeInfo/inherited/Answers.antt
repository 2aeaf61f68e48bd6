use Rattle.merge_info.proofs.Common.{All, map, take, take-map, All-take, IsEntry, entry_view}
use Rattle.merge_info.proofs.Each.{All-from_map_at}
use Rattle.merge_info.proofs.Inheriting.{AreLines-inherited}
use Rattle.merge_info.proofs.merge_info.MergeInfo.inherited.Goals as goal

-- the entry has a printed path
pub inherited-requires-clause-path : goal.inherited-requires-clause-path
inherited-requires-clause-path c =
    let items = c.deref-entry-items.result.now in
    let entries : All IsEntry (map entry_view items) = rw c.deref-entry-items.ensures.value c.self.invariant.entries in
    (All-from_map_at IsEntry entry_view items entries _ c.entry-item.result c.loop-entry-test.true c.entry-item.is).path

-- what was inherited are lines
pub of_lines-requires : goal.of_lines-requires
of_lines-requires c =
    let items = c.deref-entry-items.result.now in
    let i = c.loop-entry.entry-index in
    let entries : All IsEntry (map entry_view items) = rw c.deref-entry-items.ensures.value c.self.invariant.entries in
    rw c.loop-entry.invariant (AreLines-inherited c.args.rest.now (map entry_view (take i items)) c.requires
    (rw (← take-map entry_view i items) (All-take IsEntry i (map entry_view items) entries)))
