use Rattle.path_index.proofs.EntriesOfPaths.{SetsPath-SetsAt}
use Rattle.path_index.proofs.LastSet.{IsLastSet-newest, IsLastSet-none, KeepsPath-unset}
use Rattle.path_index.proofs.last_set.last_set.Goals as goal

pub returns-in-Some-clause-exact : goal.returns-in-Some-clause-exact
returns-in-Some-clause-exact c =
    let records = c.args.records.now in
    let path = c.args.path.now in
    let (each, at, sets) = SetsPath-SetsAt records c.args.by_path.now c.requires.by_path path c.in-Some.index c.in-Some.ensures.1 in
    rw (c.rev.ensures each at)
    (IsLastSet-newest path c.requires.by_path c.requires.rising c.count_up_to-count.ensures c.in-Some.index each c.in-Some.ensures at sets)

pub returns-in-Some-clause-kept : goal.returns-in-Some-clause-kept
returns-in-Some-clause-kept c =
    KeepsPath-unset c.args.records.now c.args.path.now c.rev.result c.args.rev (returns-in-Some-clause-exact c).newest

pub returns-in-None-clause-exact : goal.returns-in-None-clause-exact
returns-in-None-clause-exact c =
    IsLastSet-none c.args.path.now c.requires.by_path c.requires.rising c.count_up_to-count.ensures c.in-None.ensures

pub returns-in-None-clause-kept : goal.returns-in-None-clause-kept
returns-in-None-clause-kept c = KeepsPath-unset c.args.records.now c.args.path.now 0 c.args.rev (returns-in-None-clause-exact c).newest
