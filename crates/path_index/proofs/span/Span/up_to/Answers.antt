use Rattle.path_index.proofs.Common.{get_or_from_slice_get}
use Rattle.path_index.proofs.EntriesOfPaths.{SetsPath-SetsAt}
use Rattle.path_index.proofs.Spans.{IsSpan-newest, IsSpan-none}
use Rattle.path_index.proofs.span.Span.up_to.Goals as goal

pub returns : goal.returns
returns c =
    let records = c.args.records.now in
    let path = c.args.path.now in
    let index = c.in-Some.index in
    let (each, at, sets) = SetsPath-SetsAt records c.args.by_path.now c.requires.by_path path index c.in-Some.ensures.1 in
    rw (c.rev.ensures each at)
    (IsSpan-newest path c.requires.by_path c.requires.there c.requires.rising c.count_up_to-count.ensures index each c.in_ok-origin.field-0 c.in-Some.ensures (get_or_from_slice_get records index each each at)
    (c.in_ok-origin.ensures each at))

pub returns-in_default : goal.returns-in_default
returns-in_default c = IsSpan-none c.args.path.now c.requires.by_path c.requires.there c.requires.rising c.count_up_to-count.ensures c.in_default.ensures

pub origin-requires : goal.origin-requires
origin-requires c =
    let (each, at, sets) = SetsPath-SetsAt c.args.records.now c.args.by_path.now c.requires.by_path c.args.path.now c.in-Some.index c.in-Some.ensures.1 in
    record { each = each; at = at; sets = sets }
