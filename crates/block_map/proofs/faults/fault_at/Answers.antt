use Rattle.block_map.proofs.Common.{◌≡◌, ℕ, List, ◌+◌, ◌-◌, ◌<◌, Some, get_or, length, option_map, sym, ap, subst, ◌∙◌, arith, slice_get, slice_get-get_or, IfOk-weaker, same_name, DumpValue, IsDump, history_view, NodeRecord, action_in, fault_of_next_record, fault_found, HasSourceBefore, ends_of, standings_in, state_in, standing_at}
use Rattle.block_map.specs.FaultKind.{kind_view}
use Rattle.block_map.proofs.FaultsFound.{fault_of_next_record-found}
use Rattle.block_map.proofs.FaultsSame.{fault_found-same}
use Rattle.block_map.proofs.Sources.{HaveSources-dump}
use Rattle.block_map.proofs.Standings.{standing-look}
use Rattle.block_map.proofs.faults.fault_at.Goals as goal

-- the record of an index of a dump has its source before it
source_before : (dump : DumpValue) → IsDump dump → (index : ℕ) (each : NodeRecord) → slice_get dump.records index ≡ Some each → HasSourceBefore (ends_of dump.counts) (index + 1) each.act
source_before dump is index each at =
    subst (λ tick. HasSourceBefore (ends_of dump.counts) tick each.act) (omega arith) (HaveSources-dump dump is index each at)

-- the record of a number
record_at : (dump : DumpValue) (records : List NodeRecord) (index : ℕ) (each : NodeRecord) → index < length dump.records → records ≡ dump.records → each ≡ get_or records index each
    → slice_get dump.records index ≡ Some each
record_at dump records index each within same is = slice_get-get_or dump.records index each within ∙ ap Some (sym (is ∙ ap (λ all. get_or all index each) same))

pub fault_of-requires-clause-source : goal.fault_of-requires-clause-source
fault_of-requires-clause-source c =
    let dump = c.args.dump.now in
    let index = c.args.number - 1 in
    let each = c.index-records-index.result in
    let at = record_at dump c.records.result.now index each (omega (arith, c.requires.some, c.requires.within)) c.records.ensures.value c.index-records-index.is in
    rw c.requires.ends (source_before dump c.records.ensures.kept index each at)

pub returns : goal.returns
returns c =
    let dump = c.args.dump.now in
    let map = c.args.map.now in
    let index = c.args.number - 1 in
    let each = c.index-records-index.result in
    let kept = c.records.ensures.kept in
    let at = record_at dump c.records.result.now index each (omega (arith, c.requires.some, c.requires.within)) c.records.ensures.value c.index-records-index.is in
    IfOk-weaker c.fault_of.result (λ kind. option_map kind_view kind ≡ fault_found (standings_in map) index each.path (action_in c.args.ends.now each))
    (λ kind. option_map kind_view kind ≡ fault_of_next_record same_name (history_view dump) index)
    (λ kind is. is ∙ ap (λ ends. fault_found (standings_in map) index each.path (action_in ends each)) c.requires.ends
    ∙ fault_found-same (standings_in map) (λ tick path. standing_at same_name (state_in dump tick) path) index
    (λ earlier path upto. standing-look dump kept map c.requires.map.first earlier path (omega (arith, upto, c.requires.some, c.requires.within, c.requires.map.whole)))
    (ends_of dump.counts) each.path each.act (source_before dump kept index each at)
    ∙ sym (fault_of_next_record-found dump kept index each at))
    c.fault_of.ensures
