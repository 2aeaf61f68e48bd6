-- The sources of a part of the records of a history.
use Rattle.std.proofs.Common.{◌≡◌, ℕ, ◌+◌, ◌<◌, Some, List, get_or, length, take, drop, sym, ap, subst, ◌∙◌, arith, length-drop, length-take}
use Rattle.std.proofs.lemmas.List.{get_or-drop, get_or-take}
use Rattle.std.proofs.lemmas.Option.{get_or_from_slice_get, slice_get-get_or, slice_get_within}
use Rattle.svn_dump.specs.declared.record.NodeRecord.{NodeRecord}
use Rattle.block_map.specs.Ends.{HasSourceBefore, HaveSources}

-- what holds of the sources of all records holds of those of a part of them
pub HaveSources-part : (ends : List ℕ) (records : List NodeRecord) (start count : ℕ) → HaveSources 0 ends records
    → HaveSources start ends (take count (drop start records))
HaveSources-part ends records start count all place each at =
    let later = drop start records in
    let within = slice_get_within (take count later) place each at in
    let here : place < count = omega (arith, within, length-take count later) in
    let inside : start + place < length records = omega (arith, within, length-take count later, length-drop start records) in
    let is : get_or records (start + place) each ≡ each =
    sym (get_or-drop start records place each) ∙ sym (get_or-take count later place each here)
    ∙ get_or_from_slice_get (take count later) place each each at in
    let tick : 0 + (start + place) + 1 ≡ start + place + 1 = omega arith in
    subst (λ n. HasSourceBefore ends n each.act) tick
    (all (start + place) each (slice_get-get_or records (start + place) each inside ∙ ap Some is))
