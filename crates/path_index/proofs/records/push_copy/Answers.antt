use Rattle.path_index.proofs.Common.{refl, sym, Copied}
use Rattle.path_index.proofs.RecordEffects.{not_IsCopy}
use Rattle.path_index.proofs.KeptRecords.{AreCopies_push, AreCopies-same}
use Rattle.path_index.proofs.records.push_copy.Goals as goal

pub returns-in_ok-push : goal.returns-in_ok-push
returns-in_ok-push c = λ records index so.
    let each = c.args.each.now in
    let copied : Copied = record { index = c.args.index; to = c.in_ok-dup.field-0; from = c.in_ok-dup-2.field-0; from_rev = c.in-Copy.from_rev } in
    rw c.in_ok-push.ensures.items (AreCopies_push each copied so index (sym c.in_ok-dup.ensures) (rw c.in-Copy.is (sym c.in_ok-dup-2.ensures, refl)))

pub returns-in_default : goal.returns-in_default
returns-in_default c = λ records index so. AreCopies-same c.args.each.now so (not_IsCopy c.args.each.now.act c.in_default.not-Copy)
