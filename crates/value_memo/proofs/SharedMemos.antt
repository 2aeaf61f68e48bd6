-- Threads may share a memo.
use denote.Param.Send.{IsSync, sendable}
use denote.Ref.{NamedLft}
use Rattle.std.proofs.Crossing.{crosses}
use Rattle.once_cell.proofs.race.once_box.OnceBox.TheSendSync.{the_sync}
use Rattle.value_memo.specs.contracts.memo.Memo as Memo

pub memo_sync : (texts : NamedLft) → IsSync (Memo.the_row texts)
memo_sync texts = search (sendable, crosses, the_sync) depth 40 fits 100000
