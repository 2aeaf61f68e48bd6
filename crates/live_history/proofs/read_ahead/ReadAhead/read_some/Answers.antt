use Rattle.live_history.proofs.Common.{length, sym, ◌∙◌, nil_from_length}
use Rattle.std.proofs.lemmas.Bool.{eqb-true}
use Rattle.live_history.proofs.Waiting.{IsAllRepliedTo-piece}
use Rattle.live_history.proofs.read_ahead.ReadAhead.read_some.Goals as goal

pub read-requires-clause-replied : goal.read-requires-clause-replied
read-requires-clause-replied g c =
    let unread = c.unread.result.now in
    IsAllRepliedTo-piece c.requires.piece (sym c.unread.ensures ∙ nil_from_length unread (eqb-true (length unread) 0 (sym c.is_empty.ensures ∙ c.if-is_empty.true)))
