-- How the reading of a piece ends that is not taken to a dump.
use Rattle.std.specs.Prelude.{ℕ, List}
use Rattle.devices.specs.Device.{PullState}
use Rattle.live_history.specs.Stream.{IsReadUpTo, Stream}
use Rattle.live_history.specs.TalkEnd.{IsPieceReason}
use Rattle.live_history.specs.declared.talk_error.TalkError.{TalkError}

-- so much of an input was read, and this is why
pub record IsPieceEnd (dump : List ℕ) (size : ℕ) (old : Stream) (after : PullState) (error : TalkError) : Type 0 where
  pub rest : List ℕ
  pub read : IsReadUpTo old after rest
  pub why : IsPieceReason dump size old after rest error
