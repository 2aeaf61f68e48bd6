-- What went out of some bytes that were sent.
use Rattle.std.specs.Prelude.{◌⊎◌, ℕ, ◌<◌, IsTrue, List, take}
use Rattle.std.specs.Io.KnownBytes.{Appends}
use Rattle.devices.specs.Device.{PushState}

-- some front of the bytes went out, before the device failed
pub record IsPartSent (old new : PushState) (bytes : List ℕ) : Type 0 where
  pub count : ℕ
  pub sent : Appends old.gone new.gone (take count bytes)
  pub failed : IsTrue new.has_failed
  pub called : old.calls < new.calls

-- a line went out and was flushed, or a front of it did before the device failed
abbrev pub PrintsLine : PushState → PushState → List ℕ → Type 0
PrintsLine old new line = IsPartSent old new line ⊎ (Appends old.gone new.gone line × IsTrue new.is_flushed)
