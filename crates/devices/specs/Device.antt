-- What contracts see of a device.
use Rattle.std.specs.Prelude.{ℕ, ◌==◌, Bool, List, Option, Result, Ok, Err, if◌then◌else◌}
use Rattle.devices.specs.declared.device.Device.{Device}

-- a reader and how it was called
pub record PullState : Type 0 where
  -- the bytes that are left, where the device reports them
  pub left : Option (List ℕ)
  pub calls : ℕ
  -- how many calls gave no bytes, which is the end of the input
  pub ends : ℕ
  -- how many calls failed
  pub failures : ℕ
  -- whether one failed
  pub has_failed : Bool

-- a writer and how it was called
pub record PushState : Type 0 where
  -- the bytes that went out, where the device reports them
  pub gone : Option (List ℕ)
  pub calls : ℕ
  -- how many calls failed
  pub failures : ℕ
  -- whether one failed
  pub has_failed : Bool
  -- whether it was flushed after the last call of `push`; a new device was not
  pub is_flushed : Bool

-- one for a call that gave no bytes
abbrev pub end_count : {E : Type 0} → Result ℕ E → ℕ
end_count (Ok count) = if count == 0 then 1 else 0
end_count (Err failed) = 0

-- one for a call that failed
abbrev pub failure_count : {A E : Type 0} → Result A E → ℕ
failure_count (Ok done) = 0
failure_count (Err failed) = 1

abbrev pub device_inner : {D : Type 0} → Device D → D
device_inner d = d.inner

abbrev pub device_calls : {D : Type 0} → Device D → ℕ
device_calls d = d.calls

abbrev pub device_ends : {D : Type 0} → Device D → ℕ
device_ends d = d.ends

abbrev pub device_failures : {D : Type 0} → Device D → ℕ
device_failures d = d.failures

abbrev pub device_has_failed : {D : Type 0} → Device D → Bool
device_has_failed d = d.failed

abbrev pub device_is_flushed : {D : Type 0} → Device D → Bool
device_is_flushed d = d.flushed

-- the state of a reader or a writer of std, by the bytes that it reports
abbrev pub pull_state : {D : Type 0} → (D → Option (List ℕ)) → Device D → PullState
pull_state remaining d = record { left = remaining d.inner; calls = d.calls; ends = d.ends; failures = d.failures; has_failed = d.failed }

abbrev pub push_state : {D : Type 0} → (D → Option (List ℕ)) → Device D → PushState
push_state contents d = record { gone = contents d.inner; calls = d.calls; failures = d.failures; has_failed = d.failed; is_flushed = d.flushed }
