-- What a talk is asked for by its arguments, and why there is none.
use Rattle.std.specs.Prelude.{◌≡◌, ◌⊎◌, ℕ, List, Option, Some, None, ⊤}
use Rattle.devices.specs.Device.{PullState, PushState}
use Rattle.devices.specs.declared.source.Source.TheVariants as source
use Rattle.svn_report.specs.declared.run_error.RunError.TheVariants.{Memory, Read}
use Rattle.live_history.specs.TalkEnd.{IsTalkError, IsWholeTalk}
use Rattle.live_history.specs.declared.talk_error.TalkError.{TalkError}
use Rattle.live_history.specs.declared.talk_error.TalkError.TheVariants.{Run}
use Rattle.svnhist_live.specs.Arguments.{ArgumentsValue, IsArguments}

module _ {F : Type 0} (opens refuses : F → List ℕ → F → Type 0) (state : F → PullState) (files read : F) (input after : PullState) (output sent : PushState) where
  -- the talk about the dump that a path opens
  pub record IsTalkOn (path : List ℕ) : Type 0 where
    pub opened : F
    pub opening : opens files path opened
    pub right : IsWholeTalk (state opened) (state read) input after output sent

  -- why it ended early
  pub record IsErrorOnDump (path : List ℕ) (error : TalkError) : Type 0 where
    pub opened : F
    pub opening : opens files path opened
    pub why : IsTalkError (state opened) (state read) input after output sent error
    -- want of memory is no failed read, and no input that ended
    pub memory_dump : error ≡ Run Memory → (state read).failures ≡ (state opened).failures
    pub memory : error ≡ Run Memory → after.failures ≡ input.failures
    pub unended : error ≡ Run Memory → after.ends ≡ input.ends

  -- the path can't be opened
  pub record IsUnopened (path : List ℕ) (error : TalkError) : Type 0 where
    pub is : error ≡ Run (Read source.Dump)
    pub refused : refuses files path read
    pub unread : after ≡ input
    pub unsent : sent ≡ output

  -- why there is no whole talk about a path's dump
  abbrev pub IsErrorOn : List ℕ → TalkError → Type 0
  IsErrorOn path error = IsUnopened path error ⊎ IsErrorOnDump path error

  -- ---- by the arguments

  abbrev pub IsTalkAsked : Option (List (List ℕ)) → Type 0
  IsTalkAsked None = ⊥
  IsTalkAsked (Some texts) = (asked : ArgumentsValue) × IsArguments texts asked × IsTalkOn asked.dump

  abbrev pub IsErrorAsked : Option (List (List ℕ)) → TalkError → Type 0
  IsErrorAsked None error = (error ≡ Run Memory) × (after ≡ input) × (sent ≡ output)
  IsErrorAsked (Some texts) error =
      (asked : ArgumentsValue) × IsArguments texts asked × IsErrorOn asked.dump error

-- nothing is asked for
abbrev pub IsMisused : Option (List (List ℕ)) → Type 0
IsMisused None = ⊤
IsMisused (Some texts) = (asked : ArgumentsValue) → IsArguments texts asked → ⊥

-- there is no whole talk, and the status and the line are those of the reason
pub record IsEnded (IsAsked : TalkError → Type 0) (IsLine : TalkError → Type 0) : Type 0 where
  pub error : TalkError
  pub asked : IsAsked error
  pub line : IsLine error
