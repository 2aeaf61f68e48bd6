-- What a run is asked for. Without arguments it is the report on the bundle that the input is; with four, that on two
-- files; other arguments ask for nothing.
use Rattle.std.specs.Prelude.{◌≡◌, ◌⊎◌, ℕ, List, [], ◌∷◌, Option, Some, None, ⊤}
use Rattle.devices.specs.Device.{PullState}
use Rattle.devices.specs.declared.source.Source.TheVariants.{Input}
use Rattle.svn_report.specs.Load.{IsReadWhole, IsUnread}
use Rattle.svn_report.specs.Report.{IsReport}
use Rattle.svn_report.specs.ReportError.{IsRunError}
use Rattle.svn_report.specs.declared.run_error.RunError.{RunError}
use Rattle.svn_report.specs.declared.run_error.RunError.TheVariants.{Read, Memory}
use Rattle.svnhist.specs.Arguments.{ArgumentsValue, IsArguments}
use Rattle.svnhist.specs.Bundle.{BundleValue, IsBundle}
use Rattle.svnhist.specs.Files.{IsErrorOnFiles, IsOutOfMemory, IsReportOnFiles}

-- ---- the bundle of an input

-- all of an input was read, and this is the report on the bundle that it is
pub record IsReportOnInput (old new : PullState) (report : List ℕ) : Type 0 where
  pub bytes : List ℕ
  pub value : BundleValue
  pub read : IsReadWhole old new bytes
  pub bundle : IsBundle bytes value
  pub right : IsReport value.dump value.queries report

-- all of an input was read, it is a bundle, and there is no report on it for this reason
pub record IsRefusedInput (old new : PullState) (error : RunError) : Type 0 where
  pub bytes : List ℕ
  pub value : BundleValue
  pub read : IsReadWhole old new bytes
  pub bundle : IsBundle bytes value
  pub why : IsRunError value.dump value.queries error

-- all of an input was read, and it is not a bundle
pub record IsNoBundle (old new : PullState) : Type 0 where
  pub bytes : List ℕ
  pub read : IsReadWhole old new bytes
  pub none : (value : BundleValue) → IsBundle bytes value → ⊥

abbrev pub IsErrorOnInput : PullState → PullState → RunError → Type 0
IsErrorOnInput old new error =
    IsOutOfMemory old new error ⊎ ((error ≡ Read Input) × IsUnread old new) ⊎ IsRefusedInput old new error

-- ---- by the arguments

module _ {F : Type 0} (opens refuses : F → List ℕ → F → Type 0) (state : F → PullState) (files after : F) (old new : PullState) where
  -- the report that is asked for
  abbrev pub IsReportAsked : Option (List (List ℕ)) → List ℕ → Type 0
  IsReportAsked None report = ⊥
  IsReportAsked (Some []) report = IsReportOnInput old new report
  IsReportAsked (Some (text ∷ texts)) report =
      (asked : ArgumentsValue) × IsArguments (text ∷ texts) asked × IsReportOnFiles opens state files after asked report

  -- why there is none
  abbrev pub IsErrorAsked : Option (List (List ℕ)) → RunError → Type 0
  IsErrorAsked None error = error ≡ Memory
  IsErrorAsked (Some []) error = IsErrorOnInput old new error
  IsErrorAsked (Some (text ∷ texts)) error =
      (asked : ArgumentsValue) × IsArguments (text ∷ texts) asked × IsErrorOnFiles opens refuses state files after asked error

-- nothing is asked for
abbrev pub IsMisused : Option (List (List ℕ)) → PullState → PullState → Type 0
IsMisused None old new = ⊤
IsMisused (Some []) old new = IsNoBundle old new
IsMisused (Some (text ∷ texts)) old new = (asked : ArgumentsValue) → IsArguments (text ∷ texts) asked → ⊥
