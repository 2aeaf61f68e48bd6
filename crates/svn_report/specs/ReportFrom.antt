-- The report on a dump that a device gives in pieces.
use Rattle.std.specs.Prelude.{◌≡◌, ◌⊎◌, ℕ, ◌*◌, ◌<◌, ◌≤◌, List, ◌++◌, None, length, IsFalse}
use Rattle.std.specs.Io.KnownBytes.{Consumes}
use Rattle.devices.specs.Device.{PullState}
use Rattle.svn_dump.specs.Decided.{IsDecided, IsUndecided}
use Rattle.svn_dump.specs.Dump.{DumpValue, history_in_bytes}
use Rattle.svn_dump.specs.DumpError.{IsFirstAt}
use Rattle.svn_dump.specs.DumpText.{IsDumpText}
use Rattle.svn_dump.specs.Feed.{FeedValue, HasRead}
use Rattle.svn_dump.specs.declared.error.DumpError.{DumpError}
use Rattle.svn_dump.specs.declared.error.DumpError.TheVariants as refusal
use Rattle.block_map.specs.declared.fault.Fault.{Fault}
use Rattle.devices.specs.declared.source.Source.TheVariants as source
use Rattle.svn_report.specs.Load.{IsReadWhole, IsUnread, most_reads}
use Rattle.svn_report.specs.QueryLines.{query_lines}
use Rattle.svn_report.specs.Report.{AreFew, IsReport, most_queries}
use Rattle.svn_report.specs.ReportError.{IsFirstFault}
use Rattle.svn_report.specs.declared.run_error.RunError.{RunError}
use Rattle.svn_report.specs.declared.run_error.RunError.TheVariants as run

-- how many bytes a piece has at most
abbrev pub most_bytes : ℕ
most_bytes = 65536

-- all of an input was read, and has come to this reader; it decides no refusal
pub record IsFeedFrom (old new : PullState) (feed : FeedValue) : Type 0 where
  pub bytes : List ℕ
  pub all : IsReadWhole old new bytes
  pub read : HasRead feed bytes
  pub undecided : IsUndecided bytes
  pub going : feed.error ≡ None
  pub few : feed.count ≤ most_reads * most_bytes

-- all of an input was read, and it is this dump
pub record IsDumpFrom (old new : PullState) (dump : DumpValue) : Type 0 where
  pub bytes : List ℕ
  pub all : IsReadWhole old new bytes
  pub read : IsDumpText bytes (history_in_bytes dump)

-- all of an input was read, and this is the report on it
pub record IsReportFrom (old new : PullState) (queries report : List ℕ) : Type 0 where
  pub dump : List ℕ
  pub all : IsReadWhole old new dump
  pub right : IsReport dump queries report

-- the last bytes that were given, at most one piece, decide the refusal, and those before them decide none; nothing was
-- read after them, since that may fail
pub record IsDecidedByPiece (old new : PullState) (number at : ℕ) : Type 0 where
  pub front : List ℕ
  pub piece : List ℕ
  pub given : Consumes old.left new.left (front ++ piece)
  pub no_end : new.ends ≡ old.ends
  pub sound : IsFalse new.has_failed
  pub small : length piece ≤ most_bytes
  pub before : IsUndecided front
  pub decided : IsDecided (front ++ piece) number at

-- all of an input was read, and only that it ends there shows the first reason against it
pub record IsRefusedAtEnd (old new : PullState) (number at : ℕ) : Type 0 where
  pub dump : List ℕ
  pub all : IsReadWhole old new dump
  pub before : IsUndecided dump
  pub first : IsFirstAt dump number at

-- why an input is no dump; running out of memory is an error of its own
abbrev pub IsRefusedFrom : PullState → PullState → DumpError → Type 0
IsRefusedFrom old new (refusal.Refused number at) = IsDecidedByPiece old new number at ⊎ IsRefusedAtEnd old new number at
IsRefusedFrom old new refusal.Memory = ⊥

-- all of an input was read, and this is its first faulty record
pub record IsFaultyFrom (old new : PullState) (fault : Fault) : Type 0 where
  pub dump : List ℕ
  pub all : IsReadWhole old new dump
  pub first : IsFirstFault dump fault

-- an input was not read to its end, and what was read of it decides no refusal
pub record IsUnreadFrom (old new : PullState) : Type 0 where
  pub front : List ℕ
  pub given : Consumes old.left new.left front
  pub undecided : IsUndecided front
  pub unread : IsUnread old new

-- why there is no dump from an input
abbrev pub IsDumpErrorFrom : PullState → PullState → RunError → Type 0
IsDumpErrorFrom old new run.TooMany = ⊥
IsDumpErrorFrom old new (run.Dump refused) = IsRefusedFrom old new refused
IsDumpErrorFrom old new (run.Fault fault) = ⊥
IsDumpErrorFrom old new (run.Read which) = (which ≡ source.Dump) × IsUnreadFrom old new
IsDumpErrorFrom old new run.Memory = Unit {0}

-- why there is no report on an input; that the queries are too many comes before anything is read
abbrev pub IsRunErrorFrom : PullState → PullState → List ℕ → RunError → Type 0
IsRunErrorFrom old new queries run.TooMany = (most_queries < length (query_lines queries)) × (new ≡ old)
IsRunErrorFrom old new queries (run.Dump refused) = AreFew queries × IsRefusedFrom old new refused
IsRunErrorFrom old new queries (run.Fault fault) = AreFew queries × IsFaultyFrom old new fault
IsRunErrorFrom old new queries (run.Read which) = AreFew queries × (which ≡ source.Dump) × IsUnreadFrom old new
IsRunErrorFrom old new queries run.Memory = Unit {0}
