-- A reader of a dump that comes in pieces, as its calls show it.
use Rattle.std.specs.Prelude.{◌≡◌, ℕ, List, Option, None, Some, length}
use Rattle.svn_dump.specs.Decided.{IsDecidedError}
use Rattle.svn_dump.specs.Dump.{DumpValue}
use Rattle.svn_dump.specs.Reader.{HasReadAll, IsReadAs}
use Rattle.svn_dump.specs.declared.error.DumpError.{DumpError}
use Rattle.svn_dump.specs.declared.paused.Paused.{Paused}
use Rattle.svn_dump.specs.declared.pieces.reader.Reader.{Reader}

-- what it keeps, how many bytes have come, and the error that it answered, if it did
pub record FeedValue : Type 0 where
  pub reader : Reader
  pub count : ℕ
  pub error : Option DumpError

abbrev pub HasReadOrRefused : Reader → Option DumpError → List ℕ → Type 0
HasReadOrRefused reader None bytes = HasReadAll reader bytes
HasReadOrRefused reader (Some error) bytes = IsDecidedError bytes error

-- these bytes may be what has come to it, in whatever pieces; bytes that are skipped may be any of the same number
pub record HasRead (feed : FeedValue) (bytes : List ℕ) : Type 0 where
  pub counted : feed.count ≡ length bytes
  pub read : HasReadOrRefused feed.reader feed.error bytes

-- these bytes may be what was read before a pause, at which this dump was handed out
pub record IsPausedAt (paused : Paused) (dump : DumpValue) (bytes : List ℕ) : Type 0 where
  pub counted : paused.count ≡ length bytes
  pub read : IsReadAs paused.format bytes dump
