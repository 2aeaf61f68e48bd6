-- The front of a dump that a device gave to a reader.
use Rattle.svn_report.proofs.Common.{◌≡◌, ℕ, ◌≤◌, List, ◌++◌, Option, length, take, inl, inr, IsFalse, take-append-le, take-take}
use Rattle.std.specs.Io.KnownBytes.{Consumes}
use Rattle.std.proofs.KnownBytes.{Consumes-trans}
use Rattle.devices.specs.Device.{PullState}
use Rattle.svn_dump.specs.Decided.{IsDecidedError, IsUndecided}
use Rattle.svn_dump.specs.Feed.{FeedValue, HasRead}
use Rattle.svn_dump.specs.DumpError.{IsRefusal}
use Rattle.svn_dump.specs.declared.error.DumpError.{DumpError}
use Rattle.svn_dump.specs.declared.error.DumpError.TheVariants as refusal
use Rattle.svn_report.specs.Load.{IsReadWhole}
use Rattle.svn_report.specs.ReportError.{run_error_of_dump}
use Rattle.svn_report.specs.ReportFrom.{IsDumpErrorFrom, most_bytes}

-- the device gave these bytes, the reader has read them, and they decide no refusal
pub record IsFrontRead (old new : PullState) (feed : FeedValue) : Type 0 where
  pub front : List ℕ
  pub given : Consumes old.left new.left front
  pub read : HasRead feed front
  pub undecided : IsUndecided front

module _ (old mid new : PullState) (feed : FeedValue) (is : IsFrontRead old mid feed) (piece : List ℕ) (given : Consumes mid.left new.left piece) where
  -- a piece that decides nothing
  pub IsFrontRead-more : (next : FeedValue) → ((before : List ℕ) → HasRead feed before → HasRead next (before ++ piece))
      → ((before : List ℕ) → HasRead feed before → IsUndecided (before ++ piece)) → IsFrontRead old new next
  IsFrontRead-more next read undecided = record {
    front = is.front ++ piece;
    given = Consumes-trans old.left mid.left new.left is.front piece is.given given;
    read = read is.front is.read;
    undecided = undecided is.front is.read;
  }

  -- a piece that decides a refusal
  pub IsDumpErrorFrom-piece : (error : DumpError) → ((before : List ℕ) → HasRead feed before → IsDecidedError (before ++ piece) error)
      → new.ends ≡ old.ends → IsFalse new.has_failed → length piece ≤ most_bytes → IsDumpErrorFrom old new (run_error_of_dump error)
  IsDumpErrorFrom-piece (refusal.Refused number at) decided no_end sound small = inl (record {
    front = is.front;
    piece = piece;
    given = Consumes-trans old.left mid.left new.left is.front piece is.given given;
    no_end = no_end;
    sound = sound;
    small = small;
    before = is.undecided;
    decided = decided is.front is.read;
  })
  IsDumpErrorFrom-piece refusal.Memory decided no_end sound small = tt

-- all bytes were given, and only their end decides a refusal
pub IsDumpErrorFrom-end : (old new : PullState) (bytes : List ℕ) (error : DumpError) → IsReadWhole old new bytes → IsUndecided bytes
    → IsRefusal bytes error → IsDumpErrorFrom old new (run_error_of_dump error)
IsDumpErrorFrom-end old new bytes (refusal.Refused number at) all undecided first =
    inr (record { dump = bytes; all = all; before = undecided; first = first })
IsDumpErrorFrom-end old new bytes refusal.Memory all undecided first = tt

-- the bytes that were given stand at the front of the piece
pub Consumes-piece : (old new : Option (List ℕ)) (count len : ℕ) (given rest : List ℕ) → count ≤ length given → count ≤ len
    → Consumes old new (take count given) → Consumes old new (take count (take len (given ++ rest)))
Consumes-piece old new count len given rest within inside is =
    rw (take-take count len (given ++ rest) inside, take-append-le count given rest within) is
