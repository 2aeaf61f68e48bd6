-- The names that most proofs cite, passed on from one place. Declares nothing.
pub use Rattle.std.proofs.Common.{[], ◌++◌, ◌+◌, ◌-◌, ◌<◌, ◌==◌, ◌^◌, ◌∙◌, ◌∷◌, ◌≡◌, ◌≤◌, ◌⊎◌, All, ap, append-nil, append_assoc, arith, drop, Err, false, get_or, inl, inr, length, length-append, length-drop, List, map, None, Ok, Option, refl, Result, rules, Some, subst, sym, take, take-append-drop, take_all, true, ℕ}
pub use Rattle.std.proofs.KnownBytes.{Appends-nil, Appends-trans, Consumes-kept, Consumes-nil, Consumes-trans, prepend_known-nil}
pub use Rattle.std.proofs.lemmas.List.{drop-append-le, drop-drop, drop-take, length-map, length-take-le, map-append, nil_from_length, take-append-le, take-take}
pub use Rattle.std.proofs.lemmas.List.Concat.{flat_map-append}
pub use Rattle.std.proofs.lemmas.List.Elements.{All-append, All-cons, All-drop, All-get_or, All-head, All-map, All-nil}
pub use Rattle.std.proofs.lemmas.Result.{err_from_is_err_and, IfOk-weaker}
pub use Rattle.std.specs.Io.KnownBytes.{append_known, Appends, Consumes, Keeps, prepend_known}
pub use Rattle.std.specs.List.{flat_map}
pub use Rattle.std.specs.Prelude.{Bool, bytes_eq, IfErr, IfNone, IfSome, if◌then◌else◌, IsFalse, IsTrue, OnOk}
pub use Rattle.devices.specs.Device.{PullState, PushState}
pub use Rattle.live_history.specs.History.{IsFed, IsGrown, IsHistoryFrom, IsHistoryOf}
pub use Rattle.live_history.specs.PieceEnd.{IsPieceEnd}
pub use Rattle.live_history.specs.ReadAhead.{AreNear, HasLine, IsLineEnd, IsReadEnd, IsReadNoMore, ReadAheadValue, room, stream}
pub use Rattle.live_history.specs.Replies.{AreReplied, AreRepliedTo, IsUpToNext, IsUpToPiece, replies}
pub use Rattle.live_history.specs.Stream.{AreLast, AreTaken, HasEnded, IsCutLine, IsReadUpTo, IsUnread, IsUnreadLine, Stream, stream_of}
pub use Rattle.live_history.specs.Talk.{after_turn, after_turns, IsLawfulDump, IsReply, query_text, ready_text, start_of, TalkState}
unfoldable pub use Rattle.live_history.specs.Talk.{IsTalk}
pub use Rattle.live_history.specs.TalkEnd.{AreAllReplied, IsEndEarly, IsEndReason, IsNoHistory, IsOutputKept, IsPartOfPiece, IsPieceReason, IsTalkError, IsWholeTalk, most_answered}
pub use Rattle.live_history.specs.Talking.{IsAfterPiece, IsUnsaid}
pub use Rattle.live_history.specs.Turn.{IsPieceLine, IsTurn, piece, piece_line, query, Turn, turn_bytes, turns_bytes}
pub use Rattle.live_history.specs.Turns.{AreQueries, HasQuery, IfTurn, IsFirstQuery, IsNext}
pub use Rattle.live_history.specs.declared.history.History.{History}
pub use Rattle.live_history.specs.declared.talk_error.TalkError.{TalkError}
pub use Rattle.live_history.specs.declared.talk_error.TalkError.TheVariants.{Cut, Run, TooMany, Unsent}
pub use Rattle.svn_dump.specs.Draft.{IsWholeHistory}
pub use Rattle.svn_dump.specs.Dump.{DumpValue, history_in_bytes}
pub use Rattle.svn_dump.specs.Feed.{FeedValue, HasRead, IsPausedAt}
pub use Rattle.svn_report.specs.ReportFrom.{IsDumpErrorFrom, most_bytes}
pub use Rattle.svn_text.specs.Cut.{IsCutAt, Lacks}
pub use Rattle.svn_text.specs.Line.{line_text}
