-- Bytes that are taken off an input after others.
use Rattle.live_history.proofs.Common.{◌≡◌, ◌⊎◌, ℕ, ◌+◌, ◌≤◌, List, [], ◌++◌, inl, inr, refl, ap, subst, ◌∙◌, arith, IsTrue, Consumes-nil, Consumes-trans, PullState, AreLast, AreTaken, HasEnded, IsCutLine, IsReadUpTo, IsUnread, IsUnreadLine, Stream, TalkError}

pub AreTaken-none : (old : Stream) → AreTaken old old []
AreTaken-none old = record { bytes = Consumes-nil old.come; limit = refl; ends = refl; failures = refl }

module _ {old mid : Stream} {taken : List ℕ} (first : AreTaken old mid taken) where
  pub AreTaken-more : {new : Stream} {more : List ℕ} → AreTaken mid new more → AreTaken old new (taken ++ more)
  AreTaken-more {new} {more} next = record {
    bytes = Consumes-trans old.come mid.come new.come taken more first.bytes next.bytes;
    limit = next.limit ∙ first.limit;
    ends = next.ends ∙ first.ends;
    failures = next.failures ∙ first.failures;
  }

  pub HasEnded-more : {after : PullState} → HasEnded mid after → HasEnded old after
  HasEnded-more {after} next = record {
    end = next.end;
    ends = next.ends ∙ ap (λ n. n + 1) first.ends;
    failures = next.failures ∙ first.failures;
    few = subst (λ n. after.calls ≤ n) first.limit next.few;
    sound = next.sound;
  }

  pub AreLast-more : {after : PullState} {more : List ℕ} → AreLast mid after more → AreLast old after (taken ++ more)
  AreLast-more {after} {more} next = record { bytes = Consumes-trans old.come mid.come after.left taken more first.bytes next.bytes; ended = HasEnded-more next.ended }

  pub IsReadUpTo-more : {after : PullState} {more : List ℕ} → IsReadUpTo mid after more → IsReadUpTo old after (taken ++ more)
  IsReadUpTo-more {after} {more} next = record {
    bytes = Consumes-trans old.come mid.come after.left taken more first.bytes next.bytes;
    once = omega (arith, next.once, first.ends, first.failures);
    ends = omega (arith, next.ends, first.ends);
    failures = omega (arith, next.failures, first.failures);
    few = subst (λ n. after.calls ≤ n) first.limit next.few;
  }

  pub IsUnread-more : {after : PullState} → IsUnread mid after → IsUnread old after
  IsUnread-more {after} next = record { no_end = next.no_end ∙ first.ends; why = by next.why }
    where
      by : IsTrue after.has_failed ⊎ (after.calls ≡ mid.limit) → IsTrue after.has_failed ⊎ (after.calls ≡ old.limit)
      by (inl failed) = inl failed
      by (inr used) = inr (used ∙ first.limit)

  pub IsUnreadLine-more : {after : PullState} {rest : List ℕ} {error : TalkError} → IsUnreadLine mid after rest error → IsUnreadLine old after rest error
  IsUnreadLine-more next = record { is = next.is; unread = IsUnread-more next.unread; line = next.line }

  pub IsCutLine-more : {after : PullState} {rest : List ℕ} {error : TalkError} → IsCutLine mid after rest error → IsCutLine old after rest error
  IsCutLine-more next = record { is = next.is; ended = HasEnded-more next.ended; some = next.some; line = next.line }
