-- What a feed has read, and the error that it answers.
use Rattle.svn_dump.proofs.Common.{◌≡◌, ℕ, ◌+◌, List, [], ◌++◌, length, sym, ap, subst, ◌∙◌, append-nil, length-append, arith, None, Some, IsDecidedError, IsFirstAt, IsRefusal, line_refusals, HasReadAll, first_holding, DumpError}
use Rattle.svn_dump.specs.Feed.{FeedValue, HasRead, HasReadOrRefused}
use Rattle.svn_dump.specs.declared.error.DumpError.TheVariants as dump
use Rattle.svn_dump.proofs.FirstRefusals.{first_line_taken}
use Rattle.svn_dump.proofs.Readers.{IsDecidedError-more}

-- a refusal that the bytes decide is theirs
pub IsRefusal-decided : (bytes : List ℕ) (error : DumpError) → IsDecidedError bytes error → IsRefusal bytes error
IsRefusal-decided bytes (dump.Refused number at) decided = subst (λ all. IsFirstAt all number at) (append-nil bytes) (decided [])
IsRefusal-decided bytes dump.Memory decided = tt

-- want of memory comes after the first line
pub first_line-memory : (bytes : List ℕ) (error : DumpError) → IsDecidedError bytes error → error ≡ dump.Memory → first_holding (line_refusals bytes) ≡ None
first_line-memory bytes (dump.Refused number at) decided same = absurd (cc)
first_line-memory bytes dump.Memory decided same = ap (λ all. first_holding (line_refusals all)) decided.begins ∙ first_line_taken decided.format decided.rest

-- an error that was answered
module _ (feed : FeedValue) (error : DumpError) (refused : feed.error ≡ Some error) (bytes : List ℕ) (has : HasRead feed bytes) where
  pub decided-refused : IsDecidedError bytes error
  decided-refused = subst (λ refusal. HasReadOrRefused feed.reader refusal bytes) refused has.read

  pub HasRead-more : (next : FeedValue) (more : List ℕ) → next.count ≡ feed.count + length more → next.error ≡ Some error → HasRead next (bytes ++ more)
  HasRead-more next more counted same = record {
    counted = omega (arith, counted, has.counted, length-append bytes more);
    read = subst (λ refusal. HasReadOrRefused next.reader refusal (bytes ++ more)) (sym same) (IsDecidedError-more bytes more error decided-refused);
  }

-- no error was answered
pub HasReadAll-not_refused : (feed : FeedValue) → feed.error ≡ None → (bytes : List ℕ) → HasRead feed bytes → HasReadAll feed.reader bytes
HasReadAll-not_refused feed none bytes has = subst (λ refusal. HasReadOrRefused feed.reader refusal bytes) none has.read

pub counted-more : (feed : FeedValue) (bytes more : List ℕ) → HasRead feed bytes → feed.count + length more ≡ length (bytes ++ more)
counted-more feed bytes more has = omega (arith, has.counted, length-append bytes more)
