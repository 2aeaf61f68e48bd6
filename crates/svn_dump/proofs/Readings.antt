-- Bytes that are read as a draft: what stands against an input that begins with them, and what follows them.
use Rattle.svn_dump.proofs.Common.{◌≡◌, ℕ, suc, ◌+◌, ◌-◌, ◌<◌, List, [], ◌∷◌, ◌++◌, length, replicate, refl, sym, ap, ◌∙◌, subst, append_assoc, append-nil, length-append, arith, Some, option_and_then, after_first, cond-true, fold-append, nil_from_length, replicate-append-replicate, is_newline, AreBlocks, Block, IsBlock, block_text, HasFirstLine, IsDecidedError, IsWholeHistory, dump_of, DumpValue, IsDump, history_in_bytes, IsFirstAt, IsRefusal, IsDumpText, IsSmall, first_line, RefusalAt, after_block, block_at, block_refusal, end_refusal, first_refusal, format_of, line_refusals, refusal_from, refusal_or, IsBlockRefusalFrom, dump_error_at, BeginsBlock, IsReadAs, IsReadTo, HistoryOfBytes, history_of, with_block, first_holding, number_of_refusal, DumpError, Format, ReadError, Refusal, Revision}
use Rattle.svn_dump.specs.declared.error.DumpError.TheVariants as dump
use Rattle.svn_dump.specs.declared.read_error.ReadError.TheVariants as read
use Rattle.svn_dump.proofs.FirstRefusals.{first_refusal-line, length-after_line, refusal_from-at, refusal_from-front, without_empty_lines-none}
use Rattle.svn_dump.proofs.Drafts.{IsWholeHistory-none}
use Rattle.svn_dump.proofs.Histories.{length-history_in_bytes}

-- ---- blocks beside each other

AreBlocks-newlines : (empty : ℕ) (bytes : List ℕ) (blocks : List Block) → AreBlocks bytes blocks → AreBlocks (replicate empty 10 ++ bytes) blocks
AreBlocks-newlines empty bytes [] are = (
  empty + are.0,
  ap (λ all. replicate empty 10 ++ all) are.1 ∙ replicate-append-replicate empty are.0 10,
)
AreBlocks-newlines empty bytes (block ∷ blocks) are =
    let (more, rest, is, whole, follow) = are in
    let text = block_text block in (
      empty + more,
      rest,
      is,
      ap (λ all. replicate empty 10 ++ all) (whole ∙ append_assoc (replicate more 10) text rest)
          ∙ sym (append_assoc (replicate empty 10) (replicate more 10) (text ++ rest)) ∙ ap (λ all. all ++ (text ++ rest)) (replicate-append-replicate empty more 10)
          ∙ sym (append_assoc (replicate (empty + more) 10) text rest),
      follow,
    )

-- blocks, and more blocks after them
pub AreBlocks-append : (front back : List ℕ) (first last : List Block) → AreBlocks front first → AreBlocks back last → AreBlocks (front ++ back) (first ++ last)
AreBlocks-append front back [] last are more = subst (λ all. AreBlocks (all ++ back) last) (sym are.1) (AreBlocks-newlines are.0 back last more)
AreBlocks-append front back (block ∷ first) last are more =
    let (empty, rest, is, whole, follow) = are in (
      empty,
      rest ++ back,
      is,
      ap (λ all. all ++ back) whole ∙ append_assoc (replicate empty 10 ++ block_text block) rest back,
      AreBlocks-append rest back first last follow more,
    )

AreBlocks-one : (block : Block) → IsBlock block → AreBlocks (block_text block) (block ∷ [])
AreBlocks-one block is = (0, [], is, sym (append-nil (block_text block)), (0, refl))

-- ---- the bytes that are read

module _ (format : Format) where
  -- the first line is read as nothing
  pub IsReadAs-line : IsReadAs format (first_line format) (dump_of [] [] [] [])
  IsReadAs-line = record {
    rest = [];
    blocks = [];
    begins = sym (append-nil (first_line format));
    follows = (0, refl);
    tells = refl;
    whole = IsWholeHistory-none;
  }

  module _ (front : List ℕ) (draft : DumpValue) (is : IsReadAs format front draft) where
    -- with empty lines after it
    pub IsReadAs-newlines : (empty : ℕ) → IsReadAs format (front ++ replicate empty 10) draft
    IsReadAs-newlines empty = record {
      rest = is.rest ++ replicate empty 10;
      blocks = is.blocks ++ [];
      begins = ap (λ all. all ++ replicate empty 10) is.begins ∙ append_assoc (first_line format) is.rest (replicate empty 10);
      follows = AreBlocks-append is.rest (replicate empty 10) is.blocks [] is.follows (empty, refl);
      tells = ap (history_of format) (append-nil is.blocks) ∙ is.tells;
      whole = is.whole;
    }

    -- and with one more block
    pub IsReadAs-block : (block : Block) (new : DumpValue) → IsBlock block → with_block format (history_in_bytes draft) block ≡ Some (history_in_bytes new) → IsWholeHistory new → IsReadAs format (front ++ block_text block) new
    IsReadAs-block block new is_block adds whole = record {
      rest = is.rest ++ block_text block;
      blocks = is.blocks ++ block ∷ [];
      begins = ap (λ all. all ++ block_text block) is.begins ∙ append_assoc (first_line format) is.rest (block_text block);
      follows = AreBlocks-append is.rest (block_text block) is.blocks (block ∷ []) is.follows (AreBlocks-one block is_block);
      tells =
          fold-append (λ so_far each. option_and_then (λ history. with_block format history each) so_far) (Some []) is.blocks (block ∷ [])
          ∙ ap (option_and_then (λ history. with_block format history block)) is.tells ∙ adds;
      whole = whole;
    }

    abbrev pub HasFirstLine-read : (more : List ℕ) → HasFirstLine (front ++ more)
    HasFirstLine-read more = record {
      format = format;
      rest = is.rest ++ more;
      begins = ap (λ all. all ++ more) is.begins ∙ append_assoc (first_line format) is.rest more;
    }

    -- ---- what stands against an input that begins so

    refusal-after : (more : List ℕ) → (left : ℕ) × (length more < left) × (first_refusal (front ++ more) ≡ refusal_from format left (length (front ++ more)) (history_in_bytes draft) more)
    refusal-after more =
        let all = front ++ more in
        let begins : all ≡ first_line format ++ (is.rest ++ more) = (HasFirstLine-read more).begins in
        let shorter = length-after_line format all (is.rest ++ more) begins in
        let (left, long, same) = refusal_from-front format (length all) (length all) [] (history_in_bytes draft) is.rest more is.blocks is.follows is.tells is.whole.small (omega (arith, shorter, length-append is.rest more)) in
        (left, long, first_refusal-line format all (is.rest ++ more) begins ∙ same)

    -- it is what stands against the block that follows, or against what follows that
    pub first_refusal-from :
        (block : List ℕ) → BeginsBlock block →
        (most : ℕ) × (first_refusal (front ++ block) ≡ refusal_or (block_refusal format (history_in_bytes draft) block) (length front) (option_and_then (λ after. refusal_from format most (length (front ++ block)) after (after_block block)) (with_block format (history_in_bytes draft) (block_at block))))
    first_refusal-from block begins =
        let total = length (front ++ block) in
        let history = history_in_bytes draft in
        let (left, long, same) = refusal-after block in
        let longer : left ≡ suc (left - 1) = omega (arith, long) in
        let place : total - length block ≡ length front = omega (arith, length-append front block) in
        let later = λ (after : HistoryOfBytes). refusal_from format (left - 1) total after (after_block block) in (
          left - 1,
          same ∙ ap (λ n. refusal_from format n total history block) longer
              ∙ refusal_from-at format (left - 1) total history block block (without_empty_lines-none block begins.not_empty_line) ∙ cond-true _ _ _ begins.some
              ∙ ap (λ n. refusal_or (block_refusal format history block) n (option_and_then later (with_block format history (block_at block)))) place,
        )

    -- so what stands against the block stands against the input
    pub first_refusal-block : (block : List ℕ) (refusal : Refusal) → BeginsBlock block → block_refusal format (history_in_bytes draft) block ≡ Some refusal → first_refusal (front ++ block) ≡ Some (record { refusal = refusal; at = length front })
    first_refusal-block block refusal begins told =
        let (most, same) = first_refusal-from block begins in
        same ∙ ap (λ first. refusal_or first (length front) (option_and_then (λ after. refusal_from format most (length (front ++ block)) after (after_block block)) (with_block format (history_in_bytes draft) (block_at block)))) told

    -- and where nothing follows, that there is no revision
    pub first_refusal-end : first_refusal front ≡ end_refusal (length front) (history_in_bytes draft)
    first_refusal-end =
        let (left, long, same) = refusal-after [] in
        let longer : left ≡ suc (left - 1) = omega (arith, long) in
        ap first_refusal (sym (append-nil front)) ∙ same ∙ ap (λ n. refusal_from format n (length (front ++ [])) (history_in_bytes draft) []) longer
        ∙ refusal_from-at format (left - 1) (length (front ++ [])) (history_in_bytes draft) [] [] refl ∙ ap (λ all. end_refusal (length all) (history_in_bytes draft)) (append-nil front)

    -- ---- the whole dump

    pub IsDumpText-read : (dump : DumpValue) → dump ≡ draft → IsDump dump → IsDumpText front (history_in_bytes dump)
    IsDumpText-read dump same kept = record {
      format = format;
      rest = is.rest;
      blocks = is.blocks;
      begins = is.begins;
      follows = is.follows;
      tells = is.tells ∙ ap (λ one. Some (history_in_bytes one)) (sym same);
      some_revision = λ none. kept.some_revision (nil_from_length dump.counts (sym (length-history_in_bytes dump.names dump.records dump.counts dump.values) ∙ ap length none));
      small = subst (λ one. IsSmall (history_in_bytes one)) (sym same) is.whole.small;
    }

    -- the bytes end without a revision
    pub IsRefusal-end : (e : DumpError) (end : ℕ) → end ≡ length front → (e ≡ dump.Refused 8 end) × (draft.counts ≡ []) → IsRefusal front e
    IsRefusal-end e end long refused =
        let nothing : history_in_bytes draft ≡ [] = nil_from_length (history_in_bytes draft) (length-history_in_bytes draft.names draft.records draft.counts draft.values ∙ ap length refused.1) in
        subst (IsRefusal front) (sym (refused.0 ∙ ap (dump.Refused 8) long))
        (record { refusal = Revision; first = first_refusal-end ∙ ap (end_refusal (length front)) nothing; numbered = refl })

-- the first line is refused
pub IsFirstAt-line : (bytes : List ℕ) (refusal : Refusal) → first_holding (line_refusals bytes) ≡ Some refusal → IsFirstAt bytes (number_of_refusal refusal) 0
unfolding first_refusal
IsFirstAt-line bytes refusal first = record {
  refusal = refusal;
  first = ap (λ o. refusal_or o 0 (option_and_then (λ format. refusal_from format (length bytes) (length bytes) [] (after_first is_newline bytes)) (format_of bytes))) first;
  numbered = refl;
}

-- ---- a block in progress

pub BeginsBlock-append : (block more : List ℕ) → BeginsBlock block → BeginsBlock (block ++ more)
BeginsBlock-append [] more begins = absurd (cc)
BeginsBlock-append (byte ∷ block) more begins = record { some = refl; not_empty_line = begins.not_empty_line }

-- the input that begins so, and the front of it with the block's bytes
from_front : (bytes front block more : List ℕ) → bytes ≡ front ++ block → bytes ++ more ≡ front ++ (block ++ more)
from_front bytes front block more whole = ap (λ all. all ++ more) whole ∙ append_assoc front block more

module _ (format : Format) where
  -- what the bytes of a block decide against it, they decide against the input
  pub IsDecidedError-block :
      (bytes block : List ℕ) (draft : DumpValue) (at : ℕ) (e : ReadError) → IsReadTo format bytes draft at block → BeginsBlock block →
      IsBlockRefusalFrom format (history_in_bytes draft) block e → IsDecidedError bytes (dump_error_at at e)
  IsDecidedError-block bytes block draft at (read.Refused refusal) to begins told = λ more. record {
    refusal = refusal;
    first =
        ap first_refusal (from_front bytes to.front block more to.whole)
        ∙ first_refusal-block format to.front draft to.read (block ++ more) refusal (BeginsBlock-append block more begins) (told more)
        ∙ ap (λ (n : ℕ). Some (let found : RefusalAt = record { refusal = refusal; at = n } in found)) (sym to.begins);
    numbered = refl;
  }
  IsDecidedError-block bytes block draft at read.Memory to begins told =
      subst HasFirstLine (sym to.whole) (HasFirstLine-read format to.front draft to.read block)

  -- what stands against a block that ends with the input stands against the input
  pub IsRefusal-block :
      (bytes block : List ℕ) (draft : DumpValue) (at : ℕ) (refusal : Refusal) → IsReadTo format bytes draft at block → BeginsBlock block →
      block_refusal format (history_in_bytes draft) block ≡ Some refusal → IsRefusal bytes (dump_error_at at (read.Refused refusal))
  IsRefusal-block bytes block draft at refusal to begins told = record {
    refusal = refusal;
    first =
        ap first_refusal to.whole ∙ first_refusal-block format to.front draft to.read block refusal begins told
        ∙ ap (λ (n : ℕ). Some (let found : RefusalAt = record { refusal = refusal; at = n } in found)) (sym to.begins);
    numbered = refl;
  }
