-- Whole blocks: what they add to a history, and what stands against them after it.
use Rattle.svn_dump.proofs.Common.{◌≡◌, ℕ, true, false, ◌&&◌, List, [], ◌∷◌, ◌++◌, length, take, inl, inr, refl, sym, ap, subst, ◌∙◌, append_assoc, append-nil, arith, Option, Some, None, flat_map, is_none, is_some, option_map, option_or, both_ways, cases_Bool, length-take-le, is_not_empty, line_text, Block, IsBlock, block_text, body_length, fields_of, block_at, block_refusal, front_refusals, header_lines, AddsBlock, BeginsWithBlock, IsBlockRefusalFrom, node_from_headers, content_from_headers, Node, content_by_fields, IsFirstReason, AreHeaderLines, IsDecidedFront, is_node, BeginsBlock, IsBodyTo, HistoryOfBytes, node_of_block, content_of, with_content, first_holding, content_refusals, Format, PartialBody, ReadError, Refusal}
use Rattle.svn_dump.specs.declared.read_error.ReadError.TheVariants as read
use Rattle.svn_dump.proofs.Fronts.{front-block}
use Rattle.svn_dump.proofs.PartialHeaders.{header_lines-all}
use Rattle.svn_dump.proofs.Refusals.{first_holding-append, first_holding-front}
use Rattle.svn_dump.proofs.Contents.{content_from_headers-block}

-- a block whose body is all that comes after its header
module _ (header come : List ℕ) (lines : AreHeaderLines header) (long : body_length (header_lines header) ≡ Some (length come)) (begins : BeginsBlock header) where
  abbrev pub whole_block : Block
  whole_block = record { lines = header_lines header; body = come }

  lines_are : header_lines header ≡ lines.lines
  lines_are = header_lines-all header lines

  some_line : (all : List (List ℕ)) → header ≡ flat_map line_text all → length all ≡ 0 → ⊥
  some_line [] whole empty = both_ways _ (ap is_not_empty whole) begins.some
  some_line (line ∷ all) whole empty = absurd (omega arith)

  pub IsBlock-whole : IsBlock whole_block
  IsBlock-whole = record {
    some_line = λ empty. some_line lines.lines lines.whole (ap length (sym lines_are) ∙ empty);
    headers = rw lines_are lines.all;
    once = rw lines_are lines.once;
    whole = long;
  }

  pub whole_text : header ++ 10 ∷ come ≡ block_text whole_block ++ []
  whole_text =
      ap (λ all. all ++ 10 ∷ come) (lines.whole ∙ ap (flat_map line_text) (sym lines_are)) ∙ sym (append-nil (block_text whole_block))

module _ (format : Format) where
  -- ---- against a block

  -- its form
  pub block_refusal-front : (history : HistoryOfBytes) (bytes : List ℕ) (refusal : Refusal) → first_holding (front_refusals bytes) ≡ Some refusal → block_refusal format history bytes ≡ Some refusal
  unfolding block_refusal
  block_refusal-front history bytes refusal first = first_holding-front (front_refusals bytes) (content_refusals history (content_of format (block_at bytes))) refusal first

  pub IsBlockRefusalFrom-front : (history : HistoryOfBytes) (bytes : List ℕ) (refusal : Refusal) → IsDecidedFront bytes refusal → IsBlockRefusalFrom format history bytes (read.Refused refusal)
  IsBlockRefusalFrom-front history bytes refusal decided = λ more. block_refusal-front history (bytes ++ more) refusal (decided more)

  -- or what it says
  pub block_refusal-block :
      (history : HistoryOfBytes) (bytes rest : List ℕ) (block : Block) (refusal : Refusal) → IsBlock block → bytes ≡ block_text block ++ rest →
      first_holding (content_refusals history (content_of format block)) ≡ Some refusal → block_refusal format history bytes ≡ Some refusal
  unfolding block_refusal
  block_refusal-block history bytes rest block refusal is whole told =
      let front = front-block bytes rest block is whole in
      first_holding-append (front_refusals bytes) (content_refusals history (content_of format (block_at bytes)))
      ∙ ap (λ first. option_or first (first_holding (content_refusals history (content_of format (block_at bytes))))) front.0
      ∙ ap (λ each. first_holding (content_refusals history (content_of format each))) front.1 ∙ told

  -- the first reason against what is found of a block is that against the block, whatever follows
  pub IsBlockRefusalFrom-block :
      (history : HistoryOfBytes) (bytes rest : List ℕ) (block : Block) (e : ReadError) → IsBlock block → bytes ≡ block_text block ++ rest →
      IsFirstReason (content_refusals history (content_of format block)) e → IsBlockRefusalFrom format history bytes e
  IsBlockRefusalFrom-block history bytes rest block (read.Refused refusal) is whole told = λ more.
      block_refusal-block history (bytes ++ more) (rest ++ more) block refusal is (ap (λ all. all ++ more) whole ∙ append_assoc (block_text block) rest more) told
  IsBlockRefusalFrom-block history bytes rest block read.Memory is whole told = tt

  -- ---- a block that is found at the front of the bytes

  module _ (bytes rest : List ℕ) (values : List (Option (List ℕ))) (properties : List ℕ) (found : BeginsWithBlock bytes values properties rest) where
    pub AddsBlock-found : (old new : HistoryOfBytes) → with_content old (content_from_headers format values properties) ≡ Some new → AddsBlock format bytes rest old new
    AddsBlock-found old new told = record {
      block = found.block;
      is_block = found.is_block;
      whole = found.whole;
      adds = ap (with_content old) (sym (content_from_headers-block format bytes rest values properties found)) ∙ told;
    }

    pub IsBlockRefusalFrom-found : (history : HistoryOfBytes) (e : ReadError) → IsFirstReason (content_refusals history (content_from_headers format values properties)) e → IsBlockRefusalFrom format history bytes e
    IsBlockRefusalFrom-found history e told =
        IsBlockRefusalFrom-block history bytes rest found.block e found.is_block found.whole
        (subst (λ content. IsFirstReason (content_refusals history content) e) (content_from_headers-block format bytes rest values properties found) told)

  -- ---- a block that came in pieces

  -- a block that is no node says the same whatever its section
  content-other : (number path uuid : Option (List ℕ)) (f g : List ℕ → Node) → (is_none number && is_some path) ≡ false → content_by_fields number (option_map f path) uuid ≡ content_by_fields number (option_map g path) uuid
  content-other (Some number) path uuid f g other = refl
  content-other None None uuid f g other = refl
  content-other None (Some path) uuid f g other = absurd (both_ways _ other refl)

  content_of-other : (block : Block) (properties : List ℕ) → is_node block.lines ≡ false → content_from_headers format (fields_of block.lines) properties ≡ content_of format block
  unfolding content_from_headers content_of
  content_of-other block properties other =
      content-other _ _ _ (node_from_headers format (fields_of block.lines) properties) (node_of_block format block) other

  module _ (header : List ℕ) (body : PartialBody) (come : List ℕ) (is : IsBodyTo header body come) (none : body.left ≡ 0) (begins : BeginsBlock header) where
    all_came : is.whole ≡ length come
    all_came = omega (arith, is.so_far.left, none)

    body_is : body_length (header_lines header) ≡ Some (length come)
    body_is = is.long ∙ ap (λ n. Some n) all_came

    abbrev block_of : Block
    block_of = whole_block header come is.lines body_is begins

    abbrev is_block : IsBlock block_of
    is_block = IsBlock-whole header come is.lines body_is begins

    text_is : header ++ 10 ∷ come ≡ block_text block_of ++ []
    text_is = whole_text header come is.lines body_is begins

    content_of-node : is_node (header_lines header) ≡ true → content_from_headers format (fields_of (header_lines header)) body.section.items ≡ content_of format block_of
    content_of-node node =
        let section : length body.section.items ≡ is.section = ap length is.so_far.kept ∙ length-take-le is.section come (omega (arith, is.so_far.within, all_came)) in
        let found : BeginsWithBlock (header ++ 10 ∷ come) (fields_of (header_lines header)) body.section.items [] =
        record {
          block = block_of;
          is_block = is_block;
          fields = refl;
          section = is.kept node ∙ ap (λ n. Some n) (sym section);
          front = is.so_far.kept ∙ ap (λ n. take n come) (sym section);
          whole = text_is;
        } in
        content_from_headers-block format (header ++ 10 ∷ come) [] (fields_of (header_lines header)) body.section.items found

    content_of-whole : content_from_headers format (fields_of (header_lines header)) body.section.items ≡ content_of format block_of
    content_of-whole = elim (cases_Bool (is_node (header_lines header))) [
      | inl node ↦ content_of-node node
      | inr other ↦ content_of-other block_of body.section.items other
    ]

    pub AddsBlock-whole : (old new : HistoryOfBytes) → with_content old (content_from_headers format (fields_of (header_lines header)) body.section.items) ≡ Some new → AddsBlock format (header ++ 10 ∷ come) [] old new
    AddsBlock-whole old new told = record {
      block = block_of;
      is_block = is_block;
      whole = text_is;
      adds = ap (with_content old) (sym content_of-whole) ∙ told;
    }

    pub IsBlockRefusalFrom-whole : (history : HistoryOfBytes) (e : ReadError) → IsFirstReason (content_refusals history (content_from_headers format (fields_of (header_lines header)) body.section.items)) e → IsBlockRefusalFrom format history (header ++ 10 ∷ come) e
    IsBlockRefusalFrom-whole history e told =
        IsBlockRefusalFrom-block history (header ++ 10 ∷ come) [] block_of e is_block text_is
        (subst (λ content. IsFirstReason (content_refusals history content) e) content_of-whole told)
