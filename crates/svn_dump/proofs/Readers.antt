-- The parts of a dump, as their bytes come.
use Rattle.svn_dump.proofs.Common.{◌≡◌, ℕ, ◌-◌, ◌<◌, ◌≤◌, List, [], ◌∷◌, ◌++◌, length, replicate, refl, sym, ap, subst, ◌∙◌, append_assoc, append-nil, length-append, arith, Bor, Option, None, Some, Result, Ok, Err, IfErr, IfOk, block_text, HasFirstLine, IsDecidedError, IsWholeHistory, DumpValue, history_in_bytes, IsFirstAt, IsRefusal, first_line, fields_of, IsEmptyLines, front_refusals, header_lines, line_refusals, without_empty_lines, AddsBlock, BeginsWithLines, IsBlockRefusalFrom, AreHeaderLines, EndsHeader, IsBodyAfter, IsDecidedFront, IsDecidedFrontError, EndsLine, IsDecidedLine, dump_error_at, BeginsBlock, HasReadAll, IsBodyTo, IsIn, IsInBody, IsInHeader, IsInLine, IsReadAs, IsReadTo, ReadsPart, RefusesBlock, RefusesHeader, DumpError, Format, PartialBody, PartialLine, ReadError, Reader, first_holding, Refusal, Truncated}
use Rattle.std.specs.Prelude.{IfSome}
use Rattle.svn_dump.specs.PartialBody.{EndsBody, ExtendsBody, IsPartialBody}
use Rattle.svn_dump.specs.declared.error.DumpError.TheVariants as dump
use Rattle.svn_dump.specs.declared.read_error.ReadError.TheVariants as read
use Rattle.svn_dump.specs.declared.pieces.reader.Progress.TheVariants as progress
use Rattle.svn_dump.proofs.Blocks.{body_length-from_headers, refused-body}
use Rattle.svn_dump.proofs.PartialHeaders.{BeginsWithLines-all}
use Rattle.svn_dump.proofs.Readings.{BeginsBlock-append, HasFirstLine-read, IsDecidedError-block, IsFirstAt-line, IsRefusal-block, IsReadAs-block, IsReadAs-line, IsReadAs-newlines}
use Rattle.svn_dump.proofs.Fronts.{without_empty_lines-front}
use Rattle.svn_dump.proofs.WholeBlocks.{block_refusal-front}

-- ---- what is decided stays

pub HasFirstLine-more : (bytes more : List ℕ) → HasFirstLine bytes → HasFirstLine (bytes ++ more)
HasFirstLine-more bytes more is = record { format = is.format; rest = is.rest ++ more; begins = ap (λ all. all ++ more) is.begins ∙ append_assoc (first_line is.format) is.rest more }

pub IsDecidedError-more : (bytes more : List ℕ) (e : DumpError) → IsDecidedError bytes e → IsDecidedError (bytes ++ more) e
IsDecidedError-more bytes more (dump.Refused number at) decided = λ after. subst (λ all. IsFirstAt all number at) (sym (append_assoc bytes more after)) (decided (more ++ after))
IsDecidedError-more bytes more dump.Memory decided = HasFirstLine-more bytes more decided

module _ (format : Format) where
  pub HasFirstLine-to : (bytes block more : List ℕ) (draft : DumpValue) (at : ℕ) → IsReadTo format bytes draft at block → HasFirstLine (bytes ++ more)
  HasFirstLine-to bytes block more draft at to =
      subst HasFirstLine (sym (ap (λ all. all ++ more) to.whole ∙ append_assoc to.front block more)) (HasFirstLine-read format to.front draft to.read (block ++ more))

  -- more of a block comes
  pub IsReadTo-more : (bytes block more : List ℕ) (draft : DumpValue) (at : ℕ) → IsReadTo format bytes draft at block → IsReadTo format (bytes ++ more) draft at (block ++ more)
  IsReadTo-more bytes block more draft at to = record {
    front = to.front;
    whole = ap (λ all. all ++ more) to.whole ∙ append_assoc to.front block more;
    read = to.read;
    begins = to.begins;
  }

  -- a block is added
  pub IsReadAs-adds :
      (front block rest : List ℕ) (old new : DumpValue) → IsReadAs format front old → AddsBlock format block rest (history_in_bytes old) (history_in_bytes new) → (IsWholeHistory old → IsWholeHistory new) →
      (last : List ℕ) × (block ≡ last ++ rest) × IsReadAs format (front ++ last) new
  IsReadAs-adds front block rest old new is adds keeps = (
    block_text adds.block,
    adds.whole,
    IsReadAs-block format front old is adds.block new adds.is_block adds.adds (keeps is.whole),
  )

-- ---- the body of a block

module _ (reader : Reader) (header : List ℕ) (old new : PartialBody) (bytes piece : List ℕ) (is : IsInBody reader header old bytes) where
  block_more : (more : List ℕ) → (header ++ 10 ∷ is.come) ++ more ≡ header ++ 10 ∷ (is.come ++ more)
  block_more more = append_assoc header (10 ∷ is.come) more

  come_to : (more : List ℕ) → ((section whole : ℕ) → IsPartialBody old section whole is.come → IsPartialBody new section whole (is.come ++ more)) → IsBodyTo header new (is.come ++ more)
  come_to more goes_on = record {
    lines = is.so_far.lines;
    section = is.so_far.section;
    whole = is.so_far.whole;
    long = is.so_far.long;
    kept = is.so_far.kept;
    so_far = goes_on is.so_far.section is.so_far.whole is.so_far.so_far;
  }

  -- goes on
  pub IsInBody-extends : (next : Reader) → next.draft ≡ reader.draft → next.at ≡ reader.at → next.format ≡ reader.format → ExtendsBody old new piece → IsInBody next header new (bytes ++ piece) × (0 < new.left)
  IsInBody-extends next draft at format extends =
      let so_far = come_to piece (λ section whole from. extends.extends section whole is.come from) in
      let to = IsReadTo-more reader.format bytes (header ++ 10 ∷ is.come) piece reader.draft reader.at is.read in (
        record {
          come = is.come ++ piece;
          read = rw (draft, at, format, ← block_more piece) to;
          some = is.some;
          so_far = so_far;
        },
        omega (arith, extends.short, is.so_far.so_far.left, (extends.extends is.so_far.section is.so_far.whole is.come is.so_far.so_far).left, length-append is.come piece),
      )

  module _ (rest : List ℕ) (ends : EndsBody old new piece rest) where
    abbrev pub come_all : List ℕ
    come_all = is.come ++ ends.last

    pub IsReadTo-ends : IsReadTo reader.format (bytes ++ ends.last) reader.draft reader.at (header ++ 10 ∷ come_all)
    IsReadTo-ends = rw (← block_more ends.last) (IsReadTo-more reader.format bytes (header ++ 10 ∷ is.come) ends.last reader.draft reader.at is.read)

    pub IsBodyTo-ends : IsBodyTo header new come_all
    IsBodyTo-ends = come_to ends.last (λ section whole from. ends.ends section whole is.come from)

    -- ends, and the block is refused
    pub IsDecidedError-ends : (at : ℕ) (e : ReadError) → at ≡ reader.at → IsBlockRefusalFrom reader.format (history_in_bytes reader.draft) (header ++ 10 ∷ come_all) e → IsDecidedError (bytes ++ piece) (dump_error_at at e)
    IsDecidedError-ends at e same refused =
        let decided = IsDecidedError-block reader.format (bytes ++ ends.last) (header ++ 10 ∷ come_all) reader.draft reader.at e IsReadTo-ends (BeginsBlock-append header (10 ∷ come_all) is.some) refused in
        rw (same, ends.whole, ← append_assoc bytes ends.last rest) (IsDecidedError-more (bytes ++ ends.last) rest (dump_error_at reader.at e) decided)

    -- or added
    pub IsReadAs-ends :
        (draft : DumpValue) → AddsBlock reader.format (header ++ 10 ∷ come_all) [] (history_in_bytes reader.draft) (history_in_bytes draft) → (IsWholeHistory reader.draft → IsWholeHistory draft) →
        IsReadAs reader.format (bytes ++ ends.last) draft
    IsReadAs-ends draft adds keeps =
        let to = IsReadTo-ends in
        let (last, whole, read) = IsReadAs-adds reader.format to.front (header ++ 10 ∷ come_all) [] reader.draft draft to.read adds keeps in
        subst (λ all. IsReadAs reader.format all draft) (sym (to.whole ∙ ap (λ all. to.front ++ all) (whole ∙ append-nil last))) read

-- ---- the header of a block

-- what its bytes decide
pub IsDecidedError-header :
    (format : Format) (bytes header piece : List ℕ) (draft : DumpValue) (at : ℕ) (e : ReadError) → IsReadTo format bytes draft at header → BeginsBlock (header ++ piece) →
    IsDecidedFrontError (header ++ piece) e → IsDecidedError (bytes ++ piece) (dump_error_at at e)
IsDecidedError-header format bytes header piece draft at (read.Refused refusal) to begins decided =
    IsDecidedError-block format (bytes ++ piece) (header ++ piece) draft at (read.Refused refusal) (IsReadTo-more format bytes header piece draft at to) begins
    (λ more. block_refusal-front format (history_in_bytes draft) ((header ++ piece) ++ more) refusal (decided more))
IsDecidedError-header format bytes header piece draft at read.Memory to begins decided = HasFirstLine-to format bytes header piece draft at to

begins_lines : (header rest : List ℕ) (lines : AreHeaderLines header) → BeginsBlock (header ++ 10 ∷ rest) → BeginsBlock header
begins_lines [] rest lines begins = absurd (cc)
begins_lines (byte ∷ header) rest lines begins = record { some = refl; not_empty_line = begins.not_empty_line }

module _ (reader : Reader) (bytes old piece new rest : List ℕ) (to : IsReadTo reader.format bytes reader.draft reader.at old) (begins : BeginsBlock (old ++ piece)) (ends : EndsHeader old piece new rest) where
  -- it ends, and its body begins
  abbrev pub front_bytes : List ℕ
  front_bytes = bytes ++ (ends.last ++ 10 ∷ [])

  all_bytes : bytes ++ piece ≡ front_bytes ++ rest
  all_bytes =
      ap (λ all. bytes ++ all) (ends.whole ∙ sym (append_assoc ends.last (10 ∷ []) rest)) ∙ sym (append_assoc bytes (ends.last ++ 10 ∷ []) rest)

  header_bytes : old ++ (ends.last ++ 10 ∷ []) ≡ new ++ 10 ∷ []
  header_bytes = sym (append_assoc old ends.last (10 ∷ [])) ∙ ap (λ all. all ++ 10 ∷ []) (sym ends.kept)

  pub IsReadTo-header : IsReadTo reader.format front_bytes reader.draft reader.at (new ++ 10 ∷ [])
  IsReadTo-header = rw (← header_bytes) (IsReadTo-more reader.format bytes old (ends.last ++ 10 ∷ []) reader.draft reader.at to)

  BeginsBlock-header : BeginsBlock new
  BeginsBlock-header =
      begins_lines new rest ends.lines
      (subst BeginsBlock (ap (λ all. old ++ all) ends.whole ∙ sym (append_assoc old ends.last (10 ∷ rest)) ∙ ap (λ all. all ++ 10 ∷ rest) (sym ends.kept)) begins)

  pub IsInBody-begins : (body : PartialBody) → IsBodyAfter new body → IsInBody reader new body front_bytes
  IsInBody-begins body after = record {
    come = [];
    read = IsReadTo-header;
    some = BeginsBlock-header;
    so_far = record {
      lines = ends.lines;
      section = after.section;
      whole = after.whole;
      long = after.long;
      kept = after.kept;
      so_far = after.empty;
    };
  }

  -- what the header decides
  pub IsDecidedError-lengths : (at : ℕ) (refusal : Refusal) → at ≡ reader.at → IsDecidedFront (new ++ 10 ∷ []) refusal → IsDecidedError (bytes ++ piece) (dump_error_at at (read.Refused refusal))
  IsDecidedError-lengths at refusal same decided =
      let told = IsDecidedError-block reader.format front_bytes (new ++ 10 ∷ []) reader.draft reader.at (read.Refused refusal) IsReadTo-header (BeginsBlock-append new (10 ∷ []) BeginsBlock-header)
      (λ more. block_refusal-front reader.format (history_in_bytes reader.draft) ((new ++ 10 ∷ []) ++ more) refusal (decided more)) in
      rw (same, all_bytes) (IsDecidedError-more front_bytes rest (dump_error_at reader.at (read.Refused refusal)) told)

  -- what the rest decides
  pub IsDecidedError-rest : (e : DumpError) → IsDecidedError (front_bytes ++ rest) e → IsDecidedError (bytes ++ piece) e
  IsDecidedError-rest e decided = rw all_bytes decided

  -- and what is read of it
  pub ReadsPart-rest : (next : Reader) (left : Option (Bor (List ℕ))) → ReadsPart next front_bytes rest left → ReadsPart next bytes piece left
  ReadsPart-rest next None reads = rw all_bytes reads
  ReadsPart-rest next (Some after) reads =
      let (last, whole, read) = reads in (
        (ends.last ++ 10 ∷ []) ++ last,
        ends.whole ∙ sym (append_assoc ends.last (10 ∷ []) rest) ∙ ap (λ all. (ends.last ++ 10 ∷ []) ++ all) whole ∙ sym (append_assoc (ends.last ++ 10 ∷ []) last after.now),
        subst (λ all. IsReadAs next.format all next.draft) (append_assoc bytes (ends.last ++ 10 ∷ []) last) read,
      )

-- what reading the body gave, of the piece that ends its header
module _ (reader : Reader) (old piece new rest : List ℕ) (ends : EndsHeader old piece new rest) (body : PartialBody) (after : IsBodyAfter new body) (next : Reader) where
  pub IfOk-rest :
      (result : Result (Option (Bor (List ℕ))) ReadError) → IfOk result (λ left. (bytes : List ℕ) → IsInBody reader new body bytes → ReadsPart next bytes rest left) →
      IfOk result (λ left. (bytes : List ℕ) → IsReadTo reader.format bytes reader.draft reader.at old → BeginsBlock (old ++ piece) → ReadsPart next bytes piece left)
  IfOk-rest (Ok left) reads = λ bytes to begins.
      ReadsPart-rest reader bytes old piece new rest to begins ends next left
      (reads (bytes ++ (ends.last ++ 10 ∷ [])) (IsInBody-begins reader bytes old piece new rest to begins ends body after))
  IfOk-rest (Err e) reads = tt

  pub IfErr-rest :
      (result : Result (Option (Bor (List ℕ))) ReadError) → IfErr result (λ e. (bytes : List ℕ) → IsInBody reader new body bytes → IsDecidedError (bytes ++ rest) (dump_error_at next.at e)) →
      IfErr result (λ e. (bytes : List ℕ) → IsReadTo reader.format bytes reader.draft reader.at old → BeginsBlock (old ++ piece) → IsDecidedError (bytes ++ piece) (dump_error_at next.at e))
  IfErr-rest (Ok left) refused = tt
  IfErr-rest (Err e) refused = λ bytes to begins.
      IsDecidedError-rest reader bytes old piece new rest to begins ends (dump_error_at next.at e)
      (refused (bytes ++ (ends.last ++ 10 ∷ [])) (IsInBody-begins reader bytes old piece new rest to begins ends body after))

-- and the rest is shorter
pub within-rest :
    (old piece new rest : List ℕ) → EndsHeader old piece new rest → (result : Result (Option (Bor (List ℕ))) ReadError) →
    IfOk result (λ left. IfSome left (λ after. length after.now ≤ length rest)) → IfOk result (λ left. IfSome left (λ after. length after.now < length piece))
within-rest old piece new rest ends (Ok None) within = tt
within-rest old piece new rest ends (Ok (Some after)) within = omega (arith, within, ap length ends.whole, length-append ends.last (10 ∷ rest))
within-rest old piece new rest ends (Err e) within = tt

-- ---- the first line

-- it ends, and nothing has been read
pub ReadsPart-line :
    (reader : Reader) (line : PartialLine) (bytes piece : List ℕ) (format : Format) (rest : List ℕ) → IsInLine reader line bytes → (ends : EndsLine bytes piece format rest) →
    IsReadAs format (bytes ++ ends.last) reader.draft
ReadsPart-line reader line bytes piece format rest is ends = rw (is.draft, ends.line) (IsReadAs-line format)

-- or is refused
pub IsDecidedError-line : (bytes : List ℕ) (refusal : Refusal) → IsDecidedLine bytes refusal → IsDecidedError bytes (dump_error_at 0 (read.Refused refusal))
IsDecidedError-line bytes refusal decided = λ more. IsFirstAt-line (bytes ++ more) refusal (decided more)

-- ---- a whole block

module _ (format : Format) (bytes block : List ℕ) (draft : DumpValue) (at : ℕ) (is : IsReadAs format bytes draft) (here : at ≡ length bytes) where
  pub IsReadTo-here : IsReadTo format (bytes ++ block) draft at block
  IsReadTo-here = record { front = bytes; whole = refl; read = is; begins = here }

  pub IsReadTo-none : IsReadTo format bytes draft at []
  IsReadTo-none = record { front = bytes; whole = sym (append-nil bytes); read = is; begins = here }

  -- what stands against it stands against the bytes
  pub IsDecidedError-here : (e : ReadError) → BeginsBlock block → IsBlockRefusalFrom format (history_in_bytes draft) block e → IsDecidedError (bytes ++ block) (dump_error_at at e)
  IsDecidedError-here e begins refused = IsDecidedError-block format (bytes ++ block) block draft at e IsReadTo-here begins refused

-- what a header decides of which nothing has come, the block decides
pub IfErr-new :
    {X : Type 0} (reader next : Reader) (header block : List ℕ) (result : Result X ReadError) → header ≡ [] → BeginsBlock block →
    IfErr result (RefusesHeader reader header next block) → IfErr result (RefusesBlock reader next block)
IfErr-new reader next header block (Ok left) none begins refused = tt
IfErr-new reader next header block (Err e) none begins refused = λ bytes is here.
    refused bytes (subst (IsReadTo reader.format bytes reader.draft reader.at) (sym none) (IsReadTo-none reader.format bytes [] reader.draft reader.at is here))
    (subst (λ all. BeginsBlock (all ++ block)) (sym none) begins)

-- ---- the part in progress

-- a body is in progress, whatever part is named beside it
IsInBody-same :
    (reader next : Reader) (header : List ℕ) (body : PartialBody) (bytes : List ℕ) → next.draft ≡ reader.draft → next.at ≡ reader.at → next.format ≡ reader.format → IsInBody reader header body bytes → IsInBody next header body bytes
IsInBody-same reader next header body bytes draft at format is = record {
  come = is.come;
  read = rw (draft, at, format) is.read;
  some = is.some;
  so_far = is.so_far;
}

pub IfErr-body :
    {X : Type 0} (reader next : Reader) (header : List ℕ) (body : PartialBody) (piece : List ℕ) (at : ℕ) (result : Result X ReadError) → progress.Body header body ≡ reader.progress → next.draft ≡ reader.draft → next.at ≡ reader.at → next.format ≡ reader.format →
    IfErr result (λ e. (bytes : List ℕ) → IsInBody next header body bytes → IsDecidedError (bytes ++ piece) (dump_error_at at e)) →
    IfErr result (λ e. (bytes : List ℕ) → HasReadAll reader bytes → IsDecidedError (bytes ++ piece) (dump_error_at at e))
IfErr-body reader next header body piece at (Ok left) is draft same format refused = tt
IfErr-body reader next header body piece at (Err e) is draft same format refused = λ bytes has.
    let in_body = subst (λ each. IsIn each reader bytes) (sym is) has in
    refused bytes (IsInBody-same reader next header body bytes draft same format in_body.0)

-- ---- a piece

-- a block is no longer than what it is the front of
pub length-skipped : (rest block : List ℕ) → block ≡ without_empty_lines rest → length block ≤ length rest
length-skipped rest block front =
    let skipped = without_empty_lines-front rest in
    omega (arith, ap length skipped.1, length-append (replicate skipped.0 10) (without_empty_lines rest), ap length front)

module _ (format : Format) (bytes piece done rest block : List ℕ) (draft : DumpValue) (whole : piece ≡ done ++ rest) (read : IsReadAs format (bytes ++ done) draft) (front : block ≡ without_empty_lines rest) where
  abbrev pub skipped : List ℕ
  skipped = replicate (without_empty_lines-front rest).0 10

  rest_is : rest ≡ skipped ++ block
  rest_is = (without_empty_lines-front rest).1 ∙ ap (λ all. skipped ++ all) (sym front)

  abbrev pub before_block : List ℕ
  before_block = (bytes ++ done) ++ skipped

  pub IsReadAs-before : IsReadAs format before_block draft
  IsReadAs-before = IsReadAs-newlines format (bytes ++ done) draft read (without_empty_lines-front rest).0

  pub up_to_block : before_block ++ block ≡ bytes ++ piece
  up_to_block =
      append_assoc (bytes ++ done) skipped block ∙ ap (λ all. (bytes ++ done) ++ all) (sym rest_is) ∙ append_assoc bytes done rest ∙ ap (λ all. bytes ++ all) (sym whole)

  -- the block begins there
  pub at_block : (end : ℕ) → end ≡ length (bytes ++ piece) → end - length block ≡ length before_block
  at_block end long = omega (arith, long, ap length up_to_block, length-append before_block block)

  -- what is decided by the block is decided by the piece
  pub IsDecidedError-piece : (e : DumpError) → IsDecidedError (before_block ++ block) e → IsDecidedError (bytes ++ piece) e
  IsDecidedError-piece e decided = rw (← up_to_block) decided

  -- a part of the block is read of the piece
  pub HasReadAll-piece : (next : Reader) → HasReadAll next (before_block ++ block) → HasReadAll next (bytes ++ piece)
  HasReadAll-piece next has = rw (← up_to_block) has

  -- the block is read, and what follows it is left
  pub ReadsPart-piece :
      (next : Reader) (after : Bor (List ℕ)) → ReadsPart next before_block block (Some after) → (taken : List ℕ) × (piece ≡ taken ++ after.now) × IsReadAs next.format (bytes ++ taken) next.draft
  ReadsPart-piece next after reads =
      let (last, ends, told) = reads in (
        done ++ (skipped ++ last),
        whole ∙ ap (λ all. done ++ all) (rest_is ∙ ap (λ all. skipped ++ all) ends ∙ sym (append_assoc skipped last after.now))
            ∙ sym (append_assoc done (skipped ++ last) after.now),
        subst (λ all. IsReadAs next.format all next.draft) (append_assoc (bytes ++ done) skipped last ∙ append_assoc bytes done (skipped ++ last)) told,
      )

-- nothing but empty lines is left
pub IsReadAs-empty : (format : Format) (bytes piece done rest : List ℕ) (draft : DumpValue) → piece ≡ done ++ rest → IsReadAs format (bytes ++ done) draft → IsEmptyLines rest → IsReadAs format (bytes ++ piece) draft
IsReadAs-empty format bytes piece done rest draft whole read empty =
    let all_read = IsReadAs-before format bytes piece done rest [] draft whole read (sym empty) in
    subst (λ all. IsReadAs format all draft)
    (sym (append-nil (before_block format bytes piece done rest [] draft whole read (sym empty))) ∙ up_to_block format bytes piece done rest [] draft whole read (sym empty)) all_read

-- ---- the end of the bytes

-- the bytes end in the first line
pub IsRefusal-line : (bytes : List ℕ) (refusal : Refusal) → first_holding (line_refusals bytes) ≡ Some refusal → IsRefusal bytes (dump_error_at 0 (read.Refused refusal))
IsRefusal-line bytes refusal told = IsFirstAt-line bytes refusal told

-- in a header
pub IsRefusal-header : (reader : Reader) (header bytes : List ℕ) (refusal : Refusal) → IsInHeader reader header bytes → first_holding (front_refusals header) ≡ Some refusal → IsRefusal bytes (dump_error_at reader.at (read.Refused refusal))
IsRefusal-header reader header bytes refusal is told =
    IsRefusal-block reader.format bytes header reader.draft reader.at refusal is.read is.some (block_refusal-front reader.format (history_in_bytes reader.draft) header refusal told)

-- or in a body
refused_body : (header : List ℕ) (body : PartialBody) (come : List ℕ) → IsBodyTo header body come → 0 < body.left → first_holding (front_refusals (header ++ 10 ∷ come)) ≡ Some Truncated
refused_body header body come is left =
    let found : BeginsWithLines (header ++ 10 ∷ come) (fields_of (header_lines header)) (10 ∷ come) = BeginsWithLines-all header is.lines come in
    refused-body (header ++ 10 ∷ come) (fields_of (header_lines header)) come is.whole found (sym (body_length-from_headers (header_lines header)) ∙ is.long) (omega (arith, left, is.so_far.left))

pub IsRefusal-body : (reader : Reader) (header : List ℕ) (body : PartialBody) (bytes : List ℕ) → IsInBody reader header body bytes × (0 < body.left) → IsRefusal bytes (dump_error_at reader.at (read.Refused Truncated))
IsRefusal-body reader header body bytes is =
    let whole = header ++ 10 ∷ is.0.come in
    IsRefusal-block reader.format bytes whole reader.draft reader.at Truncated is.0.read (BeginsBlock-append header (10 ∷ is.0.come) is.0.some)
    (block_refusal-front reader.format (history_in_bytes reader.draft) whole Truncated (refused_body header body is.0.come is.0.so_far is.1))
