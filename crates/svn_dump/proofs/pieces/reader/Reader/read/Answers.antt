use Rattle.svn_dump.proofs.Common.{arith, err_from_is_err_and}
use Rattle.svn_dump.proofs.Growth.{GrowsTo-twice}
use Rattle.svn_dump.proofs.Readers.{HasReadAll-piece, IsDecidedError-piece, IsReadAs-before, IsReadAs-empty, ReadsPart-piece, at_block, before_block, length-skipped}
use Rattle.svn_dump.proofs.pieces.reader.Reader.read.Goals as goal

pub loop-block-init : goal.loop-block-init
loop-block-init c =
    let ensured = c.in_ok-rest.ensures in record {
      within = rw c.in-Some.is at ensured.within;
      between = rw c.in-Some.is at ensured.progress;
      keeps = ensured.keeps;
      grows = ensured.grows;
      reads = λ bytes has long. rw c.in-Some.is at ensured.ok bytes has;
    }

pub overflow_sub-self : goal.overflow_sub-self
overflow_sub-self c =
    omega (arith, c.requires, c.loop-block.invariant.within, length-skipped c.loop-block.rest.now c.in-Some-skip_empty_lines.block.now c.in-Some-skip_empty_lines.ensures.same)

pub read_block-requires-clause-progress : goal.read_block-requires-clause-progress
read_block-requires-clause-progress c = c.loop-block.invariant.between

pub returns-in_err-after-clause-refused : goal.returns-in_err-after-clause-refused
returns-in_err-after-clause-refused c =
    let (error, errs, same) = err_from_is_err_and c.from_residual-in_err-after.result c.from_residual-in_err-after.ensures.1 in
    let block = c.in-Some-skip_empty_lines.block.now in
    let front = c.in-Some-skip_empty_lines.ensures.same in
    rw (errs, same) (λ bytes has long.
    let (done, whole, read) = c.loop-block.invariant.reads bytes has long in
    IsDecidedError-piece c.loop-block.self.format bytes c.args.piece.now done c.loop-block.rest.now block c.loop-block.self.draft whole read front _
    (c.in_err-after.ensures.refused (before_block c.loop-block.self.format bytes c.args.piece.now done c.loop-block.rest.now block c.loop-block.self.draft whole read front)
    (IsReadAs-before c.loop-block.self.format bytes c.args.piece.now done c.loop-block.rest.now block c.loop-block.self.draft whole read front)
    (at_block c.loop-block.self.format bytes c.args.piece.now done c.loop-block.rest.now block c.loop-block.self.draft whole read front c.args.end long)))

pub returns-in_default-2-clause-ok : goal.returns-in_default-2-clause-ok
returns-in_default-2-clause-ok c = λ bytes has long.
    let block = c.in-Some-skip_empty_lines.block.now in
    let front = c.in-Some-skip_empty_lines.ensures.same in
    let (done, whole, read) = c.loop-block.invariant.reads bytes has long in
    let reads = rw c.in_default-2.is at c.in_ok-after.ensures.ok in
    HasReadAll-piece c.loop-block.self.format bytes c.args.piece.now done c.loop-block.rest.now block c.loop-block.self.draft whole read front c.read_block.new.self
    (reads (before_block c.loop-block.self.format bytes c.args.piece.now done c.loop-block.rest.now block c.loop-block.self.draft whole read front)
    (IsReadAs-before c.loop-block.self.format bytes c.args.piece.now done c.loop-block.rest.now block c.loop-block.self.draft whole read front)
    (at_block c.loop-block.self.format bytes c.args.piece.now done c.loop-block.rest.now block c.loop-block.self.draft whole read front c.args.end long))

pub returns-in_default-2-clause-grows : goal.returns-in_default-2-clause-grows
returns-in_default-2-clause-grows c = GrowsTo-twice c.loop-block.invariant.grows c.in_ok-after.ensures.grows

pub loop-block-smaller : goal.loop-block-smaller
loop-block-smaller c =
    let within = rw c.in-Some-2.is at c.in_ok-after.ensures.within in
    omega (arith, within, length-skipped c.loop-block.rest.now c.in-Some-skip_empty_lines.block.now c.in-Some-skip_empty_lines.ensures.same)

pub loop-block-preserved : goal.loop-block-preserved
loop-block-preserved c =
    let ensured = c.in_ok-after.ensures in
    let block = c.in-Some-skip_empty_lines.block.now in
    let front = c.in-Some-skip_empty_lines.ensures.same in
    let shorter = rw c.in-Some-2.is at ensured.within in
    let reads_all = rw c.in-Some-2.is at ensured.ok in record {
      within = omega (arith, shorter, c.loop-block.invariant.within, length-skipped c.loop-block.rest.now block front);
      between = rw c.in-Some-2.is at ensured.progress;
      keeps = λ before. ensured.keeps (c.loop-block.invariant.keeps before);
      grows = GrowsTo-twice c.loop-block.invariant.grows ensured.grows;
      reads = λ bytes has long.
          let (done, whole, read) = c.loop-block.invariant.reads bytes has long in
          ReadsPart-piece c.loop-block.self.format bytes c.args.piece.now done c.loop-block.rest.now block c.loop-block.self.draft whole read front c.read_block.new.self c.in-Some-2.after
          (reads_all (before_block c.loop-block.self.format bytes c.args.piece.now done c.loop-block.rest.now block c.loop-block.self.draft whole read front)
          (IsReadAs-before c.loop-block.self.format bytes c.args.piece.now done c.loop-block.rest.now block c.loop-block.self.draft whole read front)
          (at_block c.loop-block.self.format bytes c.args.piece.now done c.loop-block.rest.now block c.loop-block.self.draft whole read front c.args.end long));
    }

pub returns-clause-ok : goal.returns-clause-ok
returns-clause-ok c = λ bytes has long.
    let (done, whole, read) = c.loop-block.invariant.reads bytes has long in
    rw c.loop-block.invariant.between (IsReadAs-empty c.loop-block.self.format bytes c.args.piece.now done c.loop-block.rest.now c.loop-block.self.draft whole read c.in_default-skip_empty_lines.ensures.same)
