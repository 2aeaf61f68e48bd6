use Rattle.svn_dump.proofs.Common.{refl, subst, sym, ◌++◌, err_from_is_err_and, IsReadAs}
use Rattle.svn_dump.proofs.Readers.{HasFirstLine-to, IsBodyTo-ends, IsDecidedError-ends, IsInBody-extends, IsReadAs-ends}
use Rattle.svn_dump.proofs.Growth.{GrowsTo_same}
use Rattle.svn_dump.proofs.pieces.reader.Reader.read_body.Goals as goal

pub returns-in_err-extend-clause-refused : goal.returns-in_err-extend-clause-refused
returns-in_err-extend-clause-refused c =
    let (error, errs, same) = err_from_is_err_and c.from_residual.result c.from_residual.ensures.1 in
    rw (errs, same) (λ bytes is. HasFirstLine-to c.args.self.now.format bytes _ c.args.piece.now c.args.self.now.draft c.args.self.now.at is.read)

pub returns-in-None-clause-ok : goal.returns-in-None-clause-ok
returns-in-None-clause-ok c = λ bytes is.
    IsInBody-extends c.args.self.now c.args.header c.args.body c.extend.new.self bytes c.args.piece.now is _ refl refl refl (rw c.in-None.is at c.in_ok-extend.ensures)

pub returns-in_err-add_block-in-Some-clause-refused : goal.returns-in_err-add_block-in-Some-clause-refused
returns-in_err-add_block-in-Some-clause-refused c =
    let (error, errs, same) = err_from_is_err_and c.from_residual-in_err-add_block-in-Some.result c.from_residual-in_err-add_block-in-Some.ensures.1 in
    let ends = rw c.in-Some.is at c.in_ok-extend.ensures in
    rw (errs, same) (λ bytes is.
    let so_far = IsBodyTo-ends c.args.self.now c.args.header c.args.body c.extend.new.self bytes c.args.piece.now is c.in-Some.rest.now ends in
    IsDecidedError-ends c.args.self.now c.args.header c.args.body c.extend.new.self bytes c.args.piece.now is c.in-Some.rest.now ends
    c.add_block.new.self.at c.in_err-add_block-in-Some.field-0.0 c.in_err-add_block-in-Some.ensures.at
    (c.in_err-add_block-in-Some.ensures.refused (is.come ++ ends.last) so_far ends.none is.some is.read.read.whole))

pub returns-clause-ok : goal.returns-clause-ok
returns-clause-ok c =
    let ends = rw c.in-Some.is at c.in_ok-extend.ensures in
    λ bytes is.
    let so_far = IsBodyTo-ends c.args.self.now c.args.header c.args.body c.extend.new.self bytes c.args.piece.now is c.in-Some.rest.now ends in (
      ends.last,
      ends.whole,
      subst (λ format. IsReadAs format (bytes ++ ends.last) c.add_block.new.self.draft) (sym c.in_ok-add_block-in-Some.ensures.format)
          (IsReadAs-ends c.args.self.now c.args.header c.args.body c.extend.new.self bytes c.args.piece.now is c.in-Some.rest.now ends c.add_block.new.self.draft
          (c.in_ok-add_block-in-Some.ensures.added (is.come ++ ends.last) so_far ends.none is.some) c.in_ok-add_block-in-Some.ensures.keeps),
    )

pub returns-in-None-clause-grows : goal.returns-in-None-clause-grows
returns-in-None-clause-grows c = GrowsTo_same c.args.self.now.draft
