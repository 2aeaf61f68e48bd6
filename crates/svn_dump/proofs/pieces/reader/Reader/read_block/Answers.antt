use Rattle.svn_dump.proofs.Common.{subst, err_from_is_err_and, history_in_bytes, AddsContent, content_from_headers, IsFirstReason, content_refusals}
use Rattle.svn_dump.specs.declared.read_error.ReadError.TheVariants as read
use Rattle.svn_dump.proofs.Readers.{IfErr-new, IsDecidedError-here, IsReadAs-adds}
use Rattle.svn_dump.proofs.WholeBlocks.{AddsBlock-found, IsBlockRefusalFrom-found, IsBlockRefusalFrom-front}
use Rattle.svn_dump.proofs.pieces.reader.Reader.read_block.Goals as goal

pub returns-in_err-first_block-clause-refused : goal.returns-in_err-first_block-clause-refused
returns-in_err-first_block-clause-refused c =
    let (error, errs, same) = err_from_is_err_and c.from_residual.result c.from_residual.ensures.1 in
    rw (errs, same) (λ bytes is here.
    IsDecidedError-here c.args.self.now.format bytes c.args.block.now c.args.self.now.draft _ is here (read.Refused c.in_err-first_block.field-0.0) c.requires.begins
    (IsBlockRefusalFrom-front c.args.self.now.format (history_in_bytes c.args.self.now.draft) c.args.block.now c.in_err-first_block.field-0.0 c.in_err-first_block.ensures.refused))

pub returns-in_err-add-in-Some-clause-refused : goal.returns-in_err-add-in-Some-clause-refused
returns-in_err-add-in-Some-clause-refused c =
    let (error, errs, same) = err_from_is_err_and c.from_residual-in_err-add-in-Some.result c.from_residual-in_err-add-in-Some.ensures.1 in
    let found = rw c.in-Some.is at c.in_ok-first_block.ensures.found in
    let format = rw c.in-Some.is at c.in_ok-first_block.ensures.format in
    rw (errs, same) (λ bytes is here.
    IsDecidedError-here c.args.self.now.format bytes c.args.block.now c.args.self.now.draft _ is here c.in_err-add-in-Some.field-0.0 c.requires.begins
    (IsBlockRefusalFrom-found c.args.self.now.format c.args.block.now c.in-Some.rest.now c.in-Some.found.headers c.in-Some.found.properties.now found (history_in_bytes c.args.self.now.draft) c.in_err-add-in-Some.field-0.0
    (subst (λ each. IsFirstReason (content_refusals (history_in_bytes c.args.self.now.draft) (content_from_headers each c.in-Some.found.headers c.in-Some.found.properties.now)) c.in_err-add-in-Some.field-0.0) format
    (c.in_err-add-in-Some.ensures.refused is.whole))))

pub returns-in_ok-add-in-Some-clause-ok : goal.returns-in_ok-add-in-Some-clause-ok
returns-in_ok-add-in-Some-clause-ok c = λ bytes is here.
    let found = rw c.in-Some.is at c.in_ok-first_block.ensures.found in
    let format = rw c.in-Some.is at c.in_ok-first_block.ensures.format in
    let adds = AddsBlock-found c.args.self.now.format c.args.block.now c.in-Some.rest.now c.in-Some.found.headers c.in-Some.found.properties.now found (history_in_bytes c.args.self.now.draft) (history_in_bytes c.add.new.self)
    (subst (λ each. AddsContent c.args.self.now.draft (content_from_headers each c.in-Some.found.headers c.in-Some.found.properties.now) c.add.new.self) format c.in_ok-add-in-Some.ensures.added) in
    let (last, whole, read) = IsReadAs-adds c.args.self.now.format bytes c.args.block.now c.in-Some.rest.now c.args.self.now.draft c.add.new.self is adds c.in_ok-add-in-Some.ensures.keeps in
    (last, whole, read)

pub returns-in-None-clause-refused : goal.returns-in-None-clause-refused
returns-in-None-clause-refused c =
    IfErr-new c.args.self.now c.read_header.new.self c.new.result c.args.block.now c.read_header.result c.new.ensures c.requires.begins c.read_header.ensures.refused
