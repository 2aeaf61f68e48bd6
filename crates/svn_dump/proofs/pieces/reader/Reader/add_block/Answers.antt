use Rattle.svn_dump.proofs.Common.{◌++◌, ◌∷◌, sym, ap, ◌∙◌, append_assoc, err_from_is_err_and, history_in_bytes, front_refusals, first_holding}
use Rattle.svn_dump.proofs.PartialHeaders.{values-lines}
use Rattle.svn_dump.proofs.WholeBlocks.{AddsBlock-whole, IsBlockRefusalFrom-whole, block_refusal-front}
use Rattle.svn_dump.proofs.pieces.reader.Reader.add_block.Goals as goal

pub returns-in_err-headers-clause-refused : goal.returns-in_err-headers-clause-refused
returns-in_err-headers-clause-refused c =
    let (error, errs, same) = err_from_is_err_and c.from_residual.result c.from_residual.ensures.1 in
    let header = c.args.header.now in
    rw (errs, same) (λ come is none begins whole more.
    block_refusal-front c.args.self.now.format (history_in_bytes c.args.self.now.draft) _ c.in_err-headers.field-0.0
    (ap (λ all. first_holding (front_refusals all)) (append_assoc header (10 ∷ come) more ∙ ap (λ all. all ++ 10 ∷ (come ++ more)) (sym c.bytes.ensures))
    ∙ c.in_err-headers.ensures.refused (10 ∷ (come ++ more))))

pub returns-in_err-add-clause-refused : goal.returns-in_err-add-clause-refused
returns-in_err-add-clause-refused c =
    let (error, errs, same) = err_from_is_err_and c.from_residual-in_err-add.result c.from_residual-in_err-add.ensures.1 in
    let read = values-lines c.bytes.result.now c.in_ok-headers.headers c.in_ok-headers.field-0-1 c.in_ok-headers.ensures.headers in
    let values = rw c.bytes.ensures at read in
    rw (errs, same) (λ come is none begins whole.
    IsBlockRefusalFrom-whole c.args.self.now.format c.args.header.now c.args.body.now come is none begins (history_in_bytes c.args.self.now.draft) c.in_err-add.field-0.0
    (rw (values, c.as_slice-properties.ensures.value) at c.in_err-add.ensures.refused whole))

pub returns-clause-added : goal.returns-clause-added
returns-clause-added c =
    let read = values-lines c.bytes.result.now c.in_ok-headers.headers c.in_ok-headers.field-0-1 c.in_ok-headers.ensures.headers in
    let values = rw c.bytes.ensures at read in
    λ come is none begins.
    AddsBlock-whole c.args.self.now.format c.args.header.now c.args.body.now come is none begins (history_in_bytes c.args.self.now.draft) (history_in_bytes c.add.new.self)
    (rw (values, c.as_slice-properties.ensures.value) at c.in_ok-add.ensures.added)
