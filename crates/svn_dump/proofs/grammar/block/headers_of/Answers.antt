use Rattle.svn_dump.proofs.Common.{sym, ap, ◌++◌, ◌∷◌, ◌∙◌, append_assoc, err_from_is_err_and}
use Rattle.std.proofs.Common.{Some}
use Rattle.svn_dump.proofs.Blocks.{BeginsWithLines-append, not_empty, BeginsWithLines-push, refused-no_header, refused-twice}
use Rattle.svn_dump.proofs.grammar.block.headers_of.Goals as goal

pub loop-line-preserved : goal.loop-line-preserved
loop-line-preserved c =
    let line = c.in-Some.line.now in
    let header = c.in-Some-header_of.ensures in
    BeginsWithLines-push c.args.bytes.now line c.in-Some.more.now c.loop-line.rest.now c.loop-line.headers c.add.new.self header.0 c.in-Some.ensures.1
    (λ lines before. c.in_ok-add.ensures.ok lines line (sym header.1) (sym header.2) before) c.loop-line.invariant

pub returns-in_default-header_of-clause-refused : goal.returns-in_default-header_of-clause-refused
returns-in_default-header_of-clause-refused c = λ more.
    let line = c.in-Some.line.now in
    let found = BeginsWithLines-append c.args.bytes.now c.loop-line.headers c.loop-line.rest.now more c.loop-line.invariant in
    refused-no_header (c.args.bytes.now ++ more) c.loop-line.headers (c.loop-line.rest.now ++ more) found line (c.in-Some.more.now ++ more) (not_empty line (sym c.is_empty.ensures ∙ c.if-is_empty.false)) c.in-Some.ensures.0
    (ap (λ all. all ++ more) c.in-Some.ensures.1 ∙ append_assoc line (10 ∷ c.in-Some.more.now) more) c.in_default-header_of.ensures

pub returns-in_err-add-clause-refused : goal.returns-in_err-add-clause-refused
returns-in_err-add-clause-refused c =
    let (error, errs, same) = err_from_is_err_and c.from_residual.result c.from_residual.ensures.1 in
    let line = c.in-Some.line.now in
    let header = c.in-Some-header_of.ensures in
    rw errs (λ more.
    let found = BeginsWithLines-append c.args.bytes.now c.loop-line.headers c.loop-line.rest.now more c.loop-line.invariant in
    refused-twice (c.args.bytes.now ++ more) c.loop-line.headers (c.loop-line.rest.now ++ more) found line (c.in-Some.more.now ++ more) (not_empty line (sym c.is_empty.ensures ∙ c.if-is_empty.false)) c.in-Some.ensures.0
    (ap (λ all. all ++ more) c.in-Some.ensures.1 ∙ append_assoc line (10 ∷ c.in-Some.more.now) more)
    (λ once. c.in_err-add.ensures.twice found.lines line (sym header.1) found.fields once)
    ∙ ap Some (sym (same ∙ c.in_err-add.ensures.refused)))
