use Rattle.svn_dump.proofs.Common.{length, ap, ◌∙◌, arith, None, Some, option_map}
use Rattle.svn_dump.proofs.SectionPieces.{piece_of-cut}
use Rattle.svn_dump.proofs.grammar.section.split_piece.Goals as goal

pub returns-in_err-number_up_to : goal.returns-in_err-number_up_to
returns-in_err-number_up_to c =
    let line = c.in_ok-digits.ensures in
    ap (option_map _) c.from_residual-in_err-number_up_to.ensures
    ∙ piece_of-cut c.args.letter c.args.bytes.now c.in_ok-after_letter.field-0.now c.in_ok-digits.digits.now c.in_ok-digits.rest.now None (length c.in_ok-digits.rest.now) c.requires
    c.in_ok-after_letter.ensures line.0 line.1 (omega arith) c.in_err-number_up_to.ensures

pub returns : goal.returns
returns c =
    let line = c.in_ok-digits.ensures in
    c.split_counted.ensures
    ∙ piece_of-cut c.args.letter c.args.bytes.now c.in_ok-after_letter.field-0.now c.in_ok-digits.digits.now c.in_ok-digits.rest.now (Some c.in_ok-number_up_to.field-0) (length c.in_ok-digits.rest.now) c.requires
    c.in_ok-after_letter.ensures line.0 line.1 (omega arith) c.in_ok-number_up_to.ensures
