use Rattle.svn_dump.proofs.Common.{sym, ap, ◌∙◌, length_or_zero, are_of_node, body_length_from_headers, field_value, PropertiesLength}
use Rattle.std.proofs.Common.{Some}
use Rattle.svn_dump.proofs.Blocks.{body_length-from_headers}
use Rattle.svn_dump.proofs.PartialHeaders.{refused-lines_length, values-lines}
use Rattle.svn_dump.proofs.pieces.partial_header.PartialHeader.body.Goals as goal

pub returns-in_default-clause-refused : goal.returns-in_default-clause-refused
returns-in_default-clause-refused c =
    let values = values-lines c.deref.result.now c.in_ok-headers.headers c.in_ok-headers.field-0-1 c.in_ok-headers.ensures.headers in
    let same = c.deref.ensures.value ∙ c.self.view_is in
    refused-lines_length c.args.self.now c.requires (ap body_length_from_headers (sym (rw same at values)) ∙ sym c.in_default.ensures.whole)

pub returns-clause-body : goal.returns-clause-body
returns-clause-body c =
    let values = values-lines c.deref.result.now c.in_ok-headers.headers c.in_ok-headers.field-0-1 c.in_ok-headers.ensures.headers in
    let same = c.deref.ensures.value ∙ c.self.view_is in
    let lines = rw same at values in record {
      section = c.kept_length.result;
      whole = c.in-Some.whole;
      long = body_length-from_headers _ ∙ ap body_length_from_headers (sym lines) ∙ sym c.in-Some.ensures.whole;
      kept = λ node. ap (λ all. length_or_zero (field_value all PropertiesLength)) (sym lines) ∙ c.in-Some.ensures.section ∙ ap (λ n. Some n) (sym (c.kept_length.ensures.all (ap are_of_node lines ∙ node)));
      empty = c.new.ensures;
    }
