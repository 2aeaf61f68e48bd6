use Rattle.svn_dump.proofs.Common.{get_or, sym, ap, ◌∙◌, None, option_copied, field_index}
use Rattle.svn_dump.proofs.Fields.{get_or-mapped}
use Rattle.svn_dump.proofs.grammar.headers.Headers.get.Goals as goal

pub returns : goal.returns
returns c =
    ap (λ n. option_copied (get_or c.self.inside.values n None)) c.index.ensures
    ∙ sym (get_or-mapped option_copied c.self.inside.values (field_index c.args.field) None)
    ∙ ap (λ values. get_or values (field_index c.args.field) None) c.self.view_is
