use Rattle.svn_dump.proofs.Common.{sym, ap, ◌∙◌, option_map}
use Rattle.svn_dump.proofs.EntriesRead.{entry_of-deleted, entry_of-valued, entry_of-whole}
use Rattle.svn_dump.proofs.grammar.section.split_entry.Goals as goal

pub returns-in-None : goal.returns-in-None
returns-in-None c =
    c.split_deleted.ensures ∙ sym (entry_of-deleted c.args.has_changes c.args.bytes.now (sym c.split_valued.ensures ∙ ap (option_map _) c.in-None.is) c.if-has_changes.true)

pub returns-in_default : goal.returns-in_default
returns-in_default c = c.split_valued.ensures ∙ sym (entry_of-whole c.args.has_changes c.args.bytes.now c.if-has_changes.false)

pub returns-in_default-2 : goal.returns-in_default-2
returns-in_default-2 c = c.split_valued.ensures ∙ entry_of-valued c.args.has_changes c.args.bytes.now _ c.in_default.ensures
