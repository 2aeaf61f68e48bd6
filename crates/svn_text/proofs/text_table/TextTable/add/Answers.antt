use Rattle.std.proofs.Common.{◌≡◌, false, slice_get, bytes_eq, ◌∙◌, ap}
use Rattle.std.proofs.lemmas.Bool.{false_from_ne_true, false≢true}
use Rattle.std.specs.List.{list_any}
use Rattle.indexmap.specs.IndexSet.{insert_key}
use Rattle.svn_text.specs.TextTable.{has_text}
use Rattle.svn_text.proofs.TextTables.{slice_get-insert_key, has_text-flipped}
use Rattle.svn_text.proofs.text_table.TextTable.add.Goals as goal

pub returns-clause-number : goal.returns-clause-number
returns-clause-number c =
    let keys = c.self.inside.known.keys in
    let text = c.args.text.now in
    let number = c.len-number.result in
    let lacks : has_text c.args.self.now text ≡ false = false_from_ne_true _ (λ e. false≢true (c.in_default.ensures.found.1 e)) in
    let new : list_any (bytes_eq text) keys ≡ false = has_text-flipped keys text ∙ ap (λ texts. has_text texts text) c.self.view_is ∙ lacks in
    ap (λ all. slice_get all number) (c.in_ok-insert.ensures.keys ∙ ap (insert_key bytes_eq keys) (c.in_ok-kept.ensures ∙ c.new.ensures)) ∙ slice_get-insert_key keys text number new c.len-number.ensures.len
