use Rattle.std.proofs.Common.{◌≡◌, ℕ, Some, slice_get, arith, sym, ap, subst, ◌∙◌}
use Rattle.std.proofs.lemmas.Grind.{common_steps}
use Rattle.svn_text.proofs.TextTables.{slice_get-position}
use Rattle.svn_text.proofs.text_table.TextTable.find.Goals as goal

pub returns-clause-number : goal.returns-clause-number
returns-clause-number c =
    let text = c.args.text.now in
    let key = c.new-text.result in
    let at : (number : ℕ) → c.get_index_of.result ≡ Some number → slice_get c.args.self.now number ≡ Some text = λ number found. subst (λ texts. slice_get texts number ≡ Some text) c.self.view_is (slice_get-position c.self.inside.known.keys key number (sym c.get_index_of.ensures.index ∙ found) ∙ ap Some c.new-text.ensures) in
    grind (arith, common_steps, at)
