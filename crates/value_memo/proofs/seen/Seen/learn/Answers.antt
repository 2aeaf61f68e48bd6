use Rattle.std.proofs.Common.{◌+◌, arith, is_some, slice_get, slice_set, sym, ap, subst, ◌∙◌}
use mir.Val.{bool_byte}
use Rattle.std.proofs.lemmas.Option.{none-some, same_Some}
use Rattle.value_memo.specs.SeenValue.{IsAnswered, seen_view, text_at}
use Rattle.value_memo.proofs.KnownCells.{IsAnswered-again, IsAnswered-cell, MayAsk-cases, None-unless, asked_of-answered, asked_of-fits, bool_byte-le-1, name-cell, own-counted, cell_at, seen_view-same, text_at-cell}
use Rattle.value_memo.proofs.seen.Seen.learn.Goals as goal

pub returns-then-is_answered-clause-ok : goal.returns-then-is_answered-clause-ok
returns-then-is_answered-clause-ok c =
    let cells = c.self.inside.cells.items in let parses = c.self.inside.parses in let seen = c.args.self.now in let at = c.args.at in let text = c.args.text.now in
    let cell = c.index_mut-known.result.now in
    let there = cell_at cells parses seen c.args.memo.now at cell c.self.view_is c.requires.memo c.requires.number c.index_mut-known.ensures.value in
    let now = ap (λ s. text_at s at) (sym c.self.view_is) ∙ text_at-cell cells parses at cell there in
    let known = MayAsk-cases (text_at seen at) text c.requires.text (ap is_some now ∙ sym c.is_answered.ensures ∙ c.if-is_answered.true) in
    subst (λ new. IsAnswered seen at text new) (sym (seen_view-same cells parses at cell there ∙ c.self.view_is)) (IsAnswered-again seen at text known)

pub learn-requires-clause-cell : goal.learn-requires-clause-cell
learn-requires-clause-cell c =
    let cells = c.self.inside.cells.items in let parses = c.self.inside.parses in let seen = c.args.self.now in let at = c.args.at in
    let cell = c.index_mut-known.result.now in
    let there = cell_at cells parses seen c.args.memo.now at cell c.self.view_is c.requires.memo c.requires.number c.index_mut-known.ensures.value in
    same_Some _ _ (sym (name-cell cells parses at cell there) ∙ ap (λ s. slice_get s.memo at) c.self.view_is ∙ ap (λ m. slice_get m at) c.requires.memo ∙ c.cell.ensures)

pub returns-in_err-is_read-clause-again : goal.returns-in_err-is_read-clause-again
returns-in_err-is_read-clause-again c =
    let cells = c.self.inside.cells.items in let parses = c.self.inside.parses in let seen = c.args.self.now in let at = c.args.at in
    let cell = c.index_mut-known.result.now in
    let there = cell_at cells parses seen c.args.memo.now at cell c.self.view_is c.requires.memo c.requires.number c.index_mut-known.ensures.value in
    let now = ap (λ s. text_at s at) (sym c.self.view_is) ∙ text_at-cell cells parses at cell there in
    λ known. absurd (none-some c.args.text.now (sym (now ∙ None-unless cell.text (sym c.if-is_answered.false ∙ c.is_answered.ensures)) ∙ known))

pub overflow_add-self : goal.overflow_add-self
overflow_add-self c =
    let cells = c.self.inside.cells in
    omega (arith, c.self.invariant.0, asked_of-fits cells.items c.self.inside.parses, cells.ok.0, cells.ok.1, cells.small)

pub overflow_add-self-2 : goal.overflow_add-self-2
overflow_add-self-2 c =
    let cells = c.self.inside.cells in
    omega (arith, c.self.invariant.0, c.self.invariant.1, asked_of-fits cells.items c.self.inside.parses, cells.ok.0, cells.ok.1, cells.small, bool_byte-le-1 c.in_ok-is_read.is_read)

pub invariant_of-self-2 : goal.invariant_of-self-2
invariant_of-self-2 c =
    let cells = c.self.inside.cells.items in let parses = c.self.inside.parses in let at = c.args.at in
    let cell = c.index_mut-known.result.now in
    let there = cell_at cells parses c.args.self.now c.args.memo.now at cell c.self.view_is c.requires.memo c.requires.number c.index_mut-known.ensures.value in
    let unknown = None-unless cell.text (sym c.if-is_answered.false ∙ c.is_answered.ensures) in
    let byte = bool_byte-le-1 c.in_ok-is_read.is_read in
    (ap (λ n. n + 1) c.self.invariant.0 ∙ sym (asked_of-answered cells parses at cell there c.args.text.now c.learn.new.self c.in_ok-is_read.ensures.ok unknown (parses + bool_byte c.in_ok-is_read.is_read)), omega (arith, c.self.invariant.1, byte))

pub returns-clause-ok : goal.returns-clause-ok
returns-clause-ok c =
    let cells = c.self.inside.cells.items in let parses = c.self.inside.parses in let at = c.args.at in let text = c.args.text.now in
    let cell = c.index_mut-known.result.now in
    let there = cell_at cells parses c.args.self.now c.args.memo.now at cell c.self.view_is c.requires.memo c.requires.number c.index_mut-known.ensures.value in
    let unknown = None-unless cell.text (sym c.if-is_answered.false ∙ c.is_answered.ensures) in
    let byte = bool_byte-le-1 c.in_ok-is_read.is_read in
    let more = parses + bool_byte c.in_ok-is_read.is_read in
    let counted = own-counted c.in_ok-is_read.is_read c.learn.new.self.own parses c.in_ok-is_read.ensures.shared in
    let answered = IsAnswered-cell cells parses at cell there text c.learn.new.self c.in_ok-is_read.ensures.ok unknown more (omega arith) (omega (arith, byte)) counted in
    subst (λ old. IsAnswered old at text (seen_view (slice_set cells at c.learn.new.self) more)) c.self.view_is answered
