use Rattle.std.proofs.Common.{◌≡◌, ℕ, Err, ◌+◌, length, take, sym, ap, subst, ◌∙◌}
use Rattle.std.proofs.lemmas.Bool.{false_from_ne_true}
use Rattle.std.proofs.lemmas.List.{length_push}
use Rattle.svn_path.specs.Components.{parts_of}
use Rattle.svn_path.specs.Names.{with_names}
use Rattle.svn_path.specs.Path.{HasNoRoomForAll, HasUnknown}
use Rattle.svn_path.proofs.Components.{components-parts_of}
use Rattle.svn_path.proofs.Exits.{OnErr-from, full-reported}
use Rattle.svn_path.proofs.Reading.{IsRead, IsRead-more, IsRead-with_name, component-from_IsRead, next_at, with_names-next}
use Rattle.svn_path.proofs.path.Path.read_without_dots.Goals as goal

pub add-requires : goal.add-requires
add-requires c =
    let no_dots = false_from_ne_true _ c.requires in
    component-from_IsRead c.loop-part.invariant.read c.in-Some.ensures.part (components-parts_of c.args.bytes.now no_dots)

pub returns-in_err-push-clause-err : goal.returns-in_err-push-clause-err
returns-in_err-push-clause-err c =
    let all = parts_of c.args.bytes.now in
    let next = with_names-next c.loop-part.invariant.read c.in-Some.ensures.part c.args.names.now c.loop-part.invariant.table in
    let taken : (n : ℕ) × (c.add.new.self ≡ with_names c.args.names.now (take n all)) = (length c.loop-part.parts.items + 1, c.in_ok-id.ensures.table ∙ next) in
    OnErr-from _ taken

pub loop-part-preserved : goal.loop-part-preserved
loop-part-preserved c =
    let all = parts_of c.args.bytes.now in
    let part = c.in-Some.part.now in
    let path = c.loop-part.parts.items in
    let table = c.in_ok-id.ensures.table in
    let grown = subst (λ names. IsRead names all path (parts_of c.loop-part.rest.now)) (sym table) (IsRead-with_name c.loop-part.invariant.read part) in
    let more = IsRead-more grown c.in-Some.ensures.part c.in_ok-id.id c.in_ok-id.ensures.number in
    let next = with_names-next c.loop-part.invariant.read c.in-Some.ensures.part c.args.names.now c.loop-part.invariant.table in
    let pushed = c.in_ok-push.ensures.ok in
    let count : length path + 1 ≡ length c.push.new.self.items = sym (length_push path c.in_ok-id.id) ∙ sym (ap length pushed) in
    record {
      read = subst (λ items. IsRead c.add.new.self all items (parts_of c.in-Some.more.now)) (sym pushed) more;
      table = table ∙ next ∙ ap (λ n. with_names c.args.names.now (take n all)) count;
    }

pub returns-in_err-id-clause-full : goal.returns-in_err-id-clause-full
returns-in_err-id-clause-full c full =
    let all = parts_of c.args.bytes.now in
    let error = full-reported _ c.in_err-id.field-0.0 c.from_residual.ensures.1 full in
    let room = c.in_err-id.ensures.full.0 (ap Err error) in
    let (below, at) = next_at c.loop-part.invariant.read c.in-Some.ensures.part in
    let lacks : HasUnknown c.loop-part.names all = (length c.loop-part.parts.items, c.in-Some.part.now, below, at, room.1) in
    subst (λ names. HasNoRoomForAll names all) (sym c.in_err-id.ensures.err) (room.0, lacks)
