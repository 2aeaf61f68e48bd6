use Rattle.svn_dump.proofs.Common.{◌≡◌, true, false, sym, ap, ◌∙◌, subst, bytes_eq, option_map, not-true, not-false, section_entry_view, mi_text_view, put, section_end, mergeinfo_name}
use Rattle.std.specs.Prelude.{if◌then◌else◌}
use Rattle.svn_dump.proofs.EntriesRead.{length-entry}
use Rattle.svn_dump.proofs.MiTexts.{IsFinding, IsFinding-more, IsFinding-none, found_no_entry, found_all}
use Rattle.svn_dump.proofs.grammar.section.mergeinfo_of.Goals as goal

pub loop-rest-init : goal.loop-rest-init
loop-rest-init c =
    subst (λ found. IsFinding c.args.has_changes c.args.section.now found c.args.section.now) (sym c.unnamed-found.ensures) (IsFinding-none c.args.has_changes c.args.section.now)

pub returns-in_err-entry : goal.returns-in_err-entry
returns-in_err-entry c =
    let rest = c.loop-rest.rest.now in
    let goes_on : bytes_eq rest section_end ≡ false = ap (bytes_eq rest) (sym c.as_slice.ensures) ∙ not-true _ (sym c.loop-rest-test.ensures) in
    ap (option_map _) c.from_residual.ensures
    ∙ found_no_entry c.args.has_changes c.args.section.now rest (mi_text_view c.loop-rest.found) goes_on (sym c.in_err-entry.ensures) c.loop-rest.invariant

pub loop-rest-smaller-then-eq : goal.loop-rest-smaller-then-eq
loop-rest-smaller-then-eq c =
    length-entry c.args.has_changes c.loop-rest.rest.now (section_entry_view c.in_ok-entry.entry) c.in_ok-entry.more.now (sym c.in_ok-entry.ensures)

pub loop-rest-smaller : goal.loop-rest-smaller
loop-rest-smaller c =
    length-entry c.args.has_changes c.loop-rest.rest.now (section_entry_view c.in_ok-entry.entry) c.in_ok-entry.more.now (sym c.in_ok-entry.ensures)

pub loop-rest-preserved-then-eq : goal.loop-rest-preserved-then-eq
loop-rest-preserved-then-eq c =
    let rest = c.loop-rest.rest.now in
    let each = section_entry_view c.in_ok-entry.entry in
    let goes_on : bytes_eq rest section_end ≡ false = ap (bytes_eq rest) (sym c.as_slice.ensures) ∙ not-true _ (sym c.loop-rest-test.ensures) in
    let wanted : bytes_eq each.name mergeinfo_name ≡ true = ap (bytes_eq each.name) (sym c.as_slice-in-loop-rest.ensures) ∙ sym c.if-eq.ensures in
    subst (λ b. IsFinding c.args.has_changes c.args.section.now (if b then put each.value else mi_text_view c.loop-rest.found) c.in_ok-entry.more.now) wanted
    (IsFinding-more c.args.has_changes c.args.section.now rest each c.in_ok-entry.more.now (mi_text_view c.loop-rest.found) goes_on
    (sym c.in_ok-entry.ensures) c.loop-rest.invariant)

pub loop-rest-preserved : goal.loop-rest-preserved
loop-rest-preserved c =
    let rest = c.loop-rest.rest.now in
    let each = section_entry_view c.in_ok-entry.entry in
    let goes_on : bytes_eq rest section_end ≡ false = ap (bytes_eq rest) (sym c.as_slice.ensures) ∙ not-true _ (sym c.loop-rest-test.ensures) in
    let other : bytes_eq each.name mergeinfo_name ≡ false = ap (bytes_eq each.name) (sym c.as_slice-in-loop-rest.ensures) ∙ sym c.if-eq.ensures in
    subst (λ b. IsFinding c.args.has_changes c.args.section.now (if b then put each.value else mi_text_view c.loop-rest.found) c.in_ok-entry.more.now) other
    (IsFinding-more c.args.has_changes c.args.section.now rest each c.in_ok-entry.more.now (mi_text_view c.loop-rest.found) goes_on
    (sym c.in_ok-entry.ensures) c.loop-rest.invariant)

pub returns : goal.returns
returns c =
    let rest = c.loop-rest.rest.now in
    let ends : bytes_eq rest section_end ≡ true = ap (bytes_eq rest) (sym c.as_slice.ensures) ∙ not-false _ (sym c.loop-rest-test.ensures) in
    found_all c.args.has_changes c.args.section.now rest (mi_text_view c.loop-rest.found) ends c.loop-rest.invariant
