use Rattle.merge_info.proofs.Common.{◌≡◌, None, sym, subst, AddsLine}
use Rattle.merge_info.proofs.RunsByPath.{AreRunsByPath-insert, AreRunsByPath-write, runs_found}
use Rattle.merge_info.proofs.runs_by_path.add_line.Goals as goal

-- the path was there
pub returns-in_ok-extend_from_slice-in-Some : goal.returns-in_ok-extend_from_slice-in-Some
returns-in_ok-extend_from_slice-in-Some c =
    let old = c.args.by_path.now in
    let longer = c.extend_from_slice.new.self in
    let new = c.get_mut.follows.lender longer in
    let path = c.as_slice.result.now in
    let runs = c.deref.result.now in
    subst (λ at. AddsLine (record { path = at; runs = c.args.line.runs.items }) old new) c.as_slice.ensures.value
    (subst (λ more. AddsLine (record { path = path; runs = more }) old new) c.deref.ensures.value
    (AreRunsByPath-write old new path c.in-Some.all.now longer runs (rw c.deref.ensures.value c.requires.runs)
    (sym c.in-Some.ensures.value) c.in_ok-extend_from_slice-in-Some.ensures.items
    (c.get_mut.follows.holds longer)))

-- the path is new
pub returns-in_ok-insert-in-None : goal.returns-in_ok-insert-in-None
returns-in_ok-insert-in-None c =
    let inserted = c.in_ok-insert-in-None.ensures in
    let line = c.args.line in
    let old = c.get_mut.follows.lender-at-none in
    let new = c.insert.new.self in
    let same = c.get_mut.follows.holds-at-none in
    let absent : runs_found old line.path.items ≡ None = rw (same, ← c.as_slice.ensures.value) (sym c.in-None.ensures.value) in
    subst (λ before. AddsLine (record { path = line.path.items; runs = line.runs.items }) before new) same
    (AreRunsByPath-insert old new line.path line.runs c.requires absent inserted.entries inserted.updates
    inserted.ordered)
