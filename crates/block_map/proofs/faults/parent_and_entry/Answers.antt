use Rattle.block_map.proofs.Common.{◌≡◌, ℕ, List, [], ◌∷◌, ◌++◌, Option, Some, None, option_map, sym, ap, ◌∙◌, false, Standings, ValueId, parent_of, NameId, parent_of-push, has_parent_standing, is_dir_standing, standings_in, entry_view, standing_of}
use Rattle.block_map.specs.declared.entry.Entry.{Entry}
use Rattle.block_map.proofs.faults.parent_and_entry.Goals as goal

-- what stands at the path above decides
parent-is_dir : (standings : Standings NameId ValueId) (tick : ℕ) (path above : List NameId) (name : NameId) (entry : Option Entry)
    → path ≡ above ++ name ∷ [] → option_map entry_view entry ≡ standings tick above
    → is_dir_standing (option_map entry_view entry) ≡ has_parent_standing standings tick path
parent-is_dir standings tick path above name entry is stands =
    ap is_dir_standing stands
    ∙ ap (λ o. elim o [ None ↦ false | Some each ↦ is_dir_standing (standings tick each) ])
    (sym (ap parent_of is ∙ parent_of-push above name))

pub returns-in-Some-only_block-clause-parent : goal.returns-in-Some-only_block-clause-parent
returns-in-Some-only_block-clause-parent c =
    let above = c.in-Some.above.now in
    parent-is_dir (standings_in c.args.map.now) c.args.tick c.args.path.now above c.in-Some.name.now c.standing_with_child.result.0
    c.in-Some.ensures.cases.0 (c.standing_with_child.ensures.path ∙ ap standing_of (c.in-Some-only_block.ensures.look above))

pub returns-in_ok-standing-in-None-only_block-2-clause-parent :
    goal.returns-in_ok-standing-in-None-only_block-2-clause-parent
returns-in_ok-standing-in-None-only_block-2-clause-parent c =
    parent-is_dir (standings_in c.args.map.now) c.args.tick c.args.path.now c.in-Some.above.now c.in-Some.name.now c.in_ok-standing-in-None-only_block.field-0
    c.in-Some.ensures.cases.0 c.in_ok-standing-in-None-only_block.ensures
