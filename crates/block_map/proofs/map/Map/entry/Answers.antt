use Rattle.block_map.proofs.Common.{◌≡◌, option_map, ap, ◌∙◌, IfOk-weaker, same_name, look_in, revision_in, state_in, entry_view, standing_at, standing_of}
use Rattle.block_map.proofs.MapsOfDumps.{standing-at_end}
use Rattle.block_map.proofs.Standings.{standing-look}
use Rattle.block_map.proofs.map.Map.entry.Goals as goal

pub returns-clause-of_dump : goal.returns-clause-of_dump
returns-clause-of_dump c = λ dump dump_is map_is.
    IfOk-weaker c.standing.result (λ entry. option_map entry_view entry ≡ standing_of (look_in c.args.self.now c.args.tick c.parts.result.now))
    (λ entry. option_map entry_view entry ≡ standing_at same_name (state_in dump c.args.tick) c.args.path.now)
    (λ entry is. is ∙ ap (λ path. standing_of (look_in c.args.self.now c.args.tick path)) c.parts.ensures
    ∙ standing-look dump dump_is c.args.self.now map_is c.args.tick c.args.path.now c.requires.within)
    c.standing.ensures

pub returns-clause-of_revision : goal.returns-clause-of_revision
returns-clause-of_revision c = λ dump rev map_is end_is.
    IfOk-weaker c.standing.result (λ entry. option_map entry_view entry ≡ standing_of (look_in c.args.self.now c.args.tick c.parts.result.now))
    (λ entry. option_map entry_view entry ≡ standing_at same_name (revision_in dump rev) c.args.path.now)
    (λ entry is. is ∙ ap (λ path. standing_of (look_in c.args.self.now c.args.tick path)) c.parts.ensures
    ∙ standing-at_end dump rev c.args.self.now c.args.tick map_is end_is c.requires.within c.args.path.now)
    c.standing.ensures
