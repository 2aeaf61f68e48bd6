use Rattle.std.proofs.Common.{refl}
use Rattle.branch_answer.specs.declared.life.Life.{Life}
use Rattle.branch_answer.proofs.LifeMade.{life_at-made}
use Rattle.branch_answer.proofs.questions.lives.life_up_to.Goals as goal

pub returns : goal.returns
returns c =
    let first = c.in_ok-first.ensures in
    let one : Life = record {
      first = c.in_ok-first.first;
      last = c.args.last;
      kind = c.in_ok-kind_in.field-0;
      origin = c.in_ok-first.origin;
      next = c.in_ok-next_path.field-0;
    } in
    record {
      of_names = record { origin = first.of_names; next = c.in_ok-next_path.ensures.of_names };
      within = first.within;
      is = life_at-made c.args.repo.now c.args.path.now c.args.last c.args.top c.requires one first refl c.in_ok-kind_in.ensures c.in_ok-next_path.ensures.next;
      on = first.on;
      begins = first.begins;
    }
