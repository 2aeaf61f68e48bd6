use Rattle.svn_report.proofs.Common.{◌≡◌, ◌++◌, length, take, drop, arith, sym, ap, ◌∙◌, flat_map, partial_text}
use Rattle.svn_report.proofs.Batches.{IsAnswered-more, IsAnswered-none}
use Rattle.svn_report.proofs.answering.answer_batches.Goals as goal

pub batches-init : goal.batches-init
batches-init g c = record {
  answered =
      ap (λ items. items ++ flat_map (λ text. text.items) c.new-2.result.items) c.new.ensures.items
      ∙ ap (flat_map (λ text. text.items)) c.new-2.ensures.items
      ∙ IsAnswered-none c.args.repo.now c.args.lines.now;
  within = omega arith;
  some = omega arith;
  few = omega arith;
}

pub batches-preserved : goal.batches-preserved
batches-preserved g c =
    let lines = c.args.lines.now in
    let done = c.batches.done in
    let now = c.split_at-in-batches.result.0.now in
    let cut = c.split_at-in-batches.ensures in
    let split : now ≡ take (length now) (drop done lines) =
    cut.front ∙ ap (take c.min.result) c.split_at.ensures.back ∙ ap (λ n. take n (drop done lines)) (sym cut.front_len) in
    record {
      answered = IsAnswered-more c.args.repo.now lines now done (length now) (partial_text c.batches.partial) (partial_text c.in_ok-partial.partial)
          c.batches.invariant.answered c.batches.invariant.within split c.in_ok-partial.ensures;
      within = omega arith;
      some = omega arith;
      few = omega arith;
    }
