use Rattle.query_answer.proofs.Common.{◌≡◌, [], Some, slice_get, refl, sym, ap, ◌∙◌, get_or_from_slice_get, IfOk-weaker, text_found, value_said}
use Rattle.query_answer.proofs.WorkersSeen.{MayLearn-after}
use Rattle.query_answer.proofs.nearest_value.nearest_value.Goals as goal

pub returns-in-Some : goal.returns-in-Some
returns-in-Some c =
    let dump = c.args.repo.now in
    let id = c.in-Some.found.mi.0 in
    let text = c.mergeinfo_text.result.now in
    let of_id : slice_get dump.values id ≡ Some text = c.mergeinfo_text.ensures in
    let read_is : text_found dump c.args.nearest ≡ Some text = ap (text_found dump) c.in-Some.is ∙ ap Some (get_or_from_slice_get dump.values id text [] of_id) in (
      (refl, λ _. tt, MayLearn-after dump.values c.args.memo.now c.args.seen.now c.requires.seen id text of_id (text_found dump c.args.nearest) read_is c.value.result c.value.follows.lender-at-none c.value.follows.holds-at-none),
      record { after = tt; value = IfOk-weaker c.value.result _ _ (λ parsed said. said ∙ sym (ap value_said read_is)) c.value.ensures.reading },
    )
