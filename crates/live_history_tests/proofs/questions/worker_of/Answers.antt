use Rattle.std.proofs.Common.{◌≡◌}
use Rattle.std.proofs.lemmas.Result.{IfOk-weaker}
use Rattle.value_memo.specs.SeenValue.{nothing_seen}
use Rattle.query_answer.specs.Worker.{IsSeenOf}
use Rattle.query_answer.proofs.WorkersSeen.{IsSeenOf-nothing_seen}
use Rattle.live_history_tests.proofs.questions.worker_of.Goals as goal

pub returns : goal.returns
returns c =
    let values = c.args.repo.now.values in
    let memo = c.args.memo.now in
    IfOk-weaker c.new.result (λ seen. seen ≡ nothing_seen memo) (IsSeenOf values memo)
    (λ seen is. IsSeenOf-nothing_seen values memo seen c.requires is) c.new.ensures
