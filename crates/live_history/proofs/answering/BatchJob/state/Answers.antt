use Rattle.live_history.proofs.Common.{◌≡◌, IfOk-weaker}
use Rattle.value_memo.specs.SeenValue.{nothing_seen}
use Rattle.query_answer.specs.Worker.{IsSeenOf}
use Rattle.query_answer.proofs.WorkersSeen.{IsSeenOf-nothing_seen}
use Rattle.live_history.proofs.answering.BatchJob.state.Goals as goal

pub returns : goal.returns
returns c =
    let batch = c.args.self.now in
    IfOk-weaker c.new.result (λ seen. seen ≡ nothing_seen batch.memo.now) (IsSeenOf batch.repo.now.values batch.memo.now)
    (λ seen is. IsSeenOf-nothing_seen batch.repo.now.values batch.memo.now seen batch.cells is) c.new.ensures
