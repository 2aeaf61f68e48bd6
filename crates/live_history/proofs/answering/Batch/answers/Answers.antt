use Rattle.live_history.proofs.Common.{◌≡◌, ◌+◌, ℕ, ◌∙◌, length, arith, ap, length-map, history_in_bytes}
use denote.Param.Send.{sendable}
use Rattle.std.proofs.Crossing.{crosses}
use Rattle.std.specs.Prelude.{slice_index_or, []}
use Rattle.query_answer.specs.Answer.{answer_text}
use Rattle.query_answer.specs.Repo.{trees_in_bytes}
use Rattle.query_pool.specs.Serving.{results_of}
use Rattle.query_pool.proofs.Gathered.{gathered_each}
use Rattle.svn_report.specs.Answering.{lent_lines}
use Rattle.svn_report.proofs.SharedRepos.{repo_sync}
use Rattle.value_memo.proofs.SharedMemos.{memo_sync}
use Rattle.live_history.specs.Answering.{IsTextAt}
use Rattle.live_history.specs.Talk.{line_answer}
use Rattle.live_history.proofs.AnswerTexts.{texts_from-each}
use Rattle.live_history.proofs.answering.Batch.answers.Goals as goal

pub returns-in-Ok : goal.returns-in-Ok
returns-in-Ok g c =
    let batch = c.args.self.now in
    let dump = batch.repo.now in
    let lent = batch.lines.now in
    let lines = lent_lines lent in
    let texts = c.in-Ok.texts.items in
    let history = history_in_bytes dump in
    let trees = trees_in_bytes dump in
    let counted : length lines ≡ length lent = length-map lent (λ line. line.now) in
    let whole : length texts ≡ length lent = omega (arith, c.in-Ok.ensures.len, c.in-Ok.texts.ok.0) in
    let paired : length texts ≡ length lines = omega (arith, whole, counted) in
    let each = gathered_each (λ place text. IsTextAt dump batch.first lent place text.items) (length lent) (results_of c.in_ok-parts.parts.items) texts
    c.in-Ok.ensures.each_once whole c.in-Ok.ensures.by_place c.in_ok-parts.ensures.gives in
    let number : (place : ℕ) → batch.first + place + 1 ≡ place + (batch.first + 1) = λ place. omega arith in
    texts_from-each (λ text. text.items) history trees (batch.first + 1) lines texts paired
    (λ place below text at. each place text at ∙ ap (λ n. answer_text n (line_answer history trees (slice_index_or lines place []))) (number place))

pub serve-requires-sync-J : goal.serve-requires-sync-J
serve-requires-sync-J g c κs within = search (sendable, crosses, repo_sync, memo_sync) depth 40 fits 100000
