use Rattle.svn_report.proofs.Common.{◌≡◌, ◌+◌, ℕ, ◌∙◌, length, arith, ap, flat_map, length-map, history_in_bytes, IsTextAt, lent_lines}
use denote.Param.Send.{sendable}
use Rattle.std.proofs.Crossing.{crosses}
use Rattle.std.specs.Prelude.{slice_index_or, []}
use Rattle.query_answer.specs.Answer.{answer_of, answer_text}
use Rattle.query_answer.specs.Query.{query_of}
use Rattle.query_answer.specs.Repo.{trees_in_bytes}
use Rattle.query_pool.specs.Serving.{results_of}
use Rattle.query_pool.proofs.Gathered.{gathered_each}
use Rattle.svn_report.proofs.AnswerTexts.{flat_map-texts, texts_from-each}
use Rattle.svn_report.proofs.SharedRepos.{repo_sync}
use Rattle.value_memo.proofs.SharedMemos.{memo_sync}
use Rattle.svn_report.proofs.batch.Batch.answers.Goals as goal

pub returns-in-Ok-clause-texts : goal.returns-in-Ok-clause-texts
returns-in-Ok-clause-texts g c =
    let batch = c.args.self.now in
    let dump = batch.repo.now in
    let lent = batch.lines.now in
    let lines = lent_lines lent in
    let texts = c.in-Ok.texts.items in
    let history = history_in_bytes dump in
    let trees = trees_in_bytes dump in
    let counted : length lines ≡ length lent = length-map lent (λ line. line.now) in
    let whole : length texts ≡ length lent = omega (arith, c.in-Ok.ensures.len, c.in-Ok.texts.ok.0) in
    let paired : length texts ≡ length lines = omega (arith, whole, counted) in
    let each = gathered_each (λ place text. IsTextAt dump batch.first lent place text.items) (length lent) (results_of c.in_ok-parts.parts.items) texts
    c.in-Ok.ensures.each_once whole c.in-Ok.ensures.by_place c.in_ok-parts.ensures.gives in
    let number : (place : ℕ) → batch.first + place + 1 ≡ place + (batch.first + 1) = λ place. omega arith in
    texts_from-each (λ text. text.items) history trees (batch.first + 1) lines texts paired
    (λ place below text at. each place text at ∙ ap (λ n. answer_text n (answer_of history trees (query_of (slice_index_or lines place [])))) (number place))

pub returns-in-Ok-clause-joined : goal.returns-in-Ok-clause-joined
returns-in-Ok-clause-joined g c =
    flat_map-texts (λ text. text.items) c.in-Ok.texts.items ∙ ap (flat_map (λ text. text)) (returns-in-Ok-clause-texts g c)

pub serve-requires-sync-J : goal.serve-requires-sync-J
serve-requires-sync-J g c κs within = search (sendable, crosses, repo_sync, memo_sync) depth 40 fits 100000
