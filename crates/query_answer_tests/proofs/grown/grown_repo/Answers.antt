use Rattle.std.proofs.Common.{◌++◌, [], ◌∙◌}
use Rattle.query_answer_tests.proofs.grown.grown_repo.Goals as goal

pub returns : goal.returns
returns g c =
    let front = c.args.front.now in
    let same = c.into_parts-dump.ensures.dump ∙ c.in_ok-load_repo.ensures.repo in
    let paused = c.in_ok-dump.ensures.paused front (c.in_ok-feed.ensures.read [] c.new-feed.ensures.read) in
    let read = c.in_ok-feed-2.ensures.read front (c.resume-feed.ensures.read front (rw same paused)) in
    rw c.in_ok-grow_repo.ensures.repo (c.in_ok-dump-2.ensures.ok (front ++ c.args.end.now) read)
