use Rattle.std.proofs.Common.{◌≡◌, ℕ, ◌-◌, ap, arith, bytes_eq, length}
use Rattle.svn_dump.proofs.Revisions.{length-trees_of}
use Rattle.svn_dump.specs.Dump.{history_in_bytes}
use Rattle.query_answer.specs.Repo.{trees_in_bytes}
use Rattle.branch_answer.proofs.new_revisions.all_revisions.Goals as goal

pub returns : goal.returns
returns c =
    let dump = c.args.repo.now in
    let last : c.youngest.result ≡ length (trees_in_bytes dump) - 1 =
    omega (arith, c.youngest.ensures, length-trees_of bytes_eq (history_in_bytes dump)) in
    let range : ℕ → ℕ × ℕ = λ rev. (0, rev) in
    ap range last
