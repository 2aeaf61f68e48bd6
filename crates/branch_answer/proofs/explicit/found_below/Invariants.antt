use Rattle.std.proofs.Common.{ℕ}
use Rattle.svn_dump.specs.Tree.{tree_of}
use Rattle.query_answer.specs.Repo.{trees_in_bytes}
use Rattle.branch_answer.proofs.LevelsWalked.{AreWalked, levels_left}
use Rattle.branch_answer.proofs.explicit.found_below.Given as goal

abbrev pub invariant-levels : goal.invariant-levels
invariant-levels l = (depth : ℕ) × AreWalked l.fn.repo l.fn.at.rev l.fn.at.path depth l.found.items l.level.items

abbrev pub decreases-levels : goal.decreases-levels
decreases-levels l = levels_left (tree_of (trees_in_bytes l.fn.repo) l.fn.at.rev) l.level.items
