use Rattle.std.proofs.Common.{◌≡◌, ◌++◌, ℕ, List}
use Rattle.svnhist.specs.Bundle.{AreLines}
use Rattle.svnhist.proofs.bundle_reader.split_lines.Given as goal

abbrev pub invariant-loop : goal.invariant-loop
invariant-loop l = (taken : List ℕ) × (l.bytes ≡ taken ++ l.rest) × AreLines l.counter taken
