use Rattle.svnhist.proofs.program.run.Goals as goal

pub returns-in-Err-clause-refused : goal.returns-in-Err-clause-refused
returns-in-Err-clause-refused g c = λ same other. record { error = c.in-Err.error; asked = c.in-Err.ensures.error; line = rw c.from.ensures c.print.ensures }
