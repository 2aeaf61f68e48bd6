use Rattle.query_answer.proofs.verbs.pair.chosen_revisions.Goals as goal

pub returns-in-Merged : goal.returns-in-Merged
returns-in-Merged c = record { answer = rw c.in-Merged.is c.merged_revisions.ensures.answer; found = c.merged_revisions.ensures.found }

pub returns-in-Eligible : goal.returns-in-Eligible
returns-in-Eligible c = record { answer = rw c.in-Eligible.is c.eligible_revisions.ensures.answer; found = c.eligible_revisions.ensures.found }
