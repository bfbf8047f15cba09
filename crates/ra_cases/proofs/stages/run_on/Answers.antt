use Rattle.ra_cases.proofs.stages.run_on.Goals as goal

pub returns-in-Reassign : goal.returns-in-Reassign
returns-in-Reassign g c = rw c.in-Reassign.is (c.run.ensures.usage, c.run.ensures.does)

pub returns-in-Anneal : goal.returns-in-Anneal
returns-in-Anneal g c = rw c.in-Anneal.is (c.anneal_run.ensures.usage, c.anneal_run.ensures.does)
