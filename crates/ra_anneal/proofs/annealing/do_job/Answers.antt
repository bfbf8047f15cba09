-- What the command of one job does is what that of the job of the words does.
use Rattle.ra_jobs.proofs.DoesLemmas.{does_for}
use Rattle.ra_anneal.specs.Headline.{annealing}
use Rattle.ra_anneal.proofs.annealing.do_job.Goals as goal

pub returns-in-Anneal : goal.returns-in-Anneal
returns-in-Anneal g c =
    rw c.in-Anneal.is
    (does_for annealing _ _ _ _ _ _
    (rw (c.as_ref.ensures.value, c.as_ref-in-Anneal.ensures.value) at c.files_of-names.ensures.names) c.anneal_job.ensures)
