use Rattle.ra_jobs.proofs.CompleteLemmas.{never_rose, no_read_fault, no_write_fault}
use Rattle.ra_jobs.proofs.EndLemmas.{ends_of}
use Rattle.ra_jobs.proofs.steady.check_steady.Goals as goal

pub returns-clause-no_read_fault : goal.returns-clause-no_read_fault
returns-clause-no_read_fault c =
    no_read_fault
    (ends_of _ _ _ _ _
    c.check_run.ensures) (λ name. never_rose)

pub returns-clause-no_write_fault : goal.returns-clause-no_write_fault
returns-clause-no_write_fault c =
    no_write_fault
    (ends_of _ _ _ _ _
    c.check_run.ensures) (λ printed. never_rose printed.text.1)

pub returns-clause-complete : goal.returns-clause-complete
returns-clause-complete c = λ valid. c.check_run.ensures.complete (valid, λ f named. never_rose) never_rose
